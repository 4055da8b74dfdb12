-- What `sqrt` means, said without its definition: the result is q * 2 ^ k units, with q of 24 digits or the next power of two,
-- and the exact root lies strictly between the two middles beside it: ((2 q - 1) * 2 ^ k) ^ 2 < 4 N < ((2 q + 1) * 2 ^ k) ^ 2, where N is the square
-- of the exact root in units. Assumes nothing.
use Rattle.std.specs.Prelude.{◌≡◌, ℕ, suc, ◌+◌, ◌-◌, ◌*◌, ◌/◌, ◌%◌, ◌^◌, ◌<◌, ◌≤◌, Bool, true, false, cond, not, T, ◌⊎◌, ◌≢◌, nat_le, nat_lt, Float}
use Rattle.std.proofs.Common.{sym, ap, ◌∙◌, inl, inr, zero-le, arith, leb→le, ltb→lt, nltb→le, lit≤, lit<, pow-add, pow_pos, pow_mono}
use Rattle.std.proofs.Math.Path.{subst}
use native.Mathlib.Nat.{le_refl, le_trans, le_of_eq, le_of_lt, lt_of_lt_of_le, lt_of_le_of_lt, lt_of_not-le, not-le_of_lt, eq-or-lt_of_le, le_of_suc-le-suc}
use native.Mathlib.Nat.{mul_comm, mul_assoc, one-mul, mul-mul-mul_comm, mul-le-mul, mul-le-mul_right, mul-lt-mul_of_pos_right, eq_of_mul-eq-mul_right}
use native.Mathlib.Nat.{div-mul-le_self, lt-div-mul-add, le-div_iff_mul-le, pow-succ', sub-add_cancel, suc-mul, le-mul_of_pos_right, mul_left_comm}
use Rattle.std.proofs.Math.Dec.{nleb→lt}
use Rattle.std.specs.Float.Ieee.{binary32, size}
use Rattle.std.specs.Float.Ieee.Fits.{kept-lt}
use Rattle.std.specs.Float.Ieee.Digits.{size-lt, size-le, size_reaches}
use Rattle.std.specs.Float.Ieee.Exact.{units_val}
use Rattle.floats.specs.UnitLaws.{Val}
use Rattle.floats.specs.RoundingLaws.{Rep}
use Rattle.floats.specs.RootLaws.{isq_root, root_lt, sqrt_at}
use Rattle.floats.specs.Library.{root_units, sqrt, whole_root}

-- an odd c above m: no power of two makes the two equal
no_tie : (m i c d : ℕ) → m < c → c % 2 ≡ 1 → m * 2 ^ i ≢ c * 2 ^ d
no_tie m i c d l o e = go (nat_le i d) (leb→le i d) (nleb→lt i d)
  where
    even_odd : (c t : ℕ) → c % 2 ≡ 1 → c ≢ 2 * t
    even_odd c t o h = omega arith

    shift : (a j k : ℕ) → k ≤ j → a * 2 ^ j ≡ a * 2 ^ (j - k) * 2 ^ k
    shift a j k h = ap (λ (z : ℕ). a * 2 ^ z) (sym (sub-add_cancel h)) ∙ ap (λ (z : ℕ). a * z) (pow-add 2 (j - k) k) ∙ sym (mul_assoc a (2 ^ (j - k)) (2 ^ k))

    pred : (a : ℕ) → 0 < a → a ≡ suc (a - 1)
    pred a h = omega arith

    gap : (i d : ℕ) → d < i → 0 < i - d
    gap i d h = omega arith

    go : (b : Bool) → (T b → i ≤ d) → (T (not b) → d < i) → ⊥
    go true u v =
        let w : m ≡ c * 2 ^ (d - i) = eq_of_mul-eq-mul_right (2 ^ i) (pow_pos i) m (c * 2 ^ (d - i)) (e ∙ shift c d i (u tt)) in
        not-le_of_lt l (le_trans (le-mul_of_pos_right c (pow_pos (d - i))) (le_of_eq (sym w)))
    go false u v =
        let w : m * 2 ^ (i - d) ≡ c = eq_of_mul-eq-mul_right (2 ^ d) (pow_pos d) (m * 2 ^ (i - d)) c (sym (shift m i d (le_of_lt (v tt))) ∙ e) in
        let t = i - d - 1 in
        let p : i - d ≡ suc t = pred (i - d) (gap i d (v tt)) in
        even_odd c (m * 2 ^ t) o (sym w ∙ ap (λ (z : ℕ). m * 2 ^ z) p ∙ ap (λ (z : ℕ). m * z) (pow-succ' 2 t) ∙ mul_left_comm m 2 (2 ^ t))

pub record Nearest (N q k : ℕ) : Type 0 where
  pub digits : (2 ^ 23 ≤ q) × (q ≤ 2 ^ 24)
  pub above : (2 * q - 1) * 2 ^ k * ((2 * q - 1) * 2 ^ k) < 4 * N
  pub below : 4 * N < (2 * q + 1) * 2 ^ k * ((2 * q + 1) * 2 ^ k)

square_lt : (a b u : ℕ) → 0 < u → a < b → a * u * (a * u) < b * u * (b * u)
square_lt a b u U h =
    let v : a * u < b * u = mul-lt-mul_of_pos_right h U in
    lt_of_le_of_lt (mul-le-mul (le_refl (a * u)) (le_of_lt v)) (mul-lt-mul_of_pos_right v (lt_of_le_of_lt zero-le v))

four : (q u : ℕ) → 2 * q * u * (2 * q * u) ≡ 4 * (q * u * (q * u))
four q u = ap (λ (z : ℕ). z * z) (mul_assoc 2 q u) ∙ mul-mul-mul_comm 2 (q * u) 2 (q * u)

-- N is n units times 2 ^ 149, n a number that the format holds
module _ (n : ℕ) (r : Rep binary32 n) (p : 0 < n) where
  abbrev N : ℕ
  N = n * 2 ^ 149

  abbrev w : ℕ
  w = whole_root 554 N

  abbrev k : ℕ
  k = size w - 24

  abbrev q : ℕ
  q = w / 2 ^ k

  abbrev mid : ℕ
  mid = (2 * q + 1) * 2 ^ k * ((2 * q + 1) * 2 ^ k)

  roots : (w * w ≤ N) × (N < suc w * suc w)
  roots = isq_root 554 N (lt_of_lt_of_le (mul-lt-mul_of_pos_right r.4 (pow_pos 149)) (lit≤ tt))

  big : 2 ^ 74 ≤ w
  big =
      le_of_suc-le-suc (root_lt (2 ^ 74) (suc w)
      (lt_of_le_of_lt (le_trans (lit≤ tt) (le_trans (le_of_eq (sym (one-mul (2 ^ 149)))) (mul-le-mul_right (2 ^ 149) p))) roots.1))

  long : 74 < size w
  long = lt_of_not-le (λ (g : size w ≤ 74). not-le_of_lt (lt_of_lt_of_le (size-lt w) (pow_mono g)) big)

  q_hi : q < 2 ^ 24
  q_hi = kept-lt 24 w

  q_lo : 2 ^ 23 ≤ q
  q_lo = (le-div_iff_mul-le (pow_pos k)).1 (le_trans (le_of_eq (sym (pow-add 2 23 k))) (size_reaches w (23 + k) (inside (size w) long)))
    where
      inside : (s : ℕ) → 74 < s → 23 + (s - 24) < s
      inside s h = omega arith

  floor_lo : q * 2 ^ k * (q * 2 ^ k) ≤ N
  floor_lo = le_trans (mul-le-mul (div-mul-le_self w (2 ^ k)) (div-mul-le_self w (2 ^ k))) roots.0

  floor_hi : N < suc q * 2 ^ k * (suc q * 2 ^ k)
  floor_hi =
      let s : suc w ≤ suc q * 2 ^ k = le_trans (lt-div-mul-add (pow_pos k)) (le_of_eq (sym (suc-mul q (2 ^ k)))) in
      lt_of_lt_of_le roots.1 (mul-le-mul s s)

  odd_mid : 4 * N ≡ mid → ⊥
  odd_mid e =
      no_tie r.0 (r.1 + 151) ((2 * q + 1) * (2 * q + 1)) (k + k)
      (lt_of_lt_of_le r.2 (le_trans (lit≤ tt) (mul-le-mul wide wide))) (odd_odd (2 * q + 1) (odd_one q))
      (pow151 r.0 r.1 n r.3 ∙ e ∙ mul-mul-mul_comm (2 * q + 1) (2 ^ k) (2 * q + 1) (2 ^ k) ∙
      ap (λ (z : ℕ). (2 * q + 1) * (2 * q + 1) * z) (sym (pow-add 2 k k)))
    where
      wide : 8388608 ≤ 2 * q + 1
      wide = grow q q_lo
        where
          grow : (q : ℕ) → 8388608 ≤ q → 8388608 ≤ 2 * q + 1
          grow q h = omega arith

      odd_one : (q : ℕ) → (2 * q + 1) % 2 ≡ 1
      odd_one q = omega arith

      odd_odd : (a : ℕ) → a % 2 ≡ 1 → a * a % 2 ≡ 1
      odd_odd a h = go (a / 2) (half a h)
        where
          half : (a : ℕ) → a % 2 ≡ 1 → a ≡ 2 * (a / 2) + 1
          half a h = omega arith

          split : (a b : ℕ) → a ≡ 2 * b + 1 → a * a ≡ 2 * (b * a) + a
          split a b e =
              ap (λ (z : ℕ). z * a) e ∙ native.Mathlib.Nat.add-mul (2 * b) 1 a ∙ ap (λ (z : ℕ). z + 1 * a) (mul_assoc 2 b a) ∙
              ap (λ (z : ℕ). 2 * (b * a) + z) (one-mul a)

          last : (X a : ℕ) → a % 2 ≡ 1 → (2 * X + a) % 2 ≡ 1
          last X a h = omega arith

          go : (b : ℕ) → a ≡ 2 * b + 1 → a * a % 2 ≡ 1
          go b e = ap (λ (z : ℕ). z % 2) (split a b e) ∙ last (b * a) a h

      pow151 : (m j n : ℕ) → n ≡ m * 2 ^ j → m * 2 ^ (j + 151) ≡ 4 * (n * 2 ^ 149)
      pow151 m j n e =
          ap (λ (z : ℕ). m * z) (pow-add 2 j 151) ∙ sym (mul_assoc m (2 ^ j) (2 ^ 151)) ∙ ap (λ (z : ℕ). z * 2 ^ 151) (sym e) ∙
          sym (mul_assoc n (2 ^ 149) 4) ∙ mul_comm (n * 2 ^ 149) 4

  root_nearest_at : (b : Bool) → (T b → mid < 4 * N) → (T (not b) → 4 * N ≤ mid) → Nearest N (cond b (suc q) q) k
  root_nearest_at true u v =
      record {
        digits = (le_trans q_lo (native.Mathlib.Nat.le-suc q), q_hi);
        above = subst (λ (z : ℕ). z * 2 ^ k * (z * 2 ^ k) < 4 * N) (sym (down q)) (u tt);
        below =
            lt_of_le_of_lt (mul-le-mul (le_refl 4) (le_of_lt floor_hi))
            (lt_of_le_of_lt (le_of_eq (sym (four (suc q) (2 ^ k)))) (square_lt (2 * suc q) (2 * suc q + 1) (2 ^ k) (pow_pos k) (next (suc q))));
      }
    where
      down : (q : ℕ) → 2 * suc q - 1 ≡ 2 * q + 1
      down q = omega arith

      next : (q : ℕ) → 2 * q < 2 * q + 1
      next q = omega arith
  root_nearest_at false u v =
      record {
        digits = (q_lo, le_of_lt q_hi);
        above =
            lt_of_lt_of_le (square_lt (2 * q - 1) (2 * q) (2 ^ k) (pow_pos k) (prev q (le_trans (lit≤ tt) q_lo)))
            (le_trans (le_of_eq (four q (2 ^ k))) (mul-le-mul (le_refl 4) floor_lo));
        below = strict (eq-or-lt_of_le (v tt));
      }
    where
      prev : (q : ℕ) → 1 ≤ q → 2 * q - 1 < 2 * q
      prev q h = omega arith

      strict : (4 * N ≡ mid) ⊎ (4 * N < mid) → 4 * N < mid
      strict (inl e) = absurd (odd_mid e)
      strict (inr l) = l

  pub root_nearest : (x : Float) → Val binary32 x false n → (q' : ℕ) × Val binary32 (sqrt binary32 x) false (q' * 2 ^ k) × Nearest N q' k
  unfolding root_units
  root_nearest x v =
      let q' = cond (nat_lt mid (4 * N)) (suc q) q in
      let t = root_nearest_at (nat_lt mid (4 * N)) (ltb→lt mid (4 * N)) (nltb→le mid (4 * N)) in
      (q', subst (λ (z : Float). Val binary32 z false (q' * 2 ^ k)) (sym (sqrt_at binary32 x n p v)) (units_val binary32 false q' k (top q' t.digits.1)), t)
    where
      short : size w ≤ 213
      short = size-le w 213 (root_lt w (2 ^ 213) (lt_of_le_of_lt roots.0 (lt_of_lt_of_le (mul-lt-mul_of_pos_right r.4 (pow_pos 149)) (lit≤ tt))))

      room : (s : ℕ) → s ≤ 213 → s - 24 ≤ 189
      room s h = omega arith

      top : (a : ℕ) → a ≤ 2 ^ 24 → a * 2 ^ k < 2 ^ 277
      top a h = lt_of_le_of_lt (mul-le-mul h (pow_mono (room (size w) short))) (lit< tt)
