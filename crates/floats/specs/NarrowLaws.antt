-- An f64 to the nearest f32, ties to the even one, and how whole numbers find it. A positive f64 is m * 2 ^ (e - 1) of its units, with the field e
-- and m of 53 digits.
-- In units of the f32 that is m * 2 ^ (e - 1) / 2 ^ 925. Assumes nothing.
use Rattle.std.specs.Prelude.{◌≡◌, ℕ, zero, suc, ◌+◌, ◌-◌, ◌*◌, ◌/◌, ◌%◌, ◌^◌, ◌<◌, ◌≤◌, Bool, true, false, cond, not, T, ◌≢◌, nat_lt, to_bits, Float}
use Rattle.std.proofs.Math.Path.{refl, sym}
use Rattle.std.proofs.Common.{ap, ◌∙◌, subst, inl}
use Rattle.std.proofs.Math.Logic.{inr}
use Prim.Native.Nat.{zero-le, compare, Ordering}
use native.Mathlib.Nat.{le_trans, le_of_eq, le_of_lt, lt_of_lt_of_le, lt_of_le_of_lt, lt_irrefl, not-le_of_lt, eq-or-lt_of_le, zero-lt-suc, mul_assoc}
use native.Mathlib.Nat.{mul_right_comm, mul-one, one-mul, mul-pos, mul-le-mul, mul-le-mul_right, mul-lt-mul_of_pos_right, mul-div-mul_right}
use native.Mathlib.Nat.{le-div_iff_mul-le, div-lt_iff_lt-mul, div-eq_of_lt, mod-eq_of_lt}
use native.Mathlib.Omega.{arith}
use lib.Dec.{is_le, compare_is_eq, leb→le, ltb→lt, nltb→le, eqb→eq, lit≤, lit<}
use Rattle.std.proofs.Math.Arith.{le→nltb}
use lib.Pow.{pow-add, pow_pos, pow_mono}
use Rattle.std.specs.Float.{nan, inf, fin, Format, binary32, binary64}
use Rattle.std.specs.Float.Ieee.{prec, emax, low, up, down, size, nearest, odd, units, round, of_bits, fits, neg, ne}
use Rattle.std.specs.Float.Ieee.Fits.{round_is, round-fits, nan-fits, inf-fits, down_pos, eq→eqb, nearest-le}
use Rattle.std.specs.Float.Ieee.Digits.{size-le}
use Rattle.std.specs.Float.Ieee.Exact.{units_val}
use Rattle.std.specs.Float.Ieee.Bits.{of_bits-to_bits, to_bits-lt}
use Rattle.std.specs.Float.Ieee.Compare.{differs_from_itself}
use Rattle.std.specs.Float.Ieee.Nearest.{closest, closest_same, nearest-ge}
use Rattle.std.specs.Float.Ieee.Scale.{round_same}
use Rattle.floats.specs.UnitLaws.{Val, neg_neg}
use Rattle.floats.specs.PatternLaws.{size_is, write, write_small, write_carry, read_low, read_high, pattern_neg, units_fit}
use Rattle.floats.specs.Library.{narrow}

-- at a value of n units of the f64
pub narrow_at : (x : Float) (n : ℕ) → Val binary64 x false n → narrow x ≡ round binary32 false n (2 ^ 1074)
unfolding narrow
narrow_at nan n v = absurd v
narrow_at (inf s) n v = absurd v
narrow_at (fin s m e) n v =
    round_same binary32 s (m * up e) (down e) n (2 ^ 1074) (down_pos e) (pow_pos 1074) v.1 ∙ ap (λ (b : Bool). round binary32 b n (2 ^ 1074)) v.0

-- ---- `round`, in units of the f32: k digits of n / 2 ^ 925 are dropped
round_k : (n k : ℕ) → size (n / 2 ^ 925) - 24 ≡ k → round binary32 false n (2 ^ 1074) ≡ units binary32 false (closest n (2 ^ 925 * 2 ^ k)) k
round_k n k e =
    let a : n * 2 ^ 149 / 2 ^ 1074 ≡ n / 2 ^ 925 = mul-div-mul_right n (2 ^ 925) (pow_pos 149) in
    round_is binary32 false n (2 ^ 1074)
    ∙ ap (λ (z : ℕ). units binary32 false (closest (n * 2 ^ 149) (2 ^ 1074 * 2 ^ z)) z) (ap (λ (z : ℕ). size z - 24) a ∙ e)
    ∙ ap (λ (z : ℕ). units binary32 false z k)
    (closest_same (n * 2 ^ 149) (2 ^ 1074 * 2 ^ k) n (2 ^ 925 * 2 ^ k) (mul-pos (pow_pos 1074) (pow_pos k)) (mul-pos (pow_pos 925) (pow_pos k))
    (mul_assoc n (2 ^ 149) (2 ^ 925 * 2 ^ k) ∙ ap (λ (z : ℕ). n * z) (sym (mul_assoc (2 ^ 149) (2 ^ 925) (2 ^ k)))))

-- ---- m has 53 digits, and e is the field
module _ (m e : ℕ) (lo : 2 ^ 52 ≤ m) (hi : m < 2 ^ 53) where
  abbrev n : ℕ
  n = m * 2 ^ (e - 1)

  -- from 2 ^ -126 on: 29 digits go
  pub narrow_high : 897 ≤ e → round binary32 false n (2 ^ 1074) ≡ units binary32 false (closest m (2 ^ 29)) (e - 897)
  narrow_high h =
      let z = e - 874 in
      let k = e - 897 in
      let a : 2 ^ z ≤ n / 2 ^ 925 =
      (le-div_iff_mul-le (pow_pos 925)).1
      (le_trans (le_of_eq (sym (pow-add 2 z 925) ∙ ap (λ (y : ℕ). 2 ^ y) (low_end e h) ∙ pow-add 2 52 (e - 1))) (mul-le-mul_right (2 ^ (e - 1)) lo)) in
      let b : n / 2 ^ 925 < 2 ^ suc z =
      (div-lt_iff_lt-mul (pow_pos 925)).1
      (lt_of_lt_of_le (mul-lt-mul_of_pos_right hi (pow_pos (e - 1))) (le_of_eq (sym (pow-add 2 53 (e - 1)) ∙
      ap (λ (y : ℕ). 2 ^ y) (high_end e h) ∙ pow-add 2 (suc z) 925))) in
      round_k n k (ap (λ (y : ℕ). y - 24) (size_is (n / 2 ^ 925) z a b) ∙ dropped e h)
      ∙ ap (λ (y : ℕ). units binary32 false y k)
      (closest_same n (2 ^ 925 * 2 ^ k) m (2 ^ 29) (mul-pos (pow_pos 925) (pow_pos k)) (pow_pos 29)
      (mul_assoc m (2 ^ (e - 1)) (2 ^ 29) ∙ ap (λ (y : ℕ). m * y) (sym (pow-add 2 (e - 1) 29) ∙ ap (λ (y : ℕ). 2 ^ y) (both e h) ∙ pow-add 2 925 k)))
    where
      low_end : (e : ℕ) → 897 ≤ e → e - 874 + 925 ≡ 52 + (e - 1)
      low_end e h = omega arith

      high_end : (e : ℕ) → 897 ≤ e → 53 + (e - 1) ≡ suc (e - 874) + 925
      high_end e h = omega arith

      dropped : (e : ℕ) → 897 ≤ e → suc (e - 874) - 24 ≡ e - 897
      dropped e h = omega arith

      both : (e : ℕ) → 897 ≤ e → e - 1 + 29 ≡ 925 + (e - 897)
      both e h = omega arith

  -- below that: the result is a whole number of the smallest value
  pub narrow_low : 1 ≤ e → e < 897 → round binary32 false n (2 ^ 1074) ≡ units binary32 false (closest m (2 ^ (926 - e))) 0
  narrow_low p h =
      let b : n / 2 ^ 925 < 2 ^ 24 =
      (div-lt_iff_lt-mul (pow_pos 925)).1
      (lt_of_lt_of_le (mul-lt-mul_of_pos_right hi (pow_pos (e - 1)))
      (le_trans (le_of_eq (sym (pow-add 2 53 (e - 1)))) (le_trans (pow_mono (short e h)) (le_of_eq (pow-add 2 24 925))))) in
      round_k n 0 (none (size (n / 2 ^ 925)) (size-le (n / 2 ^ 925) 24 b))
      ∙ ap (λ (y : ℕ). units binary32 false y 0)
      (closest_same n (2 ^ 925) m (2 ^ (926 - e)) (pow_pos 925) (pow_pos (926 - e))
      (mul_assoc m (2 ^ (e - 1)) (2 ^ (926 - e)) ∙ ap (λ (y : ℕ). m * y) (sym (pow-add 2 (e - 1) (926 - e)) ∙ ap (λ (y : ℕ). 2 ^ y) (both e p h))))
    where
      short : (e : ℕ) → e < 897 → 53 + (e - 1) ≤ 24 + 925
      short e h = omega arith

      none : (s : ℕ) → s ≤ 24 → s - 24 ≡ 0
      none s h = omega arith

      both : (e : ℕ) → 1 ≤ e → e < 897 → e - 1 + (926 - e) ≡ 925
      both e p h = omega arith

-- ---- the rounding of a fraction, by its remainder
pub closest_up : (a b : ℕ) → b < a % b * 2 → a / b + 1 ≡ closest a b
closest_up a b h = one (a / b) ∙ sym (go (compare (a % b * 2) b) (λ t. not-le_of_lt h (leb→le (a % b * 2) b t)))
  where
    one : (q : ℕ) → q + 1 ≡ suc q
    one q = omega arith

    go : (o : Ordering) → (T (is_le o) → ⊥) → nearest (a / b) o ≡ suc (a / b)
    go Ordering.lt n = absurd (n tt)
    go Ordering.eq n = absurd (n tt)
    go Ordering.gt n = refl

pub closest_tie : (a b : ℕ) → a % b * 2 ≡ b → a / b + a / b % 2 ≡ closest a b
closest_tie a b h = sym (go (compare (a % b * 2) b) (eq→eqb h))
  where
    go : (o : Ordering) → T (compare_is_eq o) → nearest (a / b) o ≡ a / b + a / b % 2
    go Ordering.lt t = absurd t
    go Ordering.eq t = refl
    go Ordering.gt t = absurd t

pub closest_down : (a b : ℕ) → a % b * 2 < b → a / b ≡ closest a b
closest_down a b h =
    sym (go (compare (a % b * 2) b) (lib.Dec.le→leb (a % b * 2) b (le_of_lt h)) (λ t. lt_irrefl b (subst (λ (z : ℕ). z < b) (eqb→eq (a % b * 2) b t) h)))
  where
    go : (o : Ordering) → T (is_le o) → (T (compare_is_eq o) → ⊥) → nearest (a / b) o ≡ a / b
    go Ordering.lt t n = refl
    go Ordering.eq t n = absurd (n tt)
    go Ordering.gt t n = absurd t

-- less than half of b rounds to nothing
pub closest_none : (a b : ℕ) → a * 2 < b → closest a b ≡ 0
closest_none a b h =
    let l : a < b = half a b h in
    sym (closest_down a b (subst (λ (z : ℕ). z * 2 < b) (sym (mod-eq_of_lt l)) h)) ∙ div-eq_of_lt l
  where
    half : (a b : ℕ) → a * 2 < b → a < b
    half a b h = omega arith

-- ---- patterns
-- from the overflow on, the infinity
over : (q k : ℕ) → 2 ^ 277 ≤ q * 2 ^ k → units binary32 false q k ≡ inf false
unfolding units
over q k h = go (nat_lt (q * 2 ^ k) (2 ^ 277)) (le→nltb (q * 2 ^ k) (2 ^ 277) h)
  where
    go : (b : Bool) → T (not b) → cond b (odd 25 false q k 149) (inf false) ≡ inf false
    go true t = absurd t
    go false t = refl

inf_pattern : of_bits binary32 0x7f800000 ≡ inf false
unfolding of_bits
inf_pattern = refl

pub pattern_high : (q k : ℕ) → 2 ^ 23 ≤ q → q ≤ 2 ^ 24 → k ≤ 253 → units binary32 false q k ≡ of_bits binary32 (k * 8388608 + q)
pattern_high q k lo hi l = go (nat_lt (q * 2 ^ k) (2 ^ 277)) (ltb→lt (q * 2 ^ k) (2 ^ 277)) (nltb→le (q * 2 ^ k) (2 ^ 277))
  where
    wrote : q * 2 ^ k < 2 ^ 277 → to_bits binary32 (units binary32 false q k) ≡ k * 8388608 + q
    wrote s = elim (eq-or-lt_of_le hi) [
      | inl e ↦ write_carry binary32 (units binary32 false q k) q k e (units_val binary32 false q k s)
      | inr u ↦ write binary32 (units binary32 false q k) q k lo u (units_val binary32 false q k s)
    ]

    -- only the largest k and q reach it
    top_k : 2 ^ 277 ≤ q * 2 ^ k → k ≡ 253
    top_k h = last k l (λ (g : k ≤ 252). not-le_of_lt (lt_of_le_of_lt (mul-le-mul hi (pow_mono g)) (lit< {m = 2 ^ 24 * 2 ^ 252} {n = 2 ^ 277} tt)) h)
      where
        last : (k : ℕ) → k ≤ 253 → (k ≤ 252 → ⊥) → k ≡ 253
        last k h n = omega arith

    top_q : 2 ^ 277 ≤ q * 2 ^ k → q ≡ 2 ^ 24
    top_q h =
        native.Mathlib.Nat.le_antisymm hi
        (native.Mathlib.Nat.le_of_mul-le-mul_right (subst (λ (z : ℕ). 2 ^ 24 * 2 ^ 253 ≤ q * 2 ^ z) (top_k h) h) (pow_pos 253))

    go : (b : Bool) → (T b → q * 2 ^ k < 2 ^ 277) → (T (not b) → 2 ^ 277 ≤ q * 2 ^ k) → units binary32 false q k ≡ of_bits binary32 (k * 8388608 + q)
    go true u v = sym (of_bits-to_bits binary32 (units binary32 false q k) (units_fit binary32 q k hi)) ∙ ap (of_bits binary32) (wrote (u tt))
    go false u v =
        over q k (v tt) ∙ sym inf_pattern
        ∙ ap (of_bits binary32) (sym (ap (λ (z : ℕ). z * 8388608 + q) (top_k (v tt)) ∙ ap (λ (z : ℕ). 253 * 8388608 + z) (top_q (v tt))))

pub pattern_low : (q : ℕ) → q < 2 ^ 24 → units binary32 false q 0 ≡ of_bits binary32 q
pattern_low q h =
    let s : q * 2 ^ 0 < 2 ^ 277 = lt_of_le_of_lt (le_of_eq (mul-one q)) (lt_of_lt_of_le h (lit≤ tt)) in
    sym (of_bits-to_bits binary32 (units binary32 false q 0) (units_fit binary32 q 0 (le_of_lt h)))
    ∙ ap (of_bits binary32) (write_small binary32 (units binary32 false q 0) q h
    (subst (λ (z : ℕ). Val binary32 (units binary32 false q 0) false z) (mul-one q) (units_val binary32 false q 0 s)))

-- ---- bounds of what is kept
pub kept_high : (m : ℕ) → 2 ^ 52 ≤ m → m < 2 ^ 53 → (2 ^ 23 ≤ closest m (2 ^ 29)) × (closest m (2 ^ 29) ≤ 2 ^ 24)
kept_high m lo hi = (
  le_trans (low m lo) (nearest-ge (m / 2 ^ 29) (compare (m % 2 ^ 29 * 2) (2 ^ 29))),
  le_trans (nearest-le (m / 2 ^ 29) (compare (m % 2 ^ 29 * 2) (2 ^ 29))) (high m hi),
)
  where
    low : (m : ℕ) → 2 ^ 52 ≤ m → 2 ^ 23 ≤ m / 536870912
    low m h = omega arith

    high : (m : ℕ) → m < 2 ^ 53 → suc (m / 536870912) ≤ 2 ^ 24
    high m h = omega arith

pub kept_low : (m s : ℕ) → m < 2 ^ 53 → 30 ≤ s → closest m (2 ^ s) < 2 ^ 24
kept_low m s hi h =
    lt_of_le_of_lt (nearest-le (m / 2 ^ s) (compare (m % 2 ^ s * 2) (2 ^ s)))
    (lt_of_le_of_lt ((div-lt_iff_lt-mul (pow_pos s)).1
    (lt_of_lt_of_le hi (le_trans (le_of_eq (pow-add 2 23 30)) (native.Mathlib.Nat.mul-le-mul_left (2 ^ 23) (pow_mono h))))) (lit< tt))

-- ---- a pattern b of an f64 from +0 up to the infinity
abbrev H : ℕ
H = 4503599627370496

module _ (b : ℕ) (top-b : b ≤ 0x7ff0000000000000) where
  under : b < 2 ^ 63
  under = lt_of_le_of_lt top-b (lit< tt)

  abbrev e : ℕ
  e = b / H

  abbrev m : ℕ
  m = H + b % H

  m_lo : 2 ^ 52 ≤ m
  m_lo = go (b % H)
    where
      go : (t : ℕ) → 2 ^ 52 ≤ H + t
      go t = omega arith

  m_hi : m < 2 ^ 53
  m_hi = go b
    where
      go : (b : ℕ) → H + b % H < 2 ^ 53
      go b = omega arith

  -- a field from 1 up to 2046
  value : 0 < e → e < 2047 → narrow (of_bits binary64 b) ≡ round binary32 false (m * 2 ^ (e - 1)) (2 ^ 1074)
  value p l =
      narrow_at (of_bits binary64 b) (m * 2 ^ (e - 1)) (read_high binary64 b (e - 1) under (up_one e p) (subst (λ (z : ℕ). z < 2047) (up_one e p) l))
    where
      up_one : (d : ℕ) → 0 < d → d ≡ suc (d - 1)
      up_one d h = omega arith

  pub narrow_mid : 897 ≤ e → e ≤ 1150 → of_bits binary32 ((e - 897) * 8388608 + closest m (2 ^ 29)) ≡ narrow (of_bits binary64 b)
  narrow_mid h l =
      let k = kept_high m m_lo m_hi in
      sym (value (lt_of_lt_of_le (lit< tt) h) (lt_of_le_of_lt l (lit< tt)) ∙ narrow_high m e m_lo m_hi h ∙
      pattern_high (closest m (2 ^ 29)) (e - 897) k.0 k.1 (room e l))
    where
      room : (e : ℕ) → e ≤ 1150 → e - 897 ≤ 253
      room e h = omega arith

  pub narrow_under : 872 ≤ e → e < 897 → of_bits binary32 (closest m (2 ^ (926 - e))) ≡ narrow (of_bits binary64 b)
  narrow_under h l =
      sym (value (lt_of_lt_of_le (lit< tt) h) (lt_of_lt_of_le l (lit≤ tt)) ∙ narrow_low m e m_lo m_hi (le_trans (lit≤ tt) h) l ∙
      pattern_low (closest m (2 ^ (926 - e))) (kept_low m (926 - e) m_hi (room e l)))
    where
      room : (e : ℕ) → e < 897 → 30 ≤ 926 - e
      room e h = omega arith

  tiny : (n : ℕ) → n * 2 < 2 ^ 925 → round binary32 false n (2 ^ 1074) ≡ of_bits binary32 0
  tiny n h =
      round_k n 0 (ap (λ (z : ℕ). size z - 24) (div-eq_of_lt (half n h)) ∙ none)
      ∙ ap (λ (z : ℕ). units binary32 false z 0) (closest_none n (2 ^ 925) h) ∙ pattern_low 0 (lit< tt)
    where
      none : size 0 - 24 ≡ 0
      none = unfold size in refl

      half : (n : ℕ) → n * 2 < 2 ^ 925 → n < 2 ^ 925
      half n l = lt_of_le_of_lt (native.Mathlib.Nat.le-mul_of_pos_right n (zero-lt-suc 1)) l

  pub narrow_zero : e < 872 → of_bits binary32 0 ≡ narrow (of_bits binary64 b)
  narrow_zero l = elim (native.Mathlib.Nat.eq-zero-or-pos e) [
    | inl z ↦ sym (narrow_at (of_bits binary64 b) (b % H) (read_low binary64 b under z) ∙ tiny (b % H) (lt_of_lt_of_le (small b) (lit≤ tt)))
    | inr p ↦
        sym (value p (lt_of_lt_of_le l (lit≤ tt)) ∙ tiny (m * 2 ^ (e - 1))
        (lt_of_le_of_lt (le_of_eq (mul_right_comm m (2 ^ (e - 1)) 2))
        (lt_of_lt_of_le (mul-lt-mul_of_pos_right (twice m m_hi) (pow_pos (e - 1))) (le_trans (le_of_eq (sym (pow-add 2 54 (e - 1)))) (pow_mono (room e l))))))
  ]
    where
      small : (b : ℕ) → b % H * 2 < 2 ^ 53
      small b = omega arith

      twice : (m : ℕ) → m < 2 ^ 53 → m * 2 < 2 ^ 54
      twice m h = omega arith

      room : (e : ℕ) → e < 872 → 54 + (e - 1) ≤ 925
      room e h = omega arith

  pub narrow_over : 1150 < e → of_bits binary32 0x7f800000 ≡ narrow (of_bits binary64 b)
  narrow_over h = elim (eq-or-lt_of_le top-b) [
    | inl z ↦ inf_pattern ∙ sym (ap (λ (y : ℕ). narrow (of_bits binary64 y)) z ∙ unfold narrow of_bits in refl)
    | inr l ↦
        inf_pattern ∙ sym (value (lt_of_le_of_lt zero-le h) (field b l) ∙ narrow_high m e m_lo m_hi (le_trans (lit≤ tt) (le_of_lt h))
        ∙ over (closest m (2 ^ 29)) (e - 897) (le_trans (le_of_eq (pow-add 2 23 254)) (mul-le-mul (kept_high m m_lo m_hi).0 (pow_mono (room e h)))))
  ]
    where
      field : (b : ℕ) → b < 0x7ff0000000000000 → b / H < 2047
      field b l = omega arith

      room : (e : ℕ) → 1150 < e → 254 ≤ e - 897
      room e h = omega arith

-- ---- the sign
neg_odd : (d : ℕ) (q k l : ℕ) → odd d true q k l ≡ neg (odd d false q k l)
unfolding odd neg
neg_odd d zero k l = refl
neg_odd d (suc q) k l = refl

neg_cond : (b : Bool) (x y x' y' : Float) → x ≡ neg x' → y ≡ neg y' → cond b x y ≡ neg (cond b x' y')
neg_cond true x y x' y' p q = p
neg_cond false x y x' y' p q = q

neg_inf : inf true ≡ neg (inf false)
unfolding neg
neg_inf = refl

neg_units : (f : Format) (q k : ℕ) → units f true q k ≡ neg (units f false q k)
unfolding units
neg_units f q k =
    neg_cond (nat_lt (q * 2 ^ k) (2 ^ (low f + suc (emax f)))) (odd (suc (prec f)) true q k (low f)) (inf true)
    (odd (suc (prec f)) false q k (low f)) (inf false)
    (neg_odd (suc (prec f)) q k (low f)) neg_inf

pub neg_round : (f : Format) (a c : ℕ) → round f true a c ≡ neg (round f false a c)
neg_round f a c =
    round_is f true a c ∙ neg_units f (closest (a * 2 ^ low f) (c * 2 ^ (size (a * 2 ^ low f / c) - prec f))) (size (a * 2 ^ low f / c) - prec f) ∙
    ap neg (sym (round_is f false a c))

pub narrow_neg : (x : Float) → narrow (neg x) ≡ neg (narrow x)
unfolding narrow neg
narrow_neg nan = refl
narrow_neg (inf s) = refl
narrow_neg (fin true m e) = sym (neg_neg (round binary32 false (m * up e) (down e))) ∙ ap neg (sym (neg_round binary32 (m * up e) (down e)))
narrow_neg (fin false m e) = neg_round binary32 (m * up e) (down e)

-- ---- for the proofs of code
pub power_in : (p s : ℕ) → p ≡ 2 ^ s → s < 62 → (0 < p) × (p < 2 ^ 62)
power_in p s e h = (subst (λ (z : ℕ). 0 < z) (sym e) (pow_pos s), subst (λ (z : ℕ). z < 2 ^ 62) (sym e) (lib.Pow.pow-lt h))

pub shifted_one : (s : ℕ) → s < 62 → 1 * 2 ^ s % 18446744073709551616 ≡ 2 ^ s
shifted_one s h = ap (λ (z : ℕ). z % 18446744073709551616) (one-mul (2 ^ s)) ∙ mod-eq_of_lt (lt_of_lt_of_le (lib.Pow.pow-lt h) (lit≤ tt))

pub not_more : (a b : ℕ) → a ≤ b → (a ≢ b) → a < b
not_more a b h n = omega arith

-- the kept digits in the two ranges, by any names of m and of the divisor
pub kept_high_in : (q b : ℕ) → q ≡ closest (H + b % H) 536870912 → (8388608 ≤ q) × (q ≤ 16777216)
kept_high_in q b e =
    let k = kept_high (H + b % H) (lo (b % H)) (hi b) in
    (subst (λ (z : ℕ). 8388608 ≤ z) (sym e) k.0, subst (λ (z : ℕ). z ≤ 16777216) (sym e) k.1)
  where
    lo : (t : ℕ) → 2 ^ 52 ≤ H + t
    lo t = omega arith

    hi : (b : ℕ) → H + b % H < 2 ^ 53
    hi b = omega arith

pub kept_low_in : (q b d s : ℕ) → q ≡ closest (H + b % H) d → d ≡ 2 ^ s → 30 ≤ s → q < 16777216
kept_low_in q b d s e f h = subst (λ (z : ℕ). z < 16777216) (sym (e ∙ ap (closest (H + b % H)) f)) (kept_low (H + b % H) s (hi b) h)
  where
    hi : (b : ℕ) → H + b % H < 2 ^ 53
    hi b = omega arith

pub narrow_nan : (x : Float) → ne x x ≡ true → nan ≡ narrow x
unfolding narrow
narrow_nan x d = subst (λ (y : Float). nan ≡ narrow y) (sym (differs_from_itself x (subst T (sym d) tt))) refl

pub narrow_fits : (x : Float) → T (fits binary32 (narrow x))
unfolding narrow
narrow_fits nan = nan-fits binary32
narrow_fits (inf s) = inf-fits binary32 s
narrow_fits (fin s m e) = round-fits binary32 s (m * up e) (down e)

-- a pattern with the sign's bit
pub narrow_signed : (x : Float) → T (fits binary64 x) → 2 ^ 63 ≤ to_bits binary64 x → neg (narrow (of_bits binary64 (to_bits binary64 x - 2 ^ 63))) ≡ narrow x
narrow_signed x p h =
    let b = to_bits binary64 x in
    sym (narrow_neg (of_bits binary64 (b - 2 ^ 63)))
    ∙ ap narrow (sym (pattern_neg binary64 (b - 2 ^ 63) (low_part b (to_bits-lt binary64 x p))) ∙
    ap (of_bits binary64) (native.Mathlib.Nat.add-sub_of_le h) ∙ of_bits-to_bits binary64 x p)
  where
    low_part : (b : ℕ) → b < 2 ^ 64 → b - 2 ^ 63 < 2 ^ 63
    low_part b l = omega arith
