-- The square root, rounded to the nearest value, over whole numbers. `isqrt n` is the whole root: its square is at most n, and the next number's is above n.
-- x of n units has a root of √(n * 2 ^ low) units. `sqrt f x` keeps `prec` digits of that, and goes up by one where the root is past the middle; both
-- are told by comparing squares.
-- A middle is never met: four times a whole number is no odd square. `root_nearest` says so. Assumes nothing.
use Rattle.std.specs.Prelude.{◌≡◌, ℕ, zero, suc, ◌+◌, ◌-◌, ◌*◌, ◌/◌, ◌%◌, ◌^◌, ◌<◌, ◌≤◌, Bool, true, false, cond, not, T, ltb, ◌⊎◌, ◌≢◌, from_bits, nat_le}
use Rattle.std.specs.Prelude.{nat_lt, to_bits, refl}
use Rattle.std.proofs.Common.{sym, ◌∙◌, subst, inl, inr, zero-le, leb→le, ltb→lt, lit≤, lit<, pow-add, pow_pos, pow_mono}
use Rattle.std.proofs.Math.Path.{ap}
use native.Mathlib.Nat.{le_trans, le_of_eq, le_of_lt, lt_of_lt_of_le, lt_of_le_of_lt, lt_irrefl, lt_of_not-le, not-le_of_lt}
use native.Mathlib.Nat.{le_of_suc-le-suc, mul_assoc, mul-pos, mul-add, add-mul, mul-mul-mul_comm, mul-le-mul, mul-le-mul_right}
use native.Mathlib.Nat.{mul-lt-mul_of_pos_right, lt_of_mul-lt-mul_right, mul-div_cancel, div-eq_of_lt-le, pow-succ', zero-mul}
use native.Mathlib.Omega.{arith}
use Rattle.std.proofs.Math.Dec.{nleb→lt, lt→ltb}
use lib.Ieee.{Float, nan, inf, fin, Format, binary32, prec, emax, low, up, down, size, units, fits}
use lib.Ieee.Fits.{down_pos, kept-lt}
use Rattle.std.specs.Float.Ieee.Exact.{units_val}
use Rattle.std.specs.Float.Ieee.Bits.{of_bits-to_bits}
use Rattle.floats.specs.UnitLaws.{Val, same_test}
use Rattle.floats.specs.PatternLaws.{size_is, write, write_carry, read_low, read_high, units_fit}
use Rattle.floats.specs.Library.{middle, root_units, sqrt, stepped, whole_root}

-- q is the whole root of n
abbrev pub IsRoot : ℕ → ℕ → Type 0
IsRoot n q = (q * q ≤ n) × (n < suc q * suc q)

double : (a : ℕ) → 2 * a * (2 * a) ≡ 4 * (a * a)
double a = mul-mul-mul_comm 2 a 2 a

fourth_lo : (n A : ℕ) → A ≤ n / 4 → 4 * A ≤ n
fourth_lo n A h = omega arith

fourth_hi : (n A : ℕ) → n / 4 < A → n < 4 * A
fourth_hi n A h = omega arith

two_suc : (a : ℕ) → suc (suc (2 * a)) ≡ 2 * suc a
two_suc a = omega arith

stepped_root : (r n : ℕ) → r * r ≤ n → n < suc (suc r) * suc (suc r) → IsRoot n (stepped r n)
stepped_root r n lo hi = go (nat_le (suc r * suc r) n) (leb→le (suc r * suc r) n) (nleb→lt (suc r * suc r) n)
  where
    go : (b : Bool) → (T b → suc r * suc r ≤ n) → (T (not b) → n < suc r * suc r) → IsRoot n (cond b (suc r) r)
    go true u v = (u tt, hi)
    go false u v = (lo, v tt)

below_one : (n : ℕ) → n < 1 → n < 1 * 1
below_one n h = h

pub isq_root : (d n : ℕ) → n < 4 ^ d → IsRoot n (whole_root d n)
unfolding whole_root
isq_root zero n h = (zero-le, below_one n h)
isq_root (suc d) n h =
    let i = isq_root d (n / 4) (quarter (4 ^ d) (subst (λ (z : ℕ). n < z) (pow-succ' 4 d) h)) in
    let a = whole_root d (n / 4) in
    stepped_root (2 * a) n
    (le_trans (le_of_eq (double a)) (fourth_lo n (a * a) i.0))
    (subst (λ (z : ℕ). n < z) (sym (ap (λ (z : ℕ). z * z) (two_suc a) ∙ double (suc a))) (fourth_hi n (suc a * suc a) i.1))
  where
    quarter : (D : ℕ) → n < 4 * D → n / 4 < D
    quarter D l = omega arith

-- squares are ordered as the numbers
pub root_lt : (a b : ℕ) → a * a < b * b → a < b
root_lt a b h = lt_of_not-le (λ (g : b ≤ a). not-le_of_lt h (mul-le-mul g g))

-- ---- at a value of n units
pub sqrt_at : (f : Format) (x : Float) (n : ℕ) → 0 < n → Val f x false n → sqrt f x ≡ root_units f (n * 2 ^ low f)
unfolding sqrt
sqrt_at f nan n p v = absurd v
sqrt_at f (inf s) n p v = absurd v
sqrt_at f (fin s zero e) n p v =
    absurd (lt_irrefl 0 (subst (λ (z : ℕ). 0 < z) (sym v.1 ∙ ap (λ (z : ℕ). z * 2 ^ low f) (zero-mul (up e)) ∙
    zero-mul (2 ^ low f)) (mul-pos p (down_pos e))))
sqrt_at f (fin true (suc m) e) n p v = absurd (mathlib.Core.Bool.true≢false v.0)
sqrt_at f (fin false (suc m) e) n p v = ap (λ (z : ℕ). root_units f (z * 2 ^ low f)) (ap (λ (z : ℕ). z / down e) v.1 ∙ mul-div_cancel n (down_pos e))

-- ---- how a program finds it: with N = M * 2 ^ (2 * h) and the whole root q of M of `prec` digits, the result is q or q + 1, and h zeros
module _ (M h q N : ℕ) (r : IsRoot M q) (e : N ≡ M * (2 ^ h * 2 ^ h)) where
  square_shift : (a : ℕ) → a * 2 ^ h * (a * 2 ^ h) ≡ a * a * (2 ^ h * 2 ^ h)
  square_shift a = mul-mul-mul_comm a (2 ^ h) a (2 ^ h)

  P : 0 < 2 ^ h * 2 ^ h
  P = mul-pos (pow_pos h) (pow_pos h)

  low_end : (w : ℕ) → IsRoot N w → q * 2 ^ h ≤ w
  low_end w i =
      le_of_suc-le-suc (root_lt (q * 2 ^ h) (suc w)
      (lt_of_le_of_lt (le_trans (le_of_eq (square_shift q)) (le_trans (mul-le-mul_right (2 ^ h * 2 ^ h) r.0) (le_of_eq (sym e)))) i.1))

  high_end : (w : ℕ) → IsRoot N w → w < suc q * 2 ^ h
  high_end w i =
      root_lt w (suc q * 2 ^ h)
      (lt_of_le_of_lt i.0 (subst (λ (z : ℕ). z < suc q * 2 ^ h * (suc q * 2 ^ h)) (sym e)
      (lt_of_lt_of_le (mul-lt-mul_of_pos_right r.1 P) (le_of_eq (sym (square_shift (suc q)))))))

  kept_root : (w : ℕ) → IsRoot N w → w / 2 ^ h ≡ q
  kept_root w i = div-eq_of_lt-le (2 ^ h) (low_end w i) (subst (λ (z : ℕ). w < z * 2 ^ h) (one q) (high_end w i))
    where
      one : (q : ℕ) → suc q ≡ q + 1
      one q = omega arith

  -- past the middle
  past : (middle q h * middle q h < 4 * N) → (2 * q + 1) * (2 * q + 1) < 4 * M
  past l = lt_of_mul-lt-mul_right (2 ^ h * 2 ^ h)
      (subst (λ (z : ℕ). (2 * q + 1) * (2 * q + 1) * (2 ^ h * 2 ^ h) < z) (ap (λ (z : ℕ). 4 * z) e ∙
      sym (mul_assoc 4 M (2 ^ h * 2 ^ h))) (subst (λ (z : ℕ). z < 4 * N) (square_shift (2 * q + 1)) l))

  past_back : (2 * q + 1) * (2 * q + 1) < 4 * M → middle q h * middle q h < 4 * N
  past_back l =
      subst (λ (z : ℕ). z < 4 * N) (sym (square_shift (2 * q + 1)))
      (subst (λ (z : ℕ). (2 * q + 1) * (2 * q + 1) * (2 ^ h * 2 ^ h) < z) (mul_assoc 4 M (2 ^ h * 2 ^ h) ∙
      ap (λ (z : ℕ). 4 * z) (sym e)) (mul-lt-mul_of_pos_right l P))

-- (2 q + 1) ^ 2 = 4 (q ^ 2 + q) + 1
odd_square : (q : ℕ) → (2 * q + 1) * (2 * q + 1) ≡ 4 * (q * q + q) + 1
odd_square q =
    add-mul (2 * q) 1 (2 * q + 1) ∙ ap (λ (z : ℕ). z + 1 * (2 * q + 1)) (mul-add (2 * q) (2 * q) 1 ∙ ap (λ (z : ℕ). z + 2 * q * 1) (double q)) ∙ fold (q * q) q
  where
    fold : (A q : ℕ) → 4 * A + 2 * q * 1 + 1 * (2 * q + 1) ≡ 4 * (A + q) + 1
    fold A q = omega arith

middle_test : (q M : ℕ) → nat_lt ((2 * q + 1) * (2 * q + 1)) (4 * M) ≡ nat_lt (q * q + q) M
middle_test q M =
    ap (λ (z : ℕ). ltb z (4 * M)) (odd_square q)
    ∙ same_test (nat_lt (4 * (q * q + q) + 1) (4 * M)) (nat_lt (q * q + q) M)
    (λ t. lt→ltb (q * q + q) M (there (q * q + q) (ltb→lt (4 * (q * q + q) + 1) (4 * M) t)))
    (λ t. lt→ltb (4 * (q * q + q) + 1) (4 * M) (back (q * q + q) (ltb→lt (q * q + q) M t)))
  where
    there : (A : ℕ) → 4 * A + 1 < 4 * M → A < M
    there A l = omega arith

    back : (A : ℕ) → A < M → 4 * A + 1 < 4 * M
    back A l = omega arith

-- the rounded root's digits
abbrev pub gone_up : ℕ → ℕ → ℕ
gone_up q M = cond (nat_lt (q * q + q) M) (suc q) q

module _ (M h q N : ℕ) (r : IsRoot M q) (lo : 2 ^ 23 ≤ q) (hi : q < 2 ^ 24) (e : N ≡ M * (2 ^ h * 2 ^ h)) (small : N < 4 ^ 554) where
  pub root_units_lem : root_units binary32 N ≡ units binary32 false (gone_up q M) h
  unfolding root_units
  root_units_lem =
      let w = whole_root 554 N in
      let i = isq_root 554 N small in
      let a : 2 ^ (23 + h) ≤ w = le_trans (le_of_eq (pow-add 2 23 h)) (le_trans (mul-le-mul_right (2 ^ h) lo) (low_end M h q N r e w i)) in
      let b : w < 2 ^ suc (23 + h) = lt_of_lt_of_le (high_end M h q N r e w i)
      (le_trans (mul-le-mul_right (2 ^ h) hi) (le_of_eq (sym (pow-add 2 24 h) ∙ ap (λ (z : ℕ). 2 ^ z) (next h)))) in
      let k : size w - 24 ≡ h = ap (λ (z : ℕ). z - 24) (size_is w (23 + h) a b) ∙ less h in
      ap (λ (z : ℕ). units binary32 false (cond (nat_lt (middle (w / 2 ^ z) z * middle (w / 2 ^ z) z) (4 * N)) (suc (w / 2 ^ z)) (w / 2 ^ z)) z) k
      ∙ ap (λ (z : ℕ). units binary32 false (cond (nat_lt (middle z h * middle z h) (4 * N)) (suc z) z) h) (kept_root M h q N r e w i)
      ∙ ap (λ (z : Bool). units binary32 false (cond z (suc q) q) h)
      (same_test (nat_lt (middle q h * middle q h) (4 * N)) (nat_lt ((2 * q + 1) * (2 * q + 1)) (4 * M))
      (λ t. lt→ltb ((2 * q + 1) * (2 * q + 1)) (4 * M) (past M h q N r e (ltb→lt (middle q h * middle q h) (4 * N) t)))
      (λ t. lt→ltb (middle q h * middle q h) (4 * N) (past_back M h q N r e (ltb→lt ((2 * q + 1) * (2 * q + 1)) (4 * M) t)))
      ∙ middle_test q M)
    where
      next : (h : ℕ) → 24 + h ≡ suc (23 + h)
      next h = omega arith

      less : (h : ℕ) → suc (23 + h) - 24 ≡ h
      less h = omega arith

-- ---- the pattern of such a result
pub units_pattern : (q h : ℕ) → 2 ^ 23 ≤ q → q ≤ 2 ^ 24 → h < 250 → units binary32 false q h ≡ from_bits binary32 (h * 8388608 + q)
units_pattern q h lo hi l =
    let small : q * 2 ^ h < 2 ^ 277 = lt_of_le_of_lt (mul-le-mul hi (pow_mono (le_of_lt l))) (lit< tt) in
    let v : Val binary32 (units binary32 false q h) false (q * 2 ^ h) = units_val binary32 false q h small in
    sym (of_bits-to_bits binary32 (units binary32 false q h) (units_fit binary32 q h hi)) ∙
    ap (from_bits binary32) (go (native.Mathlib.Nat.eq-or-lt_of_le hi) v)
  where
    go : (q ≡ 2 ^ 24) ⊎ (q < 2 ^ 24) → Val binary32 (units binary32 false q h) false (q * 2 ^ h) → to_bits binary32 (units binary32 false q h) ≡ h * 8388608 + q
    go (inl e) v = write_carry binary32 (units binary32 false q h) q h e v
    go (inr u) v = write binary32 (units binary32 false q h) q h lo u v

-- ---- for the proofs of code
pub root_below : (m q : ℕ) → q * q ≤ m → m < 2 ^ 48 → q < 16777216
root_below m q h l = root_lt q 16777216 (lt_of_le_of_lt h l)

pub suc_square : (q : ℕ) → (q + 1) * (q + 1) ≡ suc q * suc q
suc_square q = ap (λ (z : ℕ). z * z) (one q)
  where
    one : (q : ℕ) → q + 1 ≡ suc q
    one q = omega arith

pub root_above : (m q : ℕ) → 2 ^ 46 ≤ m → m < suc q * suc q → 8388608 ≤ q
root_above m q h l = le_of_suc-le-suc (root_lt 8388608 (suc q) (lt_of_le_of_lt h l))

wide : (m h : ℕ) → m < 2 ^ 48 → h < 200 → m * (2 ^ h * 2 ^ h) < 4 ^ 554
wide m h l k = lt_of_le_of_lt (mul-le-mul (le_of_lt l) (mul-le-mul (pow_mono (le_of_lt k)) (pow_mono (le_of_lt k)))) (lit< tt)

cond_true : (b : Bool) (x y : ℕ) → T b → cond b x y ≡ x
cond_true true x y t = refl
cond_true false x y t = absurd t

cond_false : (b : Bool) (x y : ℕ) → T (not b) → cond b x y ≡ y
cond_false true x y t = absurd t
cond_false false x y t = refl

module _ (m h q : ℕ) (r : IsRoot m q) (a : 2 ^ 46 ≤ m) (b : m < 2 ^ 48) (l : h < 200) where
  as_units : root_units binary32 (m * (2 ^ h * 2 ^ h)) ≡ units binary32 false (gone_up q m) h
  as_units = root_units_lem m h q (m * (2 ^ h * 2 ^ h)) r (root_above m q a r.1) (root_below m q r.0 b) refl (wide m h b l)

  pub root_up : q * q + q < m → units binary32 false (q + 1) h ≡ root_units binary32 (m * (2 ^ h * 2 ^ h))
  root_up u =
      ap (λ (z : ℕ). units binary32 false z h) (one q ∙ sym (cond_true (nat_lt (q * q + q) m) (suc q) q (lt→ltb (q * q + q) m u))) ∙ sym as_units
    where
      one : (q : ℕ) → q + 1 ≡ suc q
      one q = omega arith

  pub root_stay : m ≤ q * q + q → units binary32 false q h ≡ root_units binary32 (m * (2 ^ h * 2 ^ h))
  root_stay u = ap (λ (z : ℕ). units binary32 false z h) (sym (cond_false (nat_lt (q * q + q) m) (suc q) q (lib.Arith.le→nltb (q * q + q) m u))) ∙ sym as_units

-- m * 2 ^ j, with j cut in two
pub even_split : (m j : ℕ) → 24 ≤ j → j % 2 ≡ 0 → m * 16777216 * (2 ^ ((j - 24) / 2) * 2 ^ ((j - 24) / 2)) ≡ m * 2 ^ j
even_split m j h e =
    mul_assoc m 16777216 (2 ^ ((j - 24) / 2) * 2 ^ ((j - 24) / 2))
    ∙ ap (λ (z : ℕ). m * (2 ^ 24 * z)) (sym (pow-add 2 ((j - 24) / 2) ((j - 24) / 2))) ∙
    ap (λ (z : ℕ). m * z) (sym (pow-add 2 24 ((j - 24) / 2 + (j - 24) / 2)) ∙ ap (λ (z : ℕ). 2 ^ z) (back j h e))
  where
    back : (j : ℕ) → 24 ≤ j → j % 2 ≡ 0 → 24 + ((j - 24) / 2 + (j - 24) / 2) ≡ j
    back j h e = omega arith

pub odd_split : (m j : ℕ) → 23 ≤ j → (j % 2 ≢ 0) → m * 8388608 * (2 ^ ((j - 23) / 2) * 2 ^ ((j - 23) / 2)) ≡ m * 2 ^ j
odd_split m j h e =
    mul_assoc m 8388608 (2 ^ ((j - 23) / 2) * 2 ^ ((j - 23) / 2))
    ∙ ap (λ (z : ℕ). m * (2 ^ 23 * z)) (sym (pow-add 2 ((j - 23) / 2) ((j - 23) / 2))) ∙
    ap (λ (z : ℕ). m * z) (sym (pow-add 2 23 ((j - 23) / 2 + (j - 23) / 2)) ∙ ap (λ (z : ℕ). 2 ^ z) (back j h e))
  where
    back : (j : ℕ) → 23 ≤ j → (j % 2 ≢ 0) → 23 + ((j - 23) / 2 + (j - 23) / 2) ≡ j
    back j h e = omega arith

-- t * 2 ^ i has at most 23 zeros put on while it is below 2 ^ 23
pub few_shifts : (t m i : ℕ) → 0 < t → m ≡ t * 2 ^ i → m < 8388608 → i < 23
few_shifts t m i p e h =
    lt_of_not-le (λ (g : 23 ≤ i). not-le_of_lt h
    (le_trans (pow_mono g) (le_trans (le_of_eq (sym (native.Mathlib.Nat.one-mul (2 ^ i)))) (le_trans (mul-le-mul_right (2 ^ i) p) (le_of_eq (sym e))))))

pub shift_more : (t m i : ℕ) → m ≡ t * 2 ^ i → m * 2 ≡ t * 2 ^ (i + 1)
shift_more t m i e = ap (λ (z : ℕ). z * 2) e ∙ mul_assoc t (2 ^ i) 2 ∙ ap (λ (z : ℕ). t * z) (sym (pow-add 2 i 1))

pub shift_back : (t m i : ℕ) → i ≤ 149 → m ≡ t * 2 ^ i → m * 2 ^ (149 - i) ≡ t * 2 ^ 149
shift_back t m i h e =
    ap (λ (z : ℕ). z * 2 ^ (149 - i)) e ∙ mul_assoc t (2 ^ i) (2 ^ (149 - i)) ∙
    ap (λ (z : ℕ). t * z) (sym (pow-add 2 i (149 - i)) ∙ ap (λ (z : ℕ). 2 ^ z) (native.Mathlib.Nat.add-sub_of_le h))

-- ---- the root of what a pattern stands for
pub sqrt_low : (b : ℕ) → 0 < b → b < 0x7f800000 → b / 8388608 ≡ 0 → root_units binary32 (b % 8388608 * 2 ^ 149) ≡ sqrt binary32 (from_bits binary32 b)
sqrt_low b p l e = sym (sqrt_at binary32 (from_bits binary32 b) (b % 8388608) (rest b p e) (read_low binary32 b (lt_of_lt_of_le l (lit≤ tt)) e))
  where
    rest : (b : ℕ) → 0 < b → b / 8388608 ≡ 0 → 0 < b % 8388608
    rest b p e = omega arith

pub sqrt_high : (b : ℕ) → b < 0x7f800000 → (b / 8388608 ≢ 0) →
    root_units binary32 ((8388608 + b % 8388608) * 2 ^ (b / 8388608 + 148)) ≡ sqrt binary32 (from_bits binary32 b)
sqrt_high b l n =
    let x = b / 8388608 - 1 in
    let e : b / 8388608 ≡ suc x = up_one (b / 8388608) n in
    let u : suc x < 255 = subst (λ (z : ℕ). z < 255) e (field b l) in
    let v = read_high binary32 b x (lt_of_lt_of_le l (lit≤ tt)) e u in
    ap (λ (z : ℕ). root_units binary32 ((8388608 + b % 8388608) * 2 ^ z)) (shifted (b / 8388608) n)
    ∙ ap (λ (z : ℕ). root_units binary32 z) (ap (λ (z : ℕ). (8388608 + b % 8388608) * z) (pow-add 2 x 149) ∙
    sym (mul_assoc (8388608 + b % 8388608) (2 ^ x) (2 ^ 149)))
    ∙ sym (sqrt_at binary32 (from_bits binary32 b) ((8388608 + b % 8388608) * 2 ^ x) (mul-pos (some (b % 8388608)) (pow_pos x)) v)
  where
    up_one : (d : ℕ) → (d ≢ 0) → d ≡ suc (d - 1)
    up_one d n = omega arith

    field : (b : ℕ) → b < 0x7f800000 → b / 8388608 < 255
    field b l = omega arith

    shifted : (d : ℕ) → (d ≢ 0) → d + 148 ≡ d - 1 + 149
    shifted d n = omega arith

    some : (t : ℕ) → 0 < 8388608 + t
    some t = omega arith

-- whatever N is, the root is a value of the format that is not below zero
pub root_shape : (f : Format) (N : ℕ) → (q : ℕ) × (k : ℕ) × (root_units f N ≡ units f false q k) × (q ≤ 2 ^ prec f)
unfolding root_units
root_shape f N =
    let w = whole_root (2 * (low f + suc (emax f))) N in
    let k = size w - prec f in
    let q = w / 2 ^ k in
    (cond (nat_lt (middle q k * middle q k) (4 * N)) (suc q) q, k, refl, either (nat_lt (middle q k * middle q k) (4 * N)) q (2 ^ prec f) (kept-lt (prec f) w))
  where
    either : (b : Bool) (q p : ℕ) → q < p → cond b (suc q) q ≤ p
    either true q p h = h
    either false q p h = le_of_lt h

pub root_fits : (f : Format) (N : ℕ) → T (fits f (root_units f N))
root_fits f N = let s = root_shape f N in subst (λ (x : Float). T (fits f x)) (sym s.2) (units_fit f s.0 s.1 s.3)

pub sqrt_fits : (f : Format) (x : Float) → T (fits f x) → T (fits f (sqrt f x))
unfolding sqrt
sqrt_fits f nan p = p
sqrt_fits f (inf true) p = lib.Ieee.Fits.nan-fits f
sqrt_fits f (inf false) p = lib.Ieee.Fits.inf-fits f false
sqrt_fits f (fin s zero e) p = p
sqrt_fits f (fin true (suc m) e) p = lib.Ieee.Fits.nan-fits f
sqrt_fits f (fin false (suc m) e) p = root_fits f (suc m * up e * 2 ^ low f / down e * 2 ^ low f)
