-- The greater and the lesser of two values: a NaN is dropped, and +0 is above -0. Whatever x is, `min x y` is at most a y that is a number.
-- Equal numbers differ at most in the sign of a zero, and a sum of two zeros has the sign that is wanted. Stated over the format. Assumes nothing.
use Rattle.std.specs.Prelude.{◌≡◌, ℕ, zero, suc, ◌+◌, ◌*◌, ◌<◌, Bool, true, false, cond, not, ◌&&◌, ◌||◌, T, ℤ, pos, ◌==◌, nat_lt, refl, Float}
use Rattle.std.proofs.Common.{sym, ap, ◌∙◌, subst, zero-le, true≢false, eqb→eq, lit<, le-ltb, lt-ltb}
use native.Mathlib.Nat.{le_refl, le_trans, le_of_eq, zero-mul, mul-pos, zero-lt-suc}
use Rattle.std.specs.Bool.{beq}
use Rattle.std.proofs.lemmas.Bool.{false≢true}
use Rattle.std.proofs.Math.Dec.{eqb_refl}
use Rattle.std.specs.Float.Ieee.Fits.{up_pos, and_l, and_r, down_pos}
use Rattle.std.specs.Float.{nan, inf, fin, Format, binary32, binary64}
use Rattle.std.specs.Float.Ieee.{up, down, add, neg, lt, le, eq, ne, fits, is_nan, of_bits, level}
use Rattle.std.specs.Float.Ieee.Bits.{is_true}
use Rattle.std.specs.Float.Ieee.Exact.{HasValue}
use Rattle.std.specs.Float.Ieee.Back.{whole_unique}
use Rattle.floats.specs.Ops.{nought}
use Rattle.floats.specs.Library.{negative, before, max, min}
use Rattle.floats.specs.UnitLaws.{eq_val, zero_val, pos_plus}
use Rattle.floats.specs.FiniteLaws.{of_true}
use Rattle.floats.specs.RankLaws.{rank_of, rank→le, le_of_not_lt, le_no_nan}

-- ---- a NaN is what differs from itself
pub ne_is_nan : (x : Float) → ne x x ≡ is_nan x
unfolding ne is_nan
ne_is_nan nan = refl
ne_is_nan (inf true) = refl
ne_is_nan (inf false) = refl
ne_is_nan (fin true m e) = ap (λ (b : Bool). not (b && true)) (is_true (m * up e * down e == m * up e * down e) (eqb_refl (m * up e * down e)))
ne_is_nan (fin false m e) = ap (λ (b : Bool). not (b && true)) (is_true (m * up e * down e == m * up e * down e) (eqb_refl (m * up e * down e)))

-- ---- order
or_left : (a b : Bool) → a || b ≡ false → a ≡ false
or_left true b e = e
or_left false b e = refl

module _ (f : Format) (x y : Float) (p : T (fits f x)) (q : T (fits f y)) where
  self : (z : Float) → T (fits f z) → T (not (is_nan z)) → T (le z z)
  self z r n = rank→le f z z r r n n (le_refl (rank_of f z))

  not_before : T (not (is_nan x)) → T (not (is_nan y)) → before x y ≡ false → T (le y x)
  unfolding before
  not_before n m e = le_of_not_lt f x y p q n m (or_left (lt x y) (eq x y && (negative x && not (negative y))) e)

-- whatever x is, the lesser of x and a number y is at most y
pub min_right : (f : Format) (x y : Float) → T (fits f x) → T (fits f y) → T (not (is_nan y)) → T (le (min x y) y)
unfolding min
min_right f x y p q m = go (is_nan x) (is_nan y) (before y x) (λ t. t) m (not_before f y x q p)
  where
    go : (a b c : Bool) → (T (not a) → T (not (is_nan x))) → T (not b) → (T (not (is_nan y)) → T (not (is_nan x)) → c ≡ false → T (le x y)) →
        T (le (cond a y (cond b x (cond c y x))) y)
    go true b c s t k = self f y y q q y q m
    go false true c s t k = absurd t
    go false false true s t k = self f y y q q y q m
    go false false false s t k = k m (s tt) refl

-- a bound below both, where x may be a NaN
pub min_above : (lo x y : Float) → (T (not (is_nan x)) → T (le lo x)) → T (le lo y) → T (le lo (min x y))
unfolding min
min_above lo x y h k = go (is_nan x) (is_nan y) (before y x) (λ t. t) (le_no_nan lo y k).1
  where
    go : (a b c : Bool) → (T (not a) → T (not (is_nan x))) → T (not b) → T (le lo (cond a y (cond b x (cond c y x))))
    go true b c s t = k
    go false true c s t = absurd t
    go false false true s t = k
    go false false false s t = h (s tt)

-- ---- equal numbers
-- what equals zero is a zero of one sign or the other
zero_value : (x : Float) → eq x nought ≡ true → HasValue x (negative x) 0 1
unfolding eq negative of_bits
zero_value nan t = absurd (false≢true t)
zero_value (inf s) t = absurd (false≢true t)
zero_value (fin s m e) t =
    (refl, eqb→eq (m * up e * 1) (0 * 1 * down e) (and_l (m * up e * 1 == 0 * 1 * down e) (beq s false || m * up e * 1 == 0) (of_true t)))

zero_fits : (f : Format) (s : Bool) → T (fits f (fin s 0 (pos 0)))
unfolding fits
zero_fits f s = tt

pub zero_is : (f : Format) (x : Float) → T (fits f x) → eq x nought ≡ true → x ≡ fin (negative x) 0 (pos 0)
zero_is f x p t = whole_unique f x (fin (negative x) 0 (pos 0)) (negative x) 0 p (zero_fits f (negative x)) (zero_value x t) (refl, refl)

-- of two equal numbers that are no zeros the signs are equal
same_sign : (x y : Float) → eq x y ≡ true → eq x nought ≡ false → negative x && not (negative y) ≡ false
unfolding eq negative of_bits
same_sign nan y t z = absurd (false≢true t)
same_sign (inf s) nan t z = absurd (false≢true t)
same_sign (inf true) (inf true) t z = refl
same_sign (inf true) (inf false) t z = absurd (false≢true t)
same_sign (inf false) (inf u) t z = refl
same_sign (inf s) (fin u n d) t z = absurd (false≢true t)
same_sign (fin s m e) nan t z = absurd (false≢true t)
same_sign (fin s m e) (inf u) t z = absurd (false≢true t)
same_sign (fin false m e) (fin u n d) t z = refl
same_sign (fin true m e) (fin true n d) t z = refl
same_sign (fin true m e) (fin false n d) t z =
    absurd (true≢false (sym (none m
    (nothing (m * up e) (down d) (down_pos d)
    (eqb→eq (m * up e * down d) 0 (and_r (m * up e * down d == n * up d * down e) (m * up e * down d == 0) (of_true t))))) ∙ z))
  where
    nothing : (a d : ℕ) → 0 < d → a * d ≡ 0 → a ≡ 0
    nothing zero d h k = refl
    nothing (suc a) d h k =
        absurd (native.Mathlib.Nat.lt_irrefl 0 (subst (λ (w : ℕ). 0 < w) k (native.Mathlib.Nat.mul-pos (native.Mathlib.Nat.zero-lt-suc a) h)))

    none : (m : ℕ) → m * up e ≡ 0 → level true (m * up e * 1) false (0 * 1 * down e) ≡ true
    none m h = ap (λ (w : ℕ). (w * 1 == 0 * 1 * down e) && w * 1 == 0) h ∙ ap (λ (w : ℕ). (0 == w) && true) (zero-mul (down e))

-- ---- for the proofs of code: one law a way through it
module _ (x y : Float) where
  pub max_first : ne x x ≡ true → y ≡ max x y
  unfolding max
  max_first e = rw (← ne_is_nan x, e)

  pub max_second : ne x x ≡ false → ne y y ≡ true → x ≡ max x y
  unfolding max
  max_second e g = rw (← ne_is_nan x, e, ← ne_is_nan y, g)

  pub max_pick : ne x x ≡ false → ne y y ≡ false → cond (before x y) y x ≡ max x y
  unfolding max
  max_pick e g = rw (← ne_is_nan x, e, ← ne_is_nan y, g)

  pub min_first : ne x x ≡ true → y ≡ min x y
  unfolding min
  min_first e = rw (← ne_is_nan x, e)

  pub min_second : ne x x ≡ false → ne y y ≡ true → x ≡ min x y
  unfolding min
  min_second e g = rw (← ne_is_nan x, e, ← ne_is_nan y, g)

  pub min_pick : ne x x ≡ false → ne y y ≡ false → cond (before y x) y x ≡ min x y
  unfolding min
  min_pick e g = rw (← ne_is_nan x, e, ← ne_is_nan y, g)

  pub before_lt : lt x y ≡ true → before x y ≡ true
  unfolding before
  before_lt e = rw e

  pub before_apart : lt x y ≡ false → eq x y ≡ false → before x y ≡ false
  unfolding before
  before_apart e g = rw (e, g)

  pub before_same : lt x y ≡ false → eq x y ≡ true → eq x nought ≡ false → before x y ≡ false
  unfolding before
  before_same e g z = rw (e, g, same_sign x y g z)

-- ---- two zeros: the sum has the sign that `max` wants, and minus the sum of their negatives the one that `min` wants
zero_across : (f : Format) (x y : Float) → T (fits f x) → eq x y ≡ true → eq x nought ≡ true → eq y nought ≡ true
unfolding eq of_bits
zero_across f x y p g z = go y (subst (λ (w : Float). eq w y ≡ true) (zero_is f x p z) g)
  where
    level_zero : (s u : Bool) (a b : ℕ) → a ≡ 0 → level s a u b ≡ true → level u b false a ≡ true
    level_zero s true a b e h = let w : b ≡ a = sym (eqb→eq a b (and_l (a == b) (beq s true || a == 0) (of_true h))) in rw (w, e)
    level_zero s false a b e h = let w : b ≡ a = sym (eqb→eq a b (and_l (a == b) (beq s false || a == 0) (of_true h))) in rw (w, e)

    go : (y : Float) → eq (fin (negative x) 0 (pos 0)) y ≡ true → eq y nought ≡ true
    go nan h = h
    go (inf s) h = absurd (false≢true h)
    go (fin u n d) h = level_zero (negative x) u (0 * 1 * down d) (n * up d * 1) (zero-mul (down d)) h

sum_zeros : (f : Format) (s u : Bool) → add f (fin s 0 (pos 0)) (fin u 0 (pos 0)) ≡ max (fin s 0 (pos 0)) (fin u 0 (pos 0))
unfolding add max before lt eq negative is_nan
sum_zeros binary32 true true = refl
sum_zeros binary32 true false = refl
sum_zeros binary32 false true = refl
sum_zeros binary32 false false = refl
sum_zeros binary64 true true = refl
sum_zeros binary64 true false = refl
sum_zeros binary64 false true = refl
sum_zeros binary64 false false = refl

turned_zeros : (f : Format) (s u : Bool) → neg (add f (neg (fin s 0 (pos 0))) (neg (fin u 0 (pos 0)))) ≡ min (fin s 0 (pos 0)) (fin u 0 (pos 0))
unfolding add neg min before lt eq negative is_nan
turned_zeros binary32 true true = refl
turned_zeros binary32 true false = refl
turned_zeros binary32 false true = refl
turned_zeros binary32 false false = refl
turned_zeros binary64 true true = refl
turned_zeros binary64 true false = refl
turned_zeros binary64 false true = refl
turned_zeros binary64 false false = refl

module _ (f : Format) (x y : Float) (p : T (fits f x)) (q : T (fits f y)) where
  pub max_zeros : eq x y ≡ true → eq x nought ≡ true → add f x y ≡ max x y
  max_zeros g z =
      subst (λ (u : Float). add f u y ≡ max u y) (sym (zero_is f x p z))
      (subst (λ (u : Float). add f (fin (negative x) 0 (pos 0)) u ≡ max (fin (negative x) 0 (pos 0)) u)
      (sym (zero_is f y q (zero_across f x y p g z))) (sum_zeros f (negative x) (negative y)))

  pub min_zeros : eq y x ≡ true → eq y nought ≡ true → neg (add f (neg x) (neg y)) ≡ min x y
  min_zeros g z =
      subst (λ (u : Float). neg (add f (neg x) (neg u)) ≡ min x u) (sym (zero_is f y q z))
      (subst (λ (u : Float). neg (add f (neg u) (neg (fin (negative y) 0 (pos 0)))) ≡ min u (fin (negative y) 0 (pos 0)))
      (sym (zero_is f x p (zero_across f y x q g z))) (turned_zeros f (negative x) (negative y)))

-- ---- the greater of a value and 0 is the value where that is above 0, and else 0: of a NaN and of -0 too
some : (m : ℕ) (e : ℤ) → 0 < suc m * up e * 1
some m e = mul-pos (mul-pos (zero-lt-suc m) (up_pos e)) (lit< tt)

pub max_nought : (f : Format) (x : Float) → T (fits f x) → max x nought ≡ cond (lt nought x) x nought
unfolding max before lt eq is_nan negative of_bits
max_nought f nan p = refl
max_nought f (inf true) p = refl
max_nought f (inf false) p = refl
max_nought f (fin s zero e) p = subst (λ (x : Float). max x nought ≡ cond (lt nought x) x nought) (sym (zero_is f (fin s zero e) p (equal s))) (zeros s)
  where
    equal : (s : Bool) → eq (fin s zero e) nought ≡ true
    equal true = eq_val f (fin true zero e) nought true 0 false 0 (zero_val f true e) (zero_val f false (pos 0))
    equal false = eq_val f (fin false zero e) nought false 0 false 0 (zero_val f false e) (zero_val f false (pos 0))

    zeros : (s : Bool) → max (fin s 0 (pos 0)) nought ≡ cond (lt nought (fin s 0 (pos 0))) (fin s 0 (pos 0)) nought
    zeros true = refl
    zeros false = refl
max_nought f (fin true (suc m) e) p =
    go (nat_lt 0 (a + 0 * down e)) (a == 0 * down e && a == 0) (lt-ltb 0 (a + 0 * down e) (pos_plus a (0 * down e) (some m e)))
  where
    a : ℕ
    a = suc m * up e * 1

    go : (u v : Bool) → u ≡ true → cond (u || (v && true)) nought (fin true (suc m) e) ≡ nought
    go true v h = refl
    go false v h = absurd (false≢true h)
max_nought f (fin false (suc m) e) p =
    go (nat_lt a (0 * down e)) (a == 0 * down e && true) (nat_lt (0 * down e) a) (le-ltb a (0 * down e) (le_trans (le_of_eq (zero-mul (down e))) zero-le))
    (lt-ltb (0 * down e) a (subst (λ (z : ℕ). z < a) (sym (zero-mul (down e))) (some m e)))
  where
    a : ℕ
    a = suc m * up e * 1

    go : (u v w : Bool) → u ≡ false → w ≡ true → cond (u || (v && false)) nought (fin false (suc m) e) ≡ cond w (fin false (suc m) e) nought
    go true v w h k = absurd (true≢false h)
    go false true true h k = refl
    go false false true h k = refl
    go false v false h k = absurd (false≢true k)
