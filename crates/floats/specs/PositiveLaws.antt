-- A value that a program has tested: no NaN, not zero, not below zero. Its pattern is that of an infinity, or lies from 1 up to below that. And the
-- root's own cases. Assumes nothing.
use Rattle.std.specs.Prelude.{◌≡◌, ℕ, zero, suc, ◌+◌, ◌-◌, ◌*◌, ◌/◌, ◌^◌, ◌<◌, ◌≤◌, Bool, true, false, not, ◌&&◌, ◌||◌, T, pos, ◌==◌, ◌≢◌, Float}
use Rattle.std.proofs.Math.Path.{refl, subst}
use Rattle.std.proofs.Common.{sym, ap, ◌∙◌, inl, inr, zero-le, arith, true≢false, eqb→eq, ltb→lt, lt-ltb}
use native.Mathlib.Nat.{eq-zero-or-pos, le_of_eq, lt_irrefl, mul-pos, zero-lt-suc, zero-mul, not-le_of_lt}
use Rattle.std.specs.Bool.{beq}
use Rattle.std.proofs.lemmas.Bool.{false≢true}
use Rattle.std.specs.Float.{nan, inf, fin}
use Rattle.std.specs.Float.Ieee.{binary32, up, down, size, of_bits, fits, is_nan, to_bits, eq, ne, lt, div}
use Rattle.std.specs.Float.Ieee.Fits.{kept-lt, up_pos, and_l}
use Rattle.std.specs.Float.Ieee.Bits.{of_bits-to_bits}
use Rattle.std.specs.Float.Ieee.Compare.{differs_from_itself}
use Rattle.std.specs.Float.Ieee.Digits.{size-le}
use Rattle.floats.specs.UnitLaws.{Val, lt_val, eq_val}
use Rattle.floats.specs.RoundingLaws.{counted}
use Rattle.floats.specs.FiniteLaws.{zero32, of_true}
use Rattle.floats.specs.PatternLaws.{write_val}
use Rattle.floats.specs.Library.{sqrt}

abbrev z : Float
z = fin false 0 (pos 0)

-- below the infinity's pattern
below : (k r : ℕ) → k ≤ 277 - 24 → r < 2 ^ 24 → k * 8388608 + r < 0x7f800000
below k r h l = omega arith

less : (s : ℕ) → s ≤ 277 → s - 24 ≤ 277 - 24
less s h = omega arith

pub pattern_below : (x : Float) (n : ℕ) → Val binary32 x false n → n < 2 ^ 277 → to_bits binary32 x < 0x7f800000
pattern_below x n v h =
    subst (λ (b : ℕ). b < 0x7f800000) (sym (write_val binary32 x n v))
    (below (size n - 24) (n / 2 ^ (size n - 24)) (less (size n) (size-le n 277 h)) (kept-lt 24 n))

pub below_zero : (x : Float) (n : ℕ) → Val binary32 x true n → eq x z ≡ false → lt x z ≢ false
below_zero x n v e l = elim (eq-zero-or-pos n) [
  | inl w ↦ true≢false (sym (eq_val binary32 x z true n false 0 v (refl, refl) ∙ ap (λ (k : ℕ). (k == 0) && (false || k == 0)) w) ∙ e)
  | inr p ↦ true≢false (sym (lt_val binary32 x z true n false 0 v (refl, refl) ∙ lt-ltb 0 (n + 0) (plus n p)) ∙ l)
]
  where
    plus : (n : ℕ) → 0 < n → 0 < n + 0
    plus n h = omega arith

sided : (x : Float) (s : Bool) (n : ℕ) → Val binary32 x s n → n < 2 ^ 277 → eq x z ≡ false → lt x z ≡ false → to_bits binary32 x < 0x7f800000
sided x true n v h e l = absurd (below_zero x n v e l)
sided x false n v h e l = pattern_below x n v h

pub upright : (x : Float) → T (fits binary32 x) → ne x x ≡ false → eq x z ≡ false → lt x z ≡ false → (to_bits binary32 x ≢ 0x7f800000) →
    to_bits binary32 x < 0x7f800000
upright nan p d e l n = absurd (true≢false (unfold ne in d))
upright (inf true) p d e l n = absurd (true≢false (unfold lt in l))
upright (inf false) p d e l n = absurd (n (unfold to_bits in refl))
upright (fin s m k) p d e l n = let q = counted binary32 (fin s m k) p tt in sided (fin s m k) q.sign q.count q.val q.rep.4 e l

eq_zero_zero : eq z z ≡ true
unfolding eq
eq_zero_zero = refl

some : (n : ℕ) → (n ≢ 0) → 0 < n
some n h = omega arith

pub pattern_above : (x : Float) → T (fits binary32 x) → eq x z ≡ false → 0 < to_bits binary32 x
pattern_above x p e =
    some (to_bits binary32 x) (λ (w : to_bits binary32 x ≡ 0).
    true≢false (sym (ap (λ (y : Float). eq y z) (sym (of_bits-to_bits binary32 x p) ∙ ap (of_bits binary32) w ∙ zero32) ∙ eq_zero_zero) ∙ e))

-- ---- the root where no digits are worked out
pub not_nan : (x : Float) → ne x x ≡ false → T (not (is_nan x))
unfolding is_nan
not_nan nan d = absurd (true≢false (unfold ne in d))
not_nan (inf s) d = tt
not_nan (fin s m e) d = tt

pub sqrt_nan : (x : Float) → ne x x ≡ true → x ≡ sqrt binary32 x
unfolding sqrt
sqrt_nan x d = let e = differs_from_itself x (of_true d) in subst (λ (y : Float). y ≡ sqrt binary32 y) (sym e) refl

pub sqrt_zero : (x : Float) → eq x z ≡ true → x ≡ sqrt binary32 x
unfolding sqrt eq
sqrt_zero nan t = absurd (false≢true t)
sqrt_zero (inf s) t = absurd (false≢true t)
sqrt_zero (fin s zero e) t = refl
sqrt_zero (fin s (suc m) e) t =
    let a = suc m * up e * 1 in
    let b = 0 * 1 * down e in
    let w : a ≡ b = eqb→eq a b (and_l (a == b) (beq s false || a == 0) (of_true t)) in
    absurd (lt_irrefl 0 (subst (λ (k : ℕ). 0 < k) (w ∙ zero-mul (down e)) (mul-pos (mul-pos (zero-lt-suc m) (up_pos e)) (zero-lt-suc 0))))

pub sqrt_below : (x : Float) → lt x z ≡ true → nan ≡ sqrt binary32 x
unfolding sqrt lt
sqrt_below nan t = absurd (false≢true t)
sqrt_below (inf true) t = refl
sqrt_below (inf false) t = absurd (false≢true t)
sqrt_below (fin true zero e) t =
    absurd (lt_irrefl 0 (subst (λ (k : ℕ). 0 < k) (ap (λ (k : ℕ). k * 1 + 0 * 1 * down e) (zero-mul (up e)) ∙
    ap (λ (k : ℕ). 0 + k) (zero-mul (down e))) (ltb→lt 0 (0 * up e * 1 + 0 * 1 * down e) (of_true t))))
sqrt_below (fin true (suc m) e) t = refl
sqrt_below (fin false m e) t =
    absurd (not-le_of_lt (ltb→lt (m * up e * 1) (0 * 1 * down e) (of_true t)) (native.Mathlib.Nat.le_trans (le_of_eq (zero-mul (down e))) zero-le))

pub sqrt_inf : (x : Float) → T (fits binary32 x) → to_bits binary32 x ≡ 0x7f800000 → x ≡ sqrt binary32 x
sqrt_inf x p e =
    let w : x ≡ inf false = sym (of_bits-to_bits binary32 x p) ∙ ap (of_bits binary32) e ∙ unfold of_bits in refl in
    subst (λ (y : Float). y ≡ sqrt binary32 y) (sym w) (unfold sqrt in refl)

pub nothing_over_nothing : div binary32 (of_bits binary32 0) (of_bits binary32 0) ≡ nan
unfolding div of_bits
nothing_over_nothing = refl
