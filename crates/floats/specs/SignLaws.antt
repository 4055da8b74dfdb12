-- `abs` clears the sign and `signum` is 1 with the sign; a program finds both by comparisons alone, with no look at the bits. Assumes nothing.
use Rattle.std.specs.Prelude.{◌≡◌, ℕ, zero, suc, ◌-◌, ◌*◌, ◌^◌, ◌<◌, ◌≤◌, Bool, true, false, cond, not, T, ℤ, pos, Float}
use Rattle.std.proofs.Math.Path.{refl}
use Rattle.std.proofs.Common.{sym, ap, ◌∙◌, subst, zero-le, le_trans, le_of_eq, not-le_of_lt, zero-add, zero-mul, arith, true≢false, ltb→lt, nltb→le}
use Rattle.std.proofs.lemmas.Bool.{false≢true}
use Rattle.std.specs.Float.{nan, inf, fin, Format, binary32}
use Rattle.std.specs.Float.Ieee.{low, up, down, round, neg, add, sub, div, lt, eq, ne, fits, is_nan, of_bits}
use Rattle.std.specs.Float.Ieee.Fits.{sub-fits}
use Rattle.std.specs.Float.Ieee.Scale.{overflow}
use Rattle.std.specs.Float.Ieee.Compare.{differs_from_itself}
use Rattle.floats.specs.Ops.{◌⊘◌, nought, one}
use Rattle.floats.specs.Library.{abs, signum, negative}
use Rattle.floats.specs.UnitLaws.{Val, lt_val, sub_val}
use Rattle.floats.specs.RoundingLaws.{counted, Rep, R-exact}
use Rattle.floats.specs.NonNegLaws.{sum_same, sum_pn_ge, rounded}
use Rattle.floats.specs.PatternLaws.{same_clear}
use Rattle.floats.specs.FiniteLaws.{of_true}
use Rattle.floats.specs.PositiveLaws.{below_zero}
use Rattle.floats.specs.MaxMinLaws.{zero_is}

abbrev zero0 : Float
zero0 = fin false 0 (pos 0)

pub abs_fits : (f : Format) (x : Float) → T (fits f x) → T (fits f (abs x))
unfolding abs fits
abs_fits f nan p = tt
abs_fits f (inf s) p = tt
abs_fits f (fin s zero e) p = p
abs_fits f (fin s (suc m) e) p = p

pub abs_val : (f : Format) (x : Float) (s : Bool) (n : ℕ) → Val f x s n → Val f (abs x) false n
unfolding abs
abs_val f nan s n v = absurd v
abs_val f (inf t) s n v = absurd v
abs_val f (fin t m e) s n v = (refl, v.1)

-- how a program finds it: x itself above zero, and 0 - x elsewhere, which has no unit where x has none
pub abs_above : (x : Float) → lt zero0 x ≡ true → x ≡ abs x
unfolding abs lt
abs_above nan t = absurd (false≢true t)
abs_above (inf true) t = absurd (false≢true t)
abs_above (inf false) t = refl
abs_above (fin true m e) t = absurd (false≢true t)
abs_above (fin false m e) t = refl

pub abs_rest : (x : Float) → T (fits binary32 x) → lt zero0 x ≡ false → sub binary32 zero0 x ≡ abs x
abs_rest nan p t = unfold sub add neg abs in refl
abs_rest (inf true) p t = unfold sub add neg abs in refl
abs_rest (inf false) p t = absurd (true≢false (unfold lt in t))
abs_rest (fin s m e) p t = let c = counted binary32 (fin s m e) p tt in go c.sign c.count c.val c.rep
  where
    x : Float
    x = fin s m e

    Z : Val binary32 zero0 false 0
    Z = (refl, refl)

    less : (n : ℕ) → n ≤ 0 → 0 - n ≡ n
    less n h = omega arith

    y : Float
    y = sub binary32 zero0 x

    rounds : ℕ → Float
    rounds n = round binary32 false n (2 ^ low binary32)

    from : (n : ℕ) → y ≡ rounds n → Rep binary32 n → Val binary32 (abs x) false n → y ≡ abs x
    from n e r v =
        let k = R-exact binary32 n r in
        let w = rounded binary32 y false n (subst (λ (z : ℕ). z < overflow binary32) (sym k) r.4) e in
        same_clear binary32 y (abs x) n (sub-fits binary32 zero0 x) (abs_fits binary32 x p) (subst (Val binary32 y false) k w) v

    go : (u : Bool) (n : ℕ) → Val binary32 x u n → Rep binary32 n → y ≡ abs x
    go true n v r =
        from n (sub_val binary32 zero0 x false 0 true n Z v ∙ sum_same binary32 0 n (2 ^ low binary32) false ∙ ap rounds (zero-add n)) r
        (abs_val binary32 x true n v)
    go false n v r =
        let h : n ≤ 0 = nltb→le 0 n (subst (λ (b : Bool). T (not b)) (sym t ∙ lt_val binary32 zero0 x false 0 false n Z v) tt) in
        from n (sub_val binary32 zero0 x false 0 false n Z v ∙ sum_pn_ge binary32 0 n (2 ^ low binary32) h ∙ ap rounds (less n h)) r
        (abs_val binary32 x false n v)

-- what is not above c in size lies between -c and c, or is a NaN
pub abs_within : (m : ℕ) (d : ℤ) (x : Float) → lt (fin false m d) (abs x) ≡ false → (lt (fin false m d) x ≡ false) × (lt x (fin true m d) ≡ false)
unfolding abs lt
abs_within m d nan t = (refl, refl)
abs_within m d (inf s) t = absurd (true≢false t)
abs_within m d (fin true n e) t = (refl, t)
abs_within m d (fin false n e) t = (t, refl)

-- ---- signum
pub signum_nan : (x : Float) → ne x x ≡ true → x ≡ signum x
unfolding signum is_nan
signum_nan x d = let e = differs_from_itself x (of_true d) in subst (λ (y : Float). y ≡ signum y) (sym e) refl

pub signum_below : (x : Float) → lt x zero0 ≡ true → neg one ≡ signum x
unfolding signum is_nan negative lt
signum_below nan t = absurd (false≢true t)
signum_below (inf true) t = refl
signum_below (inf false) t = absurd (false≢true t)
signum_below (fin true m e) t = refl
signum_below (fin false m e) t = absurd (not-le_of_lt (ltb→lt (m * up e * 1) (0 * 1 * down e) (of_true t)) (le_trans (le_of_eq (zero-mul (down e))) zero-le))

pub signum_above : (x : Float) → T (fits binary32 x) → ne x x ≡ false → lt x zero0 ≡ false → eq x zero0 ≡ false → one ≡ signum x
unfolding signum is_nan negative
signum_above nan p n l e = absurd (true≢false (unfold ne eq in n))
signum_above (inf true) p n l e = absurd (true≢false (unfold lt in l))
signum_above (inf false) p n l e = refl
signum_above (fin false m k) p n l e = refl
signum_above (fin true m k) p n l e = let c = counted binary32 (fin true m k) p tt in absurd (go c.sign c.count c.val)
  where
    go : (s : Bool) (n : ℕ) → Val binary32 (fin true m k) s n → ⊥
    go true n v = below_zero (fin true m k) n v e l
    go false n v = true≢false v.0

-- at a zero of the sign s
zero_below : (s : Bool) → lt (one ⊘ fin s 0 (pos 0)) nought ≡ s
unfolding div lt of_bits
zero_below true = refl
zero_below false = refl

zero_signum : (s : Bool) → signum (fin s 0 (pos 0)) ≡ cond s (neg one) one
unfolding signum is_nan negative
zero_signum s = refl

pub signum_zero : (x : Float) (s : Bool) → T (fits binary32 x) → eq x nought ≡ true → lt (one ⊘ x) nought ≡ s → cond s (neg one) one ≡ signum x
signum_zero x s p z l =
    let w = zero_is binary32 x p z in
    let e : negative x ≡ s = sym (zero_below (negative x)) ∙ ap (λ (y : Float). lt (one ⊘ y) nought) (sym w) ∙ l in
    sym (ap signum w ∙ zero_signum (negative x) ∙ ap (λ (b : Bool). cond b (neg one) one) e)
