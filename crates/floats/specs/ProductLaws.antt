-- Products and quotients in units: x of a units times y of b units is a * b / 2 ^ (2 * low), and x over y is a / b, each rounded, with the sign by
-- the two signs.
-- Assumes nothing.
use Rattle.std.specs.Prelude.{◌≡◌, ℕ, zero, suc, ◌*◌, ◌^◌, ◌<◌, Bool, true, false, cond, ◌==◌, refl, Float}
use Rattle.std.proofs.Common.{sym, ap, ◌∙◌, subst, lt_irrefl, zero-mul, mul_comm, mul_assoc, mul_left_comm, mul-pos, zero-lt-suc, pow_pos}
use Rattle.std.proofs.Math.Nat.{mul-mul-mul_comm, eq_of_mul-eq-mul_right}
use Rattle.std.specs.Float.{nan, inf, fin, Format}
use Rattle.std.specs.Float.Ieee.{low, up, down, unlike, round, mul, div}
use Rattle.std.specs.Float.Ieee.Fits.{up_pos, down_pos}
use Rattle.std.specs.Float.Ieee.Scale.{round_same}
use Rattle.floats.specs.UnitLaws.{Val, no_eqb}
use Rattle.floats.specs.RankLaws.{Sized}
use Rattle.floats.specs.NarrowOrderLaws.{G, fraction_sized}

-- a product commutes, in every bit
unlike_turned : (s t : Bool) → unlike s t ≡ unlike t s
unlike_turned true true = refl
unlike_turned true false = refl
unlike_turned false true = refl
unlike_turned false false = refl

pub mul_turned : (f : Format) (x y : Float) → mul f x y ≡ mul f y x
unfolding mul
mul_turned f nan nan = refl
mul_turned f nan (inf t) = refl
mul_turned f nan (fin t n d) = refl
mul_turned f (inf s) nan = refl
mul_turned f (inf s) (inf t) = ap inf (unlike_turned s t)
mul_turned f (inf s) (fin t n d) = ap (λ (u : Bool). cond (n == 0) nan (inf u)) (unlike_turned s t)
mul_turned f (fin s m e) nan = refl
mul_turned f (fin s m e) (inf t) = ap (λ (u : Bool). cond (m == 0) nan (inf u)) (unlike_turned s t)
mul_turned f (fin s m e) (fin t n d) = rw (unlike_turned s t, mul_comm (m * up e) (n * up d), mul_comm (down e) (down d))

pub mul_val : (f : Format) (x y : Float) (s : Bool) (a : ℕ) (t : Bool) (b : ℕ) → Val f x s a → Val f y t b →
    mul f x y ≡ round f (unlike s t) (a * b) (2 ^ low f * 2 ^ low f)
unfolding mul
mul_val f nan y s a t b v w = absurd v
mul_val f (inf s') y s a t b v w = absurd v
mul_val f (fin s' m e) nan s a t b v w = absurd w
mul_val f (fin s' m e) (inf t') s a t b v w = absurd w
mul_val f (fin s' m e) (fin t' n d) s a t b v w =
    let l = 2 ^ low f in
    round_same f (unlike s' t') (m * up e * (n * up d)) (down e * down d) (a * b) (l * l) (mul-pos (down_pos e) (down_pos d))
    (mul-pos (pow_pos (low f)) (pow_pos (low f)))
    (mul-mul-mul_comm (m * up e) (n * up d) l l ∙ ap (λ (z : ℕ). z * (n * up d * l)) v.1 ∙ ap (λ (z : ℕ). a * down e * z) w.1 ∙
    mul-mul-mul_comm a (down e) b (down d))
    ∙ ap (λ (z : Bool). round f (unlike z t') (a * b) (l * l)) v.0 ∙ ap (λ (z : Bool). round f (unlike s z) (a * b) (l * l)) w.0

-- the divisor is not zero
pub div_val : (f : Format) (x y : Float) (s : Bool) (a : ℕ) (t : Bool) (b : ℕ) → 0 < b → Val f x s a → Val f y t b → div f x y ≡ round f (unlike s t) a b
unfolding div
div_val f nan y s a t b B v w = absurd v
div_val f (inf s') y s a t b B v w = absurd v
div_val f (fin s' m e) nan s a t b B v w = absurd w
div_val f (fin s' m e) (inf t') s a t b B v w = absurd w
div_val f (fin s' m e) (fin t' n d) s a t b B v w =
    let l = 2 ^ low f in
    let X = m * up e in
    let Y = n * up d in
    let N : 0 < n = some n w.1 in
    ap (λ (z : Bool). cond z (cond (m == 0) nan (inf (unlike s' t'))) (round f (unlike s' t') (X * down d) (Y * down e))) (no_eqb n N)
    ∙ round_same f (unlike s' t') (X * down d) (Y * down e) a b (mul-pos (mul-pos N (up_pos d)) (down_pos e)) B
    (eq_of_mul-eq-mul_right l (pow_pos (low f)) (X * down d * b) (a * (Y * down e)) (cross X (down d) b l a (down e) Y v.1 w.1))
    ∙ ap (λ (z : Bool). round f (unlike z t') a b) v.0 ∙ ap (λ (z : Bool). round f (unlike s z) a b) w.0
  where
    some : (n : ℕ) → n * up d * 2 ^ low f ≡ b * down d → 0 < n
    some zero h =
        absurd (lt_irrefl 0 (subst (λ (z : ℕ). 0 < z) (sym h ∙ ap (λ (z : ℕ). z * 2 ^ low f) (zero-mul (up d)) ∙
        zero-mul (2 ^ low f)) (mul-pos B (down_pos d))))
    some (suc n) h = zero-lt-suc n

    -- X / E = a / l and Y / D = b / l
    cross : (X D b l a E Y : ℕ) → X * l ≡ a * E → Y * l ≡ b * D → X * D * b * l ≡ a * (Y * E) * l
    cross X D b l a E Y p q =
        let u : X * D * b * l ≡ X * l * (b * D) = simp (mul_assoc, mul_comm, mul_left_comm) in
        let r : a * (Y * E) * l ≡ a * E * (Y * l) = simp (mul_assoc, mul_comm, mul_left_comm) in
        u ∙ ap (λ (z : ℕ). z * (b * D)) p ∙ ap (λ (z : ℕ). a * E * z) (sym q) ∙ sym r

-- ---- sizes
pub mul_size : (f : Format) (x y : Float) (s : Bool) (a : ℕ) (t : Bool) (b : ℕ) → Val f x s a → Val f y t b →
    Sized f (mul f x y) (unlike s t) (G f (2 ^ low f * 2 ^ low f) (a * b))
mul_size f x y s a t b v w =
    subst (λ (z : Float). Sized f z (unlike s t) (G f (2 ^ low f * 2 ^ low f) (a * b))) (sym (mul_val f x y s a t b v w))
    (fraction_sized f (unlike s t) (a * b) (2 ^ low f * 2 ^ low f))
