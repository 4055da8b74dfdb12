-- What is finite was made of finite parts: no sum, difference, product or root takes a NaN or an infinity back to a finite value, and no share takes one
-- of what is divided. Assumes nothing.
use Rattle.std.specs.Prelude.{Bool, true, false, cond, not, T, ◌==◌, Float}
use Rattle.std.specs.Bool.{beq}
use Rattle.std.specs.Float.Ieee.{nan, unlike, add, sub, mul, div, neg}
use Rattle.std.specs.Float.{inf, fin, Format}
use Rattle.std.specs.Float.Ieee.Scale.{finite}
use Rattle.floats.specs.Library.{sqrt}

neither : (b : Bool) (x y : Float) {P : Type 0} → T (not (finite x)) → T (not (finite y)) → T (finite (cond b x y)) → P
neither b x y p q t = absurd (no (cond b x y) (either b) t)
  where
    either : (b : Bool) → T (not (finite (cond b x y)))
    either true = p
    either false = q

    no : (z : Float) → T (not (finite z)) → T (finite z) → ⊥
    no nan p t = t
    no (inf s) p t = t
    no (fin s m e) p t = p

module _ (f : Format) where
  pub add_parts : (x y : Float) → T (finite (add f x y)) → T (finite x) × T (finite y)
  unfolding add
  add_parts nan y t = absurd t
  add_parts (inf s) nan t = absurd t
  add_parts (inf s) (inf u) t = neither (beq s u) (inf s) nan tt tt t
  add_parts (inf s) (fin u m e) t = absurd t
  add_parts (fin s m e) nan t = absurd t
  add_parts (fin s m e) (inf u) t = absurd t
  add_parts (fin s m e) (fin u n d) t = (tt, tt)

  pub sub_parts : (x y : Float) → T (finite (sub f x y)) → T (finite x) × T (finite y)
  unfolding sub neg
  sub_parts x y t = let p = add_parts x (neg y) t in (p.0, back y p.1)
    where
      back : (y : Float) → T (finite (neg y)) → T (finite y)
      back nan t = t
      back (inf s) t = t
      back (fin s m e) t = t

  pub mul_parts : (x y : Float) → T (finite (mul f x y)) → T (finite x) × T (finite y)
  unfolding mul
  mul_parts nan y t = absurd t
  mul_parts (inf s) nan t = absurd t
  mul_parts (inf s) (inf u) t = absurd t
  mul_parts (inf s) (fin u m e) t = neither (m == 0) nan (inf (unlike s u)) tt tt t
  mul_parts (fin s m e) nan t = absurd t
  mul_parts (fin s m e) (inf u) t = neither (m == 0) nan (inf (unlike s u)) tt tt t
  mul_parts (fin s m e) (fin u n d) t = (tt, tt)

  pub div_part : (x y : Float) → T (finite (div f x y)) → T (finite x)
  unfolding div
  div_part nan y t = t
  div_part (inf s) nan t = t
  div_part (inf s) (inf u) t = t
  div_part (inf s) (fin u m e) t = t
  div_part (fin s m e) y t = tt

  pub sqrt_part : (x : Float) → T (finite (sqrt f x)) → T (finite x)
  unfolding sqrt
  sqrt_part nan t = t
  sqrt_part (inf s) t = neither s nan (inf false) tt tt t
  sqrt_part (fin s m e) t = tt
