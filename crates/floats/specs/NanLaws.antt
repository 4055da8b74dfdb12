-- Which bit patterns are a NaN's: those whose digits and exponent's field, the sign left off, are above the infinity's. Stated over the format.
-- Assumes nothing.
use Rattle.std.specs.Prelude.{◌≡◌, ℕ, ◌*◌, ◌%◌, ◌<◌, ◌≤◌, Bool, true, not, T, from_bits, Float}
use Rattle.std.proofs.Math.Path.{refl}
use Rattle.std.proofs.Common.{sym, subst, ◌∙◌, lt-ltb}
use Rattle.std.proofs.lemmas.Bool.{false≢true}
use Rattle.std.proofs.Math.Arith.{le→nltb}
use Rattle.std.specs.Float.Ieee.{nan, add, mul, is_nan, nan_bits, to_bits, ones, hid, top, ne}
use Rattle.std.specs.Float.{inf, fin, Format, binary32}
use Rattle.std.specs.Float.Ieee.Bits.{nan_bits_is, nan_bits_above}
use Rattle.std.specs.Float.Ieee.Compare.{differs_from_itself}
use Rattle.floats.specs.FiniteLaws.{of_true}

is_nan_lem : (x : Float) → is_nan x ≡ true → x ≡ nan
unfolding is_nan
is_nan_lem nan e = refl
is_nan_lem (inf s) e = absurd (false≢true e)
is_nan_lem (fin s m k) e = absurd (false≢true e)

pub nan_word : (f : Format) (w : ℕ) → ones f * hid f < w % top f → nan ≡ from_bits f w
nan_word f w h = sym (is_nan_lem (from_bits f w) (sym (nan_bits_is f w) ∙ nan_bits_above f w ∙ lt-ltb (ones f * hid f) (w % top f) h))

pub no_nan_word : (f : Format) (w : ℕ) → w % top f ≤ ones f * hid f → T (not (nan_bits f w))
no_nan_word f w h = subst (λ (b : Bool). T (not b)) (sym (nan_bits_above f w)) (le→nltb (ones f * hid f) (w % top f) h)

-- the pattern that is written for a NaN
pub nan_bits_lem : (x : Float) → ne x x ≡ true → 0x7fc0_0000 ≡ to_bits binary32 x
unfolding to_bits
nan_bits_lem x d = subst (λ (y : Float). 0x7fc0_0000 ≡ to_bits binary32 y) (sym (differs_from_itself x (of_true d))) refl

-- what is made of a NaN is one; on the left by computation
module _ (f : Format) where
  pub add_nan : (x : Float) → add f x nan ≡ nan
  unfolding add
  add_nan nan = refl
  add_nan (inf s) = refl
  add_nan (fin s m e) = refl

  pub mul_nan : (x : Float) → mul f x nan ≡ nan
  unfolding mul
  mul_nan nan = refl
  mul_nan (inf s) = refl
  mul_nan (fin s m e) = refl
