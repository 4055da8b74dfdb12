-- Laws of the selects and of `scale`: a clamped value is never past its ends, and what has passed a test is a number. Assumes nothing.
use Rattle.std.specs.Prelude.{◌≡◌, refl, Bool, true, false, cond, not, ℕ, ◌*◌, ◌%◌, ◌<◌, T, Float}
use Rattle.std.proofs.Common.{sym, subst, ◌∙◌, mod-lt, mod-eq_of_lt, arith, le-ltb}
use Rattle.std.specs.Float.{binary32}
use Rattle.std.specs.Float.Ieee.{lt, fits, is_nan, nan_bits}
use Rattle.std.specs.Float.Ieee.Fits.{cond-fits}
use Rattle.std.specs.Float.Ieee.Bits.{nan_bits_above}
use Rattle.floats.specs.RankLaws.{lt_no_nan}
use Rattle.elementary.specs.Elementary.{capped, raised, above, under}

-- ---- what `scale` is given is a number: it has passed a test, or is the other operand
tested : (b : Bool) (x y : Float) → (b ≡ true → T (not (is_nan x))) → T (not (is_nan y)) → T (not (is_nan (cond b x y)))
tested true x y h n = h refl
tested false x y h n = n

pub above_number : (x bottom : Float) → T (not (is_nan bottom)) → T (not (is_nan (above x bottom)))
above_number x bottom n = tested (lt bottom x) x bottom (λ e. (lt_no_nan bottom x (subst T (sym e) tt)).1) n

pub under_number : (x top : Float) → T (not (is_nan top)) → T (not (is_nan (under x top)))
under_number x top n = tested (lt x top) x top (λ e. (lt_no_nan x top (subst T (sym e) tt)).0) n

-- a number that is brought between two others is a number
pub cond_number : (b : Bool) (x y : Float) → T (not (is_nan x)) → T (not (is_nan y)) → T (not (is_nan (cond b x y)))
cond_number b x y n m = tested b x y (λ e. n) m

pub clamped_number : (x top bottom : Float) → T (not (is_nan x)) → T (not (is_nan top)) → T (not (is_nan bottom)) →
    T (not (is_nan (raised (capped x top) bottom)))
clamped_number x top bottom n t b = cond_number (lt (capped x top) bottom) bottom (capped x top) b (cond_number (lt top x) top x t n)

pub clamped_fits : (x top bottom : Float) → T (fits binary32 x) → T (fits binary32 top) → T (fits binary32 bottom) →
    T (fits binary32 (raised (capped x top) bottom))
clamped_fits x top bottom p t b = cond-fits binary32 (lt (capped x top) bottom) bottom (capped x top) b (cond-fits binary32 (lt top x) top x t p)

-- a pattern that is an exponent alone is no NaN's
pub exponent_alone : (b : ℕ) → T (not (nan_bits binary32 (b % 256 * 8388608)))
exponent_alone b =
    let small : b % 256 < 256 = mod-lt b (omega arith) in
    let whole : b % 256 * 8388608 % 2147483648 ≡ b % 256 * 8388608 = mod-eq_of_lt (omega arith) in
    subst (λ (t : Bool). T (not t)) (sym (nan_bits_above binary32 (b % 256 * 8388608) ∙
    le-ltb 2139095040 (b % 256 * 8388608 % 2147483648) (omega (arith, whole)))) tt

-- ---- never past its ends: both tests fail, of a NaN too
pub record Inside (bottom top r : Float) : Type 0 where
  pub low : lt r bottom ≡ false
  pub high : lt top r ≡ false

module _ (bottom top : Float) (b : lt bottom bottom ≡ false) (t : lt top top ≡ false) (o : lt top bottom ≡ false) where
  -- the value by its two tests, with what each says where it fails
  picked : (v : Bool) (y : Float) → (v ≡ false → lt y bottom ≡ false) → lt top y ≡ false → Inside bottom top (cond v bottom y)
  picked true y p q = record { low = b; high = o }
  picked false y p q = record { low = p refl; high = q }

  not_above : (u : Bool) (x : Float) → (u ≡ false → lt top x ≡ false) → lt top (cond u top x) ≡ false
  not_above true x p = t
  not_above false x p = p refl

  pub clamped_inside : (x : Float) → Inside bottom top (raised (capped x top) bottom)
  clamped_inside x = picked (lt (capped x top) bottom) (capped x top) (λ e. e) (not_above (lt top x) x (λ e. e))
