-- Laws of the five elementary functions, for every f32: their ranges, and what they make of a NaN and of the infinities. PointLaws has exact values.
-- Assumes nothing.
use Rattle.std.specs.Prelude.{◌≡◌, refl, Bool, true, false, cond, not, T, Float}
use Rattle.std.specs.Float.{nan, inf, fin}
use Rattle.std.specs.Float.Ieee.{binary32, add, sub, mul, div, rem, neg, lt, le, eq, fits, is_nan, of_bits, to_bits}
use Rattle.std.specs.Float.Ieee.Fits.{add-fits, sub-fits, mul-fits, cond-fits}
use Rattle.std.specs.Float.Ieee.Scale.{finite}
use Rattle.floats.specs.Ops.{minus, nought, one, pi}
use Rattle.floats.specs.RankLaws.{le_of_not_lt}
use Rattle.elementary.specs.Elementary.{capped, raised, unit, scale, whole, tanh_rest, tanh, exp_rest, exp_least, exp_neg, exp, sin_rest, cos_rest, quadrant}
use Rattle.elementary.specs.Elementary.{sin_cos_near, turn, sin_cos, sin, cos}
use Rattle.elementary.specs.Elementary.{ratio, atan_rest, size, signed, octant, atan2}
use Rattle.elementary.specs.SelectLaws.{Inside, clamped_inside, cond_number, clamped_number, clamped_fits}
use Rattle.elementary.specs.TanhLaws.{tanh_number}
use Rattle.elementary.specs.NumberLaws.{sin_cos_numbers, exp_wide, exp_number, atan_wide}

-- ---- ranges that hold of a NaN too: the tests past the ends fail
unit_inside : (y : Float) → Inside (minus 0x3f80_0000) one (unit y)
unfolding unit lt neg of_bits
unit_inside y = clamped_inside (minus 0x3f80_0000) one refl refl refl y

pub sin_inside : (x : Float) → Inside (minus 0x3f80_0000) one (sin x)
unfolding sin sin_cos sin_cos_near quadrant
sin_inside x = unit_inside _

pub cos_inside : (x : Float) → Inside (minus 0x3f80_0000) one (cos x)
unfolding cos sin_cos sin_cos_near quadrant
cos_inside x = unit_inside _

pub tanh_inside : (x : Float) → Inside (minus 0x3f80_0000) one (tanh x)
unfolding tanh
tanh_inside x = unit_inside _

pub exp_neg_inside : (x : Float) → Inside nought one (exp_neg x)
unfolding exp_neg lt of_bits
exp_neg_inside x = pick (lt x exp_least) (raised (capped (exp_wide x) one) nought) (clamped_inside nought one refl refl refl (exp_wide x))
  where
    pick : (b : Bool) (w : Float) → Inside nought one w → Inside nought one (cond b nought w)
    pick true w h = record { low = refl; high = refl }
    pick false w h = h

pub atan2_inside : (y x : Float) → Inside (minus 0x4049_0fdb) pi (atan2 y x)
unfolding atan2 lt neg of_bits
atan2_inside y x = clamped_inside (minus 0x4049_0fdb) pi refl refl refl (atan_wide y x)

-- ---- ranges of a number: the results lie between the ends
pub record Between (bottom top r : Float) : Type 0 where
  pub low : T (le bottom r)
  pub high : T (le r top)

module _ (bottom top : Float) (p : T (fits binary32 bottom)) (q : T (fits binary32 top)) (n : T (not (is_nan bottom))) (m : T (not (is_nan top))) where
  pub between : (r : Float) → T (fits binary32 r) → T (not (is_nan r)) → Inside bottom top r → Between bottom top r
  between r f k h = record { low = le_of_not_lt binary32 r bottom f p k n h.low; high = le_of_not_lt binary32 top r q f m k h.high }

unit_fits : (y : Float) → T (fits binary32 y) → T (fits binary32 (unit y))
unfolding unit fits of_bits neg
unit_fits y f = clamped_fits y one (minus 0x3f80_0000) f tt tt

unit_between : (r : Float) → T (fits binary32 r) → T (not (is_nan r)) → Inside (minus 0x3f80_0000) one r → Between (minus 0x3f80_0000) one r
unfolding is_nan fits of_bits neg
unit_between r f n h = between (minus 0x3f80_0000) one tt tt tt tt r f n h

pub sin_between : (x : Float) → T (fits binary32 x) → T (finite x) → Between (minus 0x3f80_0000) one (sin x)
sin_between x f q =
    unit_between (sin x) (unfold sin sin_cos sin_cos_near quadrant in unit_fits _ (sub-fits binary32 _ _))
    (unfold sin in (sin_cos_numbers x f q).s) (sin_inside x)

pub cos_between : (x : Float) → T (fits binary32 x) → T (finite x) → Between (minus 0x3f80_0000) one (cos x)
cos_between x f q =
    unit_between (cos x) (unfold cos sin_cos sin_cos_near quadrant in unit_fits _ (add-fits binary32 _ _))
    (unfold cos in (sin_cos_numbers x f q).c) (cos_inside x)

pub tanh_between : (x : Float) → T (fits binary32 x) → T (not (is_nan x)) → Between (minus 0x3f80_0000) one (tanh x)
tanh_between x f n = unit_between (tanh x) (unfold tanh in unit_fits _ (sub-fits binary32 _ _)) (tanh_number x f n) (tanh_inside x)

pub exp_neg_between : (x : Float) → T (fits binary32 x) → T (finite x) → lt nought x ≡ false → Between nought one (exp_neg x)
unfolding is_nan fits of_bits
exp_neg_between x f q g = between nought one tt tt tt tt (exp_neg x) held number (exp_neg_inside x)
  where
    w : Float
    w = raised (capped (exp_wide x) one) nought

    held : T (fits binary32 (exp_neg x))
    held = unfold exp_neg in cond-fits binary32 (lt x exp_least) nought w tt (clamped_fits (exp_wide x) one nought (mul-fits binary32 _ _) tt tt)

    number : T (not (is_nan (exp_neg x)))
    number = unfold exp_neg in cond_number (lt x exp_least) nought w tt (clamped_number (exp_wide x) one nought (exp_number x f q g) tt tt)

pub exp_between : (x : Float) → T (fits binary32 x) → T (finite x) → lt nought x ≡ false → Between nought one (exp x)
unfolding exp
exp_between x f q g = rw g (exp_neg_between x f q g)

-- ---- a NaN for a NaN
pub sin_nan : sin nan ≡ nan
unfolding sin sin_cos sin_cos_near quadrant sin_rest cos_rest whole turn unit add sub mul rem neg lt of_bits
sin_nan = refl

pub cos_nan : cos nan ≡ nan
unfolding cos sin_cos sin_cos_near quadrant sin_rest cos_rest whole turn unit add sub mul rem neg lt of_bits
cos_nan = refl

pub tanh_nan : tanh nan ≡ nan
unfolding tanh tanh_rest unit scale add sub mul div neg lt of_bits to_bits
tanh_nan = refl

pub exp_nan : exp nan ≡ nan
unfolding exp exp_neg exp_rest scale add sub mul div neg lt of_bits to_bits
exp_nan = refl

-- of two sizes, one a NaN: the ratio is one
ratio_nan_left : (ax : Float) → ratio nan ax ≡ nan
unfolding ratio eq lt div
ratio_nan_left nan = refl
ratio_nan_left (inf s) = refl
ratio_nan_left (fin s m e) = refl

ratio_nan_right : (ay : Float) → ratio ay nan ≡ nan
unfolding ratio eq lt div
ratio_nan_right nan = refl
ratio_nan_right (inf s) = refl
ratio_nan_right (fin s m e) = refl

-- and a NaN stays one, whatever the tests say
signed_nan : (b : Bool) → signed nan b ≡ nan
unfolding signed neg
signed_nan true = refl
signed_nan false = refl

octant_nan : (steep back : Bool) → octant nan steep back ≡ nan
unfolding octant add sub neg of_bits
octant_nan true back = refl
octant_nan false true = refl
octant_nan false false = refl

wide_nan : (y x : Float) → ratio (size y) (size x) ≡ nan → atan_wide y x ≡ nan
unfolding atan_rest add mul
wide_nan y x e = rw (e, signed_nan, octant_nan, signed_nan)

raised_nan : (x top bottom : Float) → x ≡ nan → lt top nan ≡ false → raised (capped x top) bottom ≡ nan
unfolding lt
raised_nan x top bottom e h = rw (e, h)

pub atan2_nan_left : (x : Float) → atan2 nan x ≡ nan
unfolding atan2 size lt neg of_bits
atan2_nan_left x = raised_nan (atan_wide nan x) pi (minus 0x4049_0fdb) (wide_nan nan x (ratio_nan_left (size x))) refl

pub atan2_nan_right : (y : Float) → atan2 y nan ≡ nan
unfolding atan2 size lt neg of_bits
atan2_nan_right y = raised_nan (atan_wide y nan) pi (minus 0x4049_0fdb) (wide_nan y nan (ratio_nan_right (size y))) refl

-- ---- the infinities
pub sin_infinite : (s : Bool) → sin (inf s) ≡ nan
unfolding sin sin_cos sin_cos_near quadrant sin_rest cos_rest whole turn unit add sub mul rem neg lt of_bits
sin_infinite true = refl
sin_infinite false = refl

pub cos_infinite : (s : Bool) → cos (inf s) ≡ nan
unfolding cos sin_cos sin_cos_near quadrant sin_rest cos_rest whole turn unit add sub mul rem neg lt of_bits
cos_infinite true = refl
cos_infinite false = refl

pub tanh_infinite : (s : Bool) → tanh (inf s) ≡ cond s (minus 0x3f80_0000) one
unfolding tanh tanh_rest unit scale add sub mul div neg lt of_bits to_bits
tanh_infinite true = refl
tanh_infinite false = refl
