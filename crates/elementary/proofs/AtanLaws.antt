-- The range of atan2 at two numbers: the clamp at its end keeps it between -PI and PI, and what is clamped is a number. Assumes nothing.
use Rattle.std.specs.Prelude.{not, T, Float}
use Rattle.std.specs.Float.Ieee.{binary32, neg, fits, is_nan, of_bits}
use Rattle.floats.specs.Ops.{minus, pi}
use Rattle.elementary.specs.Elementary.{atan2}
use Rattle.elementary.specs.SelectLaws.{clamped_number, clamped_fits}
use Rattle.elementary.specs.NumberLaws.{atan_wide, atan2_number, wide_fits}
use Rattle.elementary.specs.ElementaryLaws.{Between, between, atan2_inside}

pub atan2_between : (y x : Float) → T (fits binary32 y) → T (fits binary32 x) → T (not (is_nan y)) → T (not (is_nan x)) →
    Between (minus 0x4049_0fdb) pi (atan2 y x)
unfolding is_nan fits of_bits neg
atan2_between y x f g n m = between (minus 0x4049_0fdb) pi tt tt tt tt (atan2 y x) held number (atan2_inside y x)
  where
    held : T (fits binary32 (atan2 y x))
    held = unfold atan2 in clamped_fits (atan_wide y x) pi (minus 0x4049_0fdb) (wide_fits y x) tt tt

    number : T (not (is_nan (atan2 y x)))
    number = unfold atan2 in clamped_number (atan_wide y x) pi (minus 0x4049_0fdb) (atan2_number y x f g n m) tt tt
