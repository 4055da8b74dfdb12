-- The arc tangent of two zeros, computed from the definition. Assumes nothing.
use Rattle.std.specs.Prelude.{◌≡◌, refl}
use Rattle.std.specs.Float.Ieee.{add, sub, mul, div, neg, lt, eq, of_bits}
use Rattle.floats.specs.Ops.{nought}
use Rattle.elementary.specs.Elementary.{left, ratio, atan_rest, size, signed, octant, atan2}

pub atan2_zeros : atan2 nought nought ≡ nought
unfolding atan2 left ratio atan_rest size signed octant add sub mul div neg lt eq of_bits
atan2_zeros = refl
