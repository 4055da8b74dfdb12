-- 0 / 0 is the one NaN. Assumes nothing.
use mathlib.Core.Path.{refl}
use lib.Ieee.{div, of_bits}
use Rattle.robust_lanes.proofs.none_yet.Goals as goal

pub invariant_of-result : goal.invariant_of-result
unfolding div of_bits
invariant_of-result c = record { kept = refl }
