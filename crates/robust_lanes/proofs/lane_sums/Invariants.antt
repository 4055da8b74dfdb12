-- A turn takes the row and the sample at their own place, and the loop keeps the sums of the four pairs so far. Assumes nothing.
use Rattle.std.proofs.Common.{◌≡◌, length}
use Rattle.robust_lanes.specs.Lanes as L
use Rattle.robust_lanes.proofs.lane_sums.Given as goal

abbrev pub invariant-loop-row : goal.invariant-loop-row
invariant-loop-row l = l.s ≡ L.lane_sums (length l.yielded) l.centered l.h l.a l.b
