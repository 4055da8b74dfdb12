-- The first loop ends since 2 ^ 25 squared is above n; the second keeps n ≤ s * s + s. Assumes nothing.
use Rattle.std.proofs.Common.{◌-◌, ◌+◌, ◌*◌, ◌≤◌}
use Rattle.roots.proofs.nearest_root.Given as goal

abbrev pub invariant-loop-s : goal.invariant-loop-s
invariant-loop-s l = l.s ≤ 33554432

abbrev pub decreases-loop-s : goal.decreases-loop-s
decreases-loop-s l = 33554432 - l.s

abbrev pub invariant-loop-s-2 : goal.invariant-loop-s-2
invariant-loop-s-2 l = (l.s ≤ 33554432) × (l.fn.n ≤ l.s * l.s + l.s)

abbrev pub decreases-loop-s-2 : goal.decreases-loop-s-2
decreases-loop-s-2 l = l.s
