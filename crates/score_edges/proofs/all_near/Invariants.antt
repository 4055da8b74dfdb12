-- The count is at most one a turn, and while it is 0 every difference so far is near. Assumes nothing.
use mathlib.Core.Path.{◌≡◌}
use Prim.Native.Nat.{◌≤◌}
use lib.ListN.{length}
use Rattle.score_edges.specs.NearLaws.{AllNear}
use Rattle.score_edges.proofs.all_near.Given as goal

abbrev pub invariant-loop-angle : goal.invariant-loop-angle
invariant-loop-angle l = (l.angle-index ≤ length l.grad_angles) × (l.count ≤ l.angle-index) × (l.count ≡ 0 → AllNear l.angle-index l.grad_angles l.theta)
