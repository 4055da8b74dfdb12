-- While no angle was far, all so far are near. Assumes nothing.
use Rattle.std.proofs.Common.{◌≡◌, true}
use Rattle.solver.specs.Buffers.{RingNear}
use Rattle.solver.proofs.all_near.Given as goal

abbrev pub invariant-loop-x : goal.invariant-loop-x
invariant-loop-x l = l.near ≡ true → RingNear l.x-index l.angles
