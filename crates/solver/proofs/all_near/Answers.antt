-- While no angle was far, all so far are near. Assumes nothing.
use Rattle.std.proofs.Common.{arith, ◌≡◌, length}
use Rattle.solver.proofs.SolverLaws.{near_none, near_next}
use Rattle.solver.proofs.all_near.Goals as goal

pub loop-x-init : goal.loop-x-init
loop-x-init c = λ e. near_none _

pub loop-x-preserved : goal.loop-x-preserved
loop-x-preserved c = λ e. let h = c.near_too-near.ensures e in near_next _ _ (c.loop-x.invariant h.0) h.1

pub returns : goal.returns
returns c = λ e. let h : c.loop-x.x-index ≡ length c.args.angles.now = omega arith in rw h at (c.loop-x.invariant e)
