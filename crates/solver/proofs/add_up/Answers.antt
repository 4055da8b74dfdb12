-- The loop packs a sample a turn, and the sums say what the definition adds up. Assumes nothing.
use Rattle.std.proofs.Common.{arith, ◌≡◌, length}
use Rattle.loops.proofs.IterLaws.{iter_zero, iter_next}
use Rattle.solver.proofs.SolverLaws.{packed_all}
use Rattle.solver.proofs.add_up.Goals as goal

pub loop-t-init : goal.loop-t-init
loop-t-init c = rw (iter_zero, c.no_sums-s.ensures)

pub loop-t-preserved : goal.loop-t-preserved
loop-t-preserved c = rw (iter_next, ← c.loop-t.invariant) c.packed-s.ensures

pub returns : goal.returns
returns c =
    let h : c.loop-t.t-index ≡ length c.args.js.now = omega arith in
    rw (c.loop-t.invariant, h) (packed_all c.args.js.now)
