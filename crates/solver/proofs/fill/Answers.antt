-- A loop of stores makes the list of its elements. Assumes nothing.
use Rattle.std.proofs.Common.{rules, arith, ◌≡◌, length}
use Rattle.std.specs.Float.{nan}
use Rattle.loops.proofs.TabLaws.{stores_none, stores_next, stores_all}
use Rattle.solver.specs.Buffers.{samples_at}
use Rattle.solver.proofs.fill.Goals as goal

pub loop-i-init : goal.loop-i-init
loop-i-init c = (search rules, stores_none _ _)

pub loop-i-preserved : goal.loop-i-preserved
loop-i-preserved c = (search rules, stores_next _ _ _ _ _ c.loop-i.invariant.1 c.sample_at.ensures)

pub returns : goal.returns
unfolding samples_at
returns c =
    let h : c.loop-i.i ≡ length c.args.ring.now.samples.now = omega arith in
    stores_all _ _ _ (record { r = nan; q = nan; d1 = nan; d2 = nan }) _ (rw h at c.loop-i.invariant.1) c.requires
