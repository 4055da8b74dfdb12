-- Angles that are near are their own turned angles; of the others a loop of stores makes the list. Assumes nothing.
use Rattle.std.proofs.Common.{arith, ◌≡◌, ◌∙◌, ap, refl, length, get_or-set_other}
use Rattle.std.specs.Float.{nan}
use Rattle.loops.proofs.TabLaws.{stores_none, stores_next, stores_all}
use Rattle.elementary.specs.Elementary.{turn}
use Rattle.solver.proofs.SolverLaws.{turned_near}
use Rattle.solver.proofs.turn_all.Goals as goal

pub returns-then-all_near : goal.returns-then-all_near
returns-then-all_near c = turned_near _ (c.all_near.ensures c.if-all_near.true)

pub loop-x-init : goal.loop-x-init
loop-x-init c = (stores_none _ _, λ k l. refl)

pub loop-x-preserved : goal.loop-x-preserved
loop-x-preserved c =
    let i = c.loop-x.invariant in (
      stores_next _ _ _ _ _ i.0 (c.turn.ensures ∙ ap turn (i.1 _ (omega arith))),
      λ k l. get_or-set_other c.loop-x.angles c.loop-x.x-index k _ nan (λ e. omega arith) ∙ i.1 k (omega arith),
    )

pub returns : goal.returns
returns c =
    let h : c.loop-x.x-index ≡ length c.args.angles.now = omega arith in
    record { is = stores_all _ _ _ nan _ (rw h at c.loop-x.invariant.0) refl }
