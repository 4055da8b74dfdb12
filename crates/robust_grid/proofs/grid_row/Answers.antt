-- A loop of stores makes the list of its elements. Assumes nothing.
use Rattle.std.proofs.Common.{rules, arith, ◌≡◌, ◌∙◌, ap, take}
use Rattle.std.proofs.Math.Seq.{take_at}
use Rattle.std.specs.Float.{nan}
use Rattle.loops.proofs.TabLaws.{tab_length, stored, stores_none, stores_next}
use Rattle.robust_grid.specs.Grid.{factor}
use Rattle.robust_grid.specs.Places as P
use Rattle.robust_grid.proofs.grid_row.Goals as goal

pub loop-a-init : goal.loop-a-init
loop-a-init c = (search rules, stores_none _ _)

pub loop-a-preserved : goal.loop-a-preserved
unfolding factor
loop-a-preserved c =
    (search rules, stores_next _ _ _ _ _ c.loop-a.invariant.1 c.tanh.ensures)

pub returns : goal.returns
unfolding P.row_from
returns c =
    let h : c.loop-a.a ≡ 24 = omega arith in
    ap (take 24) ((rw h at c.loop-a.invariant.1).is ∙ stored _ _ nan 24 (omega arith)) ∙ take_at _ _ 24 (tab_length _ 24)
