-- A row is lent in each turn, and comes back as its sample's. Assumes nothing.
use Rattle.std.proofs.Common.{rules, arith, ◌≡◌, ◌∙◌, length, length-set}
use Rattle.robust_grid.specs.PlaceLaws.{row_is, grid_none, grid_more}
use Rattle.robust_grid.proofs.fill_grid.Goals as goal

pub loop-i-init : goal.loop-i-init
loop-i-init c = (search rules, search rules, grid_none)

pub loop-i-preserved : goal.loop-i-preserved
loop-i-preserved c =
    let inv = c.loop-i.invariant in
    let is = c.grid_row.ensures ∙ row_is _ _ _ _ c.grid_axes.ensures in
    (search rules, simp length-set inv.1, grid_more _ inv.2 (omega arith) is)

pub returns : goal.returns
returns c =
    let h : c.loop-i.i ≡ length c.args.sphi.now = omega arith in
    rw h at c.loop-i.invariant.2
