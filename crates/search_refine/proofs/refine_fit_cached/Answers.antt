-- 24 turns from empty slots, each the definition's; the weights are as many as the pixels. Assumes nothing.
use mathlib.Core.Path.{◌≡◌, ◌∙◌}
use native.Mathlib.Omega.{arith}
use Rattle.loops.proofs.IterLaws.{iter_zero, iter_more}
use Rattle.data.specs.Disk.{the_disk}
use Rattle.search_rows.specs.RowsLaws.{kept_none}
use Rattle.search_refine.specs.Refine.{neighbours}
use Rattle.search_refine.proofs.TurnLaws.{refined_is}
use borrow.Author.Rules.{rules}
use Rattle.search_refine.proofs.refine_fit_cached.Goals as goal

pub loop-t-init : goal.loop-t-init
loop-t-init c =
    (search rules, search rules, rw c.no_slots.ensures, rw c.no_slots.ensures (kept_none _ _ c.requires), rw iter_zero)

pub loop-t-preserved : goal.loop-t-preserved
loop-t-preserved c =
    let e = c.try_neighbour-turn.ensures in
    let i = c.loop-t.invariant in
    (search rules, omega (arith, e.0, i.1), e.2 ∙ i.2, e.1, iter_more _ _ _ _ _ i.4 (rw i.2 at e.3))

pub returns : goal.returns
returns c =
    let h : c.loop-t.t ≡ neighbours = omega arith in
    let i = rw h at c.loop-t.invariant in
    let d = c.args.d in
    refined_is (the_disk d) _ c.args.seed _ c.edge_weight_total-total.ensures d.sized.w i.1 i.4
