-- The count is at most one a turn, and while it is 0 every difference so far is near. Assumes nothing.
use native.Mathlib.Omega.{arith}
use Rattle.score_edges.specs.NearLaws.{all_near_next, far_most}
use borrow.Author.Rules.{rules}
use Rattle.score_edges.proofs.all_near.Goals as goal

pub overflow_add-count : goal.overflow_add-count
overflow_add-count c = let h = far_most _ _ c.far-count.ensures in search (rules, h)

pub loop-angle-preserved : goal.loop-angle-preserved
loop-angle-preserved c =
    let h = far_most _ _ c.far-count.ensures in
    (search rules, omega (arith, h), all_near_next _ _ _ _ _ c.loop-angle.invariant.2 c.far-count.ensures)
