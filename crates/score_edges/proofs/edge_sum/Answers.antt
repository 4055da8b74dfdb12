-- The sum of stored terms is the sum, and near differences are the differences. Assumes nothing.
use Rattle.score_edges.specs.Edges as E
use Rattle.score_edges.specs.EdgesLaws.{sum_stored, sum_near}
use Rattle.score_edges.proofs.edge_sum.Goals as goal
use Rattle.score_edges.proofs.edge_sum.Goals.{then-all_near, else-all_near}

pub returns : goal.returns
unfolding E.edge_sum
returns g c =
    let a = c.args in
    elim c.if-all_near.branch [
      | then-all_near w ↦
          let n = c.all_near.ensures w.if-all_near.true in
          let e = rw w.terms-is at c.ordered_sum.ensures in
          sum_near _ _ _ g.G.Gaussian.term _ a.grad_weights.now _ n w.near_terms.ensures e
      | else-all_near w ↦ let e = rw w.terms-is at c.ordered_sum.ensures in sum_stored _ _ _ _ w.far_terms.ensures e
    ]
