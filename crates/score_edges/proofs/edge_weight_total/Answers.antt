-- One call, under its other name. Assumes nothing.
use Rattle.score_edges.specs.Edges as E
use Rattle.score_edges.proofs.edge_weight_total.Goals as goal

pub returns : goal.returns
unfolding E.edge_weight_total
returns c = c.ordered_sum.ensures
