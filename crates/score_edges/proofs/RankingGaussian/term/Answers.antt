-- A negated square is not above 0, so `exp_neg` is `exp`; the constant is the Rust's. Assumes nothing.
use Rattle.score_edges.specs.Edges as E
use Rattle.score_edges.specs.EdgesLaws.{exp_ranked, inv_2sigma2_is}
use Rattle.score_edges.proofs.RankingGaussian.term.Goals as goal

pub returns : goal.returns
unfolding E.ranked_term
returns c = rw (c.exp_neg.ensures, exp_ranked, inv_2sigma2_is)
