-- A negated square is not above 0, so `exp_neg` is `exp`; the constant is the Rust's. Assumes nothing.
use Rattle.score_edges.specs.Edges as E
use Rattle.score_edges.specs.EdgesLaws.{exp_refined, sigma_is}
use Rattle.score_edges.proofs.RefinementGaussian.term.Goals as goal

pub returns : goal.returns
unfolding E.refined_term
returns c = rw (c.exp_neg.ensures, exp_refined, sigma_is)
