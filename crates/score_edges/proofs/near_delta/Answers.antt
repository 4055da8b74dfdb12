-- Two calls, and PI/2 off. Assumes nothing.
use Rattle.score_edges.specs.NearLaws as N
use Rattle.score_edges.proofs.near_delta.Goals as goal

pub returns : goal.returns
unfolding N.near_delta
returns c = rw (c.raised_pi.ensures, c.less_pi.ensures)
