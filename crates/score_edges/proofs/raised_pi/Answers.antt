-- Each return has its own way through the test. Assumes nothing.
use Rattle.score_edges.specs.NearLaws as N
use Rattle.score_edges.proofs.raised_pi.Goals as goal

pub returns-then-r : goal.returns-then-r
unfolding N.raised_pi
returns-then-r c = rw c.if-r.true

pub returns : goal.returns
unfolding N.raised_pi
returns c = rw c.if-r.false
