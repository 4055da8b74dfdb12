-- Each return has its own way through the two tests. Assumes nothing.
use Rattle.score_edges.specs.NearLaws as N
use Rattle.score_edges.proofs.less_pi.Goals as goal

pub returns-then-x : goal.returns-then-x
unfolding N.less_pi
returns-then-x c = rw c.if-x.true

pub returns-then-x-2 : goal.returns-then-x-2
unfolding N.less_pi
returns-then-x-2 c = rw (c.if-x.false, c.if-x-2.true)

pub returns : goal.returns
unfolding N.less_pi
returns c = rw (c.if-x.false, c.if-x-2.false)
