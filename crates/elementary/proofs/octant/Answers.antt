-- `octant` meets its contract: the tests on the way pick the branch of the definition. Assumes nothing.
use Rattle.elementary.specs.Elementary.{octant}
use Rattle.elementary.proofs.octant.Goals as goal

pub returns-then-steep : goal.returns-then-steep
unfolding octant
returns-then-steep c = rw c.if-steep.true

pub returns-then-back : goal.returns-then-back
unfolding octant
returns-then-back c = rw (c.if-steep.false, c.if-back.true)

pub returns : goal.returns
unfolding octant
returns c = rw (c.if-steep.false, c.if-back.false)
