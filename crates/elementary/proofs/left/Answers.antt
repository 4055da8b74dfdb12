-- `left` meets its contract: the first test decides, or the second one is the answer. Assumes nothing.
use Rattle.elementary.specs.Elementary.{left}
use Rattle.elementary.proofs.left.Goals as goal

pub returns-then-x : goal.returns-then-x
unfolding left
returns-then-x c = rw c.if-x.true

pub returns : goal.returns
unfolding left
returns c = rw c.if-x.false
