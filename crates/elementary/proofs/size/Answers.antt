-- `size` meets its contract: each branch of the test is one branch of the definition. Assumes nothing.
use Rattle.elementary.specs.Elementary.{size}
use Rattle.elementary.proofs.size.Goals as goal

pub returns-then-x : goal.returns-then-x
unfolding size
returns-then-x c = rw c.if-x.true

pub returns : goal.returns
unfolding size
returns c = rw c.if-x.false
