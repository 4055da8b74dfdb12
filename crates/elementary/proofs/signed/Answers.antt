-- `signed` meets its contract: each branch of the test is one branch of the definition. Assumes nothing.
use Rattle.elementary.specs.Elementary.{signed}
use Rattle.elementary.proofs.signed.Goals as goal

pub returns-then-below : goal.returns-then-below
unfolding signed
returns-then-below c = rw c.if-below.true

pub returns : goal.returns
unfolding signed
returns c = rw c.if-below.false
