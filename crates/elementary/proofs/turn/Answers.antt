-- `turn` meets its contract: the tests on the way pick the branch of the definition. Assumes nothing.
use Rattle.elementary.specs.Elementary.{turn}
use Rattle.elementary.proofs.turn.Goals as goal

pub returns-then-x : goal.returns-then-x
unfolding turn
returns-then-x c = rw c.if-x.true c.rem_tau.ensures

pub returns-then-x-2 : goal.returns-then-x-2
unfolding turn
returns-then-x-2 c = rw (c.if-x.false, c.if-x-2.true) c.rem_tau-then-x-2.ensures

pub returns : goal.returns
unfolding turn
returns c = rw (c.if-x.false, c.if-x-2.false)
