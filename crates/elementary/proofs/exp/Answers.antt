-- `exp` meets its contract: the test picks the branch, and `exp_neg` has its equation. Assumes nothing.
use Rattle.elementary.specs.Elementary.{exp}
use Rattle.elementary.proofs.exp.Goals as goal

pub returns-then-x : goal.returns-then-x
unfolding exp
returns-then-x c = rw (c.if-x.true, c.exp_neg.ensures)

pub returns : goal.returns
unfolding exp
returns c = rw (c.if-x.false, c.exp_neg-2.ensures)
