-- `ratio` meets its contract: the tests on the way pick the branch of the definition. Assumes nothing.
use Rattle.elementary.specs.Elementary.{ratio}
use Rattle.elementary.proofs.ratio.Goals as goal

pub returns-then-ax : goal.returns-then-ax
unfolding ratio
returns-then-ax c = rw (c.if-ay-ax.true, c.if-ax.true)

pub returns-then-ay-ax : goal.returns-then-ay-ax
unfolding ratio
returns-then-ay-ax c = rw (c.if-ay-ax.true, c.if-ax.false)

pub returns-then-ay-ax-2 : goal.returns-then-ay-ax-2
unfolding ratio
returns-then-ay-ax-2 c = rw (c.if-ay-ax.false, c.if-ay-ax-2.true)

pub returns : goal.returns
unfolding ratio
returns c = rw (c.if-ay-ax.false, c.if-ay-ax-2.false)
