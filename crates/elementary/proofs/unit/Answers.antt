-- `unit` meets its contract: the two selects have theirs. Assumes nothing.
use Rattle.elementary.specs.Elementary.{unit}
use Rattle.elementary.proofs.unit.Goals as goal

pub returns : goal.returns
unfolding unit
returns c = rw (c.raised.ensures, c.capped.ensures)
