-- `quadrant` meets its contract: the calls have theirs. Assumes nothing.
use Rattle.elementary.specs.Elementary.{quadrant}
use Rattle.elementary.proofs.quadrant.Goals as goal

pub returns : goal.returns
unfolding quadrant
returns c =
    rw (
      c.unit-2.ensures,
      c.unit.ensures,
      c.whole-n.ensures,
      c.whole-m.ensures,
    )
