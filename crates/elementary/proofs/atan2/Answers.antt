-- `atan2` meets its contract: the calls have theirs, put in from the first to the last. Assumes nothing.
use Rattle.elementary.specs.Elementary.{atan2}
use Rattle.elementary.proofs.atan2.Goals as goal

pub returns : goal.returns
unfolding atan2
returns c =
    rw (
      ← c.size-ax.ensures,
      ← c.size-ay.ensures,
      ← c.ratio.ensures,
      ← c.atan_rest-b.ensures,
      ← c.left-back.ensures,
      ← c.signed.ensures,
      ← c.octant-d.ensures,
      ← c.left.ensures,
      ← c.signed-e.ensures,
      ← c.capped.ensures,
    ) c.raised.ensures
