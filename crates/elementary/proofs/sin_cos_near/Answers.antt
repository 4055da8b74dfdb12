-- `sin_cos_near` meets its contract: the calls have theirs. Assumes nothing.
use Rattle.elementary.specs.Elementary.{sin_cos_near}
use Rattle.elementary.proofs.sin_cos_near.Goals as goal

pub returns : goal.returns
unfolding sin_cos_near
returns c =
    rw (
      c.quadrant.ensures,
      c.cos_rest.ensures,
      c.sin_rest.ensures,
      c.whole-k.ensures,
    )
