-- `sin_cos` meets its contract: the two calls have theirs. Assumes nothing.
use Rattle.elementary.specs.Elementary.{sin_cos}
use Rattle.elementary.proofs.sin_cos.Goals as goal

pub returns : goal.returns
unfolding sin_cos
returns c = rw (c.sin_cos_near.ensures, c.turn.ensures)
