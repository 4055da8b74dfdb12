-- Each angle is turned and taken as in `sin_cos`. Assumes nothing.
use Rattle.elementary.specs.Elementary.{sin_cos, sin_cos_two}
use Rattle.elementary.proofs.sin_cos_two.Goals as goal

pub returns : goal.returns
unfolding sin_cos_two sin_cos
returns c = rw (c.sin_cos_near-u.ensures, c.turn-2.ensures, c.sin_cos_near-t.ensures, c.turn.ensures)
