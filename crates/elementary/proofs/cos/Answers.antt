-- `cos` meets its contract: it is one field of what `sin_cos` returns. Assumes nothing.
use Rattle.elementary.specs.Elementary.{cos}
use Rattle.elementary.proofs.cos.Goals as goal

pub returns : goal.returns
unfolding cos
returns c = rw c.sin_cos-both.ensures
