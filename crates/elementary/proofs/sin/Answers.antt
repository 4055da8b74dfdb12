-- `sin` meets its contract: it is one field of what `sin_cos` returns. Assumes nothing.
use Rattle.elementary.specs.Elementary.{sin}
use Rattle.elementary.proofs.sin.Goals as goal

pub returns : goal.returns
unfolding sin
returns c = rw c.sin_cos-both.ensures
