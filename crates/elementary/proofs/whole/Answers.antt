-- `whole` meets its contract: the code is the definition, step by step. Assumes nothing.
use mathlib.Core.Path.{refl}
use Rattle.elementary.specs.Elementary.{whole}
use Rattle.elementary.proofs.whole.Goals as goal

pub returns : goal.returns
unfolding whole
returns c = refl
