-- `sin_rest` meets its contract: the code is the definition, step by step. Assumes nothing.
use mathlib.Core.Path.{refl}
use Rattle.elementary.specs.Elementary.{sin_rest}
use Rattle.elementary.proofs.sin_rest.Goals as goal

pub returns : goal.returns
unfolding sin_rest
returns c = refl
