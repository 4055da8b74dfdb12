-- `atan_rest` meets its contract: the code is the definition, step by step. Assumes nothing.
use mathlib.Core.Path.{refl}
use Rattle.elementary.specs.Elementary.{atan_rest}
use Rattle.elementary.proofs.atan_rest.Goals as goal

pub returns : goal.returns
unfolding atan_rest
returns c = refl
