-- `tanh_rest` meets its contract: the code is the definition, step by step. Assumes nothing.
use mathlib.Core.Path.{refl}
use Rattle.elementary.specs.Elementary.{tanh_rest}
use Rattle.elementary.proofs.tanh_rest.Goals as goal

pub returns : goal.returns
unfolding tanh_rest
returns c = refl
