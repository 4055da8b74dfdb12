-- `exp_rest` meets its contract: the code is the definition, step by step. Assumes nothing.
use mathlib.Core.Path.{refl}
use Rattle.elementary.specs.Elementary.{exp_rest}
use Rattle.elementary.proofs.exp_rest.Goals as goal

pub returns : goal.returns
unfolding exp_rest
returns c = refl
