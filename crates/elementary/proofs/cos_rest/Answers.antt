-- `cos_rest` meets its contract: the code is the definition, step by step. Assumes nothing.
use mathlib.Core.Path.{refl}
use Rattle.elementary.specs.Elementary.{cos_rest}
use Rattle.elementary.proofs.cos_rest.Goals as goal

pub returns : goal.returns
unfolding cos_rest
returns c = refl
