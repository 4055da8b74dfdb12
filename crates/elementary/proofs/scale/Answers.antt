-- `scale` meets its contract: the code is the definition, and a pattern that is an exponent alone is no NaN's. Assumes nothing.
use mathlib.Core.Path.{refl}
use Rattle.elementary.specs.SelectLaws.{exponent_alone}
use Rattle.elementary.specs.Elementary.{scale}
use Rattle.elementary.proofs.scale.Goals as goal

pub float_from_bits-result : goal.float_from_bits-result
float_from_bits-result c = exponent_alone _

pub returns : goal.returns
unfolding scale
returns c = refl
