-- One product. Assumes nothing.
use Rattle.std.proofs.Common.{refl}
use Rattle.floats.specs.Library.{to_radians}
use Rattle.floats.proofs.to_radians.Goals as goal

pub returns : goal.returns
unfolding to_radians
returns c = refl
