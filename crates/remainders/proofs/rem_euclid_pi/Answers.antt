-- The remainder, raised where it is below zero, is the definition's two ways. Assumes nothing.
use Rattle.floats.specs.Library.{rem_euclid}
use Rattle.remainders.proofs.rem_euclid_pi.Goals as goal

pub returns : goal.returns
unfolding rem_euclid
returns c = rw (← c.rem_pi.ensures) c.raised.ensures
