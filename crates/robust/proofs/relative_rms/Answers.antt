-- A residual that is not finite is infinite; 1 over 0 is the infinity. Assumes nothing.
use lib.Ieee.{div, of_bits}
use Rattle.robust.specs.Robust as R
use Rattle.robust.proofs.relative_rms.Goals as goal

pub returns-then-is_finite : goal.returns-then-is_finite
unfolding R.relative_rms
returns-then-is_finite c = rw (← c.is_finite.ensures, c.if-is_finite.true, c.max.ensures, c.max-then-is_finite.ensures)

pub returns : goal.returns
unfolding R.relative_rms div of_bits
returns c = rw (← c.is_finite.ensures, c.if-is_finite.false)
