-- `x - x` equals itself exactly where x is finite. Assumes nothing.
use Rattle.std.specs.Float.Ieee.{binary32}
use Rattle.floats.specs.FiniteLaws.{finite_test}
use Rattle.floats.proofs.is_finite.Goals as goal

pub returns : goal.returns
returns c = finite_test binary32 c.args.x
