-- The reciprocal of a zero is the infinity of its sign. Assumes nothing.
use Rattle.std.proofs.Common.{true, false}
use Rattle.floats.specs.FiniteLaws.{of_true}
use Rattle.floats.specs.SignLaws.{signum_zero}
use Rattle.floats.proofs.zero_signum.Goals as goal

pub returns-then-x : goal.returns-then-x
returns-then-x c = signum_zero c.args.x true (of_true c.well_formed.0.1) c.requires c.if-x.true

pub returns : goal.returns
returns c = signum_zero c.args.x false (of_true c.well_formed.0.1) c.requires c.if-x.false
