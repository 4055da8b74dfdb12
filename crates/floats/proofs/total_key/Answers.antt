-- The pattern with the sign clear is moved up, one with the sign set is turned round, and the NaN has its own. Assumes nothing.
use Rattle.std.proofs.Common.{arith}
use Rattle.std.specs.Float.Ieee.{binary32}
use Rattle.std.specs.Float.Ieee.Bits.{to_bits-lt}
use Rattle.std.specs.Float.Ieee.Compare.{differs_from_itself}
use Rattle.floats.specs.FiniteLaws.{of_true}
use Rattle.floats.specs.PositiveLaws.{not_nan}
use Rattle.floats.specs.TotalLaws.{key_of_nan, key_clear, key_set}
use Rattle.floats.proofs.total_key.Goals as goal

pub returns-then-x : goal.returns-then-x
returns-then-x c = key_of_nan c.args.x (differs_from_itself c.args.x (of_true c.if-x.true))

pub float_to_bits-b : goal.float_to_bits-b
float_to_bits-b c = not_nan c.args.x c.if-x.false

pub returns-then-b-lt2147483648 : goal.returns-then-b-lt2147483648
returns-then-b-lt2147483648 c = key_clear c.args.x c.if-b-lt2147483648.true

pub overflow_sub-result : goal.overflow_sub-result
overflow_sub-result c = omega (arith, to_bits-lt binary32 c.args.x (of_true c.well_formed.0.1))

pub returns : goal.returns
returns c = key_set c.args.x c.if-b-lt2147483648.false
