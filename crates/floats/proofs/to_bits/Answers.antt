-- The one pattern for a NaN is written out, and every other value has its own. Assumes nothing.
use Rattle.floats.specs.NanLaws.{nan_bits_lem}
use Rattle.floats.specs.PositiveLaws.{not_nan}
use Rattle.floats.proofs.to_bits.Goals as goal

pub returns-then-x : goal.returns-then-x
returns-then-x c = nan_bits_lem c.args.x c.if-x.true

pub float_to_bits-result : goal.float_to_bits-result
float_to_bits-result c = not_nan c.args.x c.if-x.false
