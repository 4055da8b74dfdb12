-- A pattern above the infinity's is a NaN's, and every other is asked for as it is. Assumes nothing.
use Rattle.std.specs.Float.Ieee.{binary32, div, of_bits}
use Rattle.floats.specs.NanLaws.{nan_word, no_nan_word}
use Rattle.floats.proofs.from_bits.Goals as goal

pub returns-then-w-gt2139095040 : goal.returns-then-w-gt2139095040
unfolding div of_bits
returns-then-w-gt2139095040 c = nan_word binary32 c.args.w c.if-w-gt2139095040.true

pub float_from_bits-result : goal.float_from_bits-result
float_from_bits-result c = no_nan_word binary32 c.args.w c.if-w-gt2139095040.false
