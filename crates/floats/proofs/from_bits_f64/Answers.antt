-- A pattern above the infinity's is a NaN's, and every other is asked for as it is. Assumes nothing.
use Rattle.std.specs.Float.Ieee.{binary64, div, of_bits}
use Rattle.floats.specs.NanLaws.{nan_word, no_nan_word}
use Rattle.floats.proofs.from_bits_f64.Goals as goal

pub returns-then-w-gt9218868437227405312 : goal.returns-then-w-gt9218868437227405312
unfolding div of_bits
returns-then-w-gt9218868437227405312 c = nan_word binary64 c.args.w c.if-w-gt9218868437227405312.true

pub float_from_bits-result : goal.float_from_bits-result
float_from_bits-result c = no_nan_word binary64 c.args.w c.if-w-gt9218868437227405312.false
