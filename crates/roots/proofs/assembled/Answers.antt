-- The pattern is h fields on, plus p. Assumes nothing.
use Rattle.std.proofs.Common.{◌+◌, ◌*◌, sym, arith}
use Rattle.floats.specs.PatternLaws.{no_nan32}
use Rattle.floats.specs.RootLaws.{units_pattern}
use Rattle.roots.proofs.assembled.Goals as goal

pub float_from_bits-result : goal.float_from_bits-result
float_from_bits-result c = no_nan32 (c.args.h * 8388608 + c.args.p) (omega arith)

pub returns : goal.returns
returns c = sym (units_pattern c.args.p c.args.h (omega arith) (omega arith) (omega arith))
