-- A pattern is its exponent's field and its digits: with the field 0 the value is subnormal, and else its digits have a leading 1. Assumes nothing.
use Rattle.std.proofs.Common.{◌∙◌, arith}
use Rattle.floats.specs.RootLaws.{sqrt_low, sqrt_high}
use Rattle.roots.proofs.root_bits.Goals as goal

pub returns-then-e-eq0 : goal.returns-then-e-eq0
returns-then-e-eq0 c = c.root_small.ensures ∙ sqrt_low c.args.b (omega arith) (omega arith) c.if-e-eq0.true

pub returns : goal.returns
returns c = c.root_parts.ensures ∙ sqrt_high c.args.b (omega arith) c.if-e-eq0.false
