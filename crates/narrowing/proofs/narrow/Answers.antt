-- A NaN stays one, the sign is put back at the end, and the rest goes by its bits. Assumes nothing.
use Rattle.std.proofs.Common.{◌∙◌, ap, arith}
use Rattle.std.specs.Float.Ieee.{binary64, neg}
use Rattle.std.specs.Float.Ieee.Bits.{of_bits-to_bits, to_bits-lt}
use Rattle.floats.specs.FiniteLaws.{of_true}
use Rattle.floats.specs.PatternLaws.{unsigned_le}
use Rattle.floats.specs.PositiveLaws.{not_nan, nothing_over_nothing}
use Rattle.floats.specs.NarrowLaws.{narrow_nan, narrow_signed}
use Rattle.floats.specs.Library.{narrow}
use Rattle.narrowing.proofs.narrow.Goals as goal

pub returns-then-x : goal.returns-then-x
returns-then-x c = nothing_over_nothing ∙ narrow_nan c.args.x c.if-x.true

pub float_to_bits-b : goal.float_to_bits-b
float_to_bits-b c = not_nan c.args.x c.if-x.false

pub narrow_bits-requires : goal.narrow_bits-requires
narrow_bits-requires c = omega (arith, unsigned_le binary64 c.args.x (of_true c.well_formed.0.1) (not_nan c.args.x c.if-x.false))

pub returns-then-b-lt9223372036854775808 : goal.returns-then-b-lt9223372036854775808
returns-then-b-lt9223372036854775808 c =
    c.narrow_bits.ensures ∙ ap narrow (of_bits-to_bits binary64 c.args.x (of_true c.well_formed.0.1))

pub narrow_bits-requires-2 : goal.narrow_bits-requires-2
narrow_bits-requires-2 c =
    let fits = of_true c.well_formed.0.1 in
    omega (arith, unsigned_le binary64 c.args.x fits (not_nan c.args.x c.if-x.false), to_bits-lt binary64 c.args.x fits)

pub returns : goal.returns
returns c =
    ap neg c.narrow_bits-2.ensures ∙ narrow_signed c.args.x (of_true c.well_formed.0.1) c.if-b-lt9223372036854775808.false
