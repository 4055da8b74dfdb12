-- By the exponent's field: too small is zero, too large is the infinity, below the smallest normal value the digits are divided by a power of two, and
-- in between by the fixed number of digits dropped. Assumes nothing.
use Rattle.std.proofs.Common.{◌+◌, ◌-◌, ◌*◌, ◌/◌, ◌%◌, ◌∙◌, ap, arith}
use Rattle.std.specs.Float.Ieee.{binary32, of_bits}
use Rattle.std.specs.Float.Ieee.Nearest.{closest}
use Rattle.floats.specs.PatternLaws.{no_nan32}
use Rattle.floats.specs.NarrowLaws.{narrow_zero, narrow_over, narrow_under, narrow_mid, power_in, kept_low_in, kept_high_in}
use Rattle.narrowing.proofs.narrow_bits.Goals as goal

pub returns-then-e-lt872 : goal.returns-then-e-lt872
returns-then-e-lt872 c = narrow_zero c.args.b c.requires c.if-e-lt872.true

pub float_from_bits-result : goal.float_from_bits-result
float_from_bits-result c = no_nan32 0x7f800000 (omega arith)

pub returns-then-e-gt1150 : goal.returns-then-e-gt1150
returns-then-e-gt1150 c = narrow_over c.args.b c.requires c.if-e-gt1150.true

pub rounded-q-requires-clause-d_bound : goal.rounded-q-requires-clause-d_bound
rounded-q-requires-clause-d_bound c = omega (arith, power_in c.power.result _ c.power.ensures (omega arith))

pub overflow_cast-result : goal.overflow_cast-result
overflow_cast-result c = omega (arith, kept_low_in c.rounded-q.result c.args.b _ _ c.rounded-q.ensures c.power.ensures (omega arith))

pub float_from_bits-result-then-e-lt897 : goal.float_from_bits-result-then-e-lt897
float_from_bits-result-then-e-lt897 c =
    no_nan32 c.rounded-q.result
    (omega (arith, kept_low_in c.rounded-q.result c.args.b _ _ c.rounded-q.ensures c.power.ensures (omega arith)))

pub returns-then-e-lt897 : goal.returns-then-e-lt897
returns-then-e-lt897 c =
    let b = c.args.b in
    ap (of_bits binary32) (c.rounded-q.ensures ∙ ap (closest (4503599627370496 + b % 4503599627370496)) c.power.ensures) ∙
    narrow_under b c.requires (omega arith) (omega arith)

pub float_from_bits-result-2 : goal.float_from_bits-result-2
float_from_bits-result-2 c = no_nan32 _ (omega (arith, kept_high_in c.rounded-q-2.result c.args.b c.rounded-q-2.ensures))

pub returns : goal.returns
returns c =
    let b = c.args.b in
    ap (λ q. of_bits binary32 ((b / 4503599627370496 - 897) * 8388608 + q)) c.rounded-q-2.ensures ∙
    narrow_mid b c.requires (omega arith) (omega arith)
