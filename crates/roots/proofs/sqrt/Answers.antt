-- A NaN, a zero and +infinity stay, what is below zero has no root, and the rest goes by its bits. Assumes nothing.
use Rattle.std.proofs.Common.{◌≡◌, ◌∙◌, ap, subst, true, false}
use Rattle.std.specs.Float.Ieee.{Float, binary32, eq, lt}
use Rattle.std.specs.Float.Ieee.Bits.{of_bits-to_bits}
use Rattle.floats.specs.FiniteLaws.{zero32, of_true}
use Rattle.floats.specs.Library.{sqrt}
use Rattle.floats.specs.PositiveLaws.{sqrt_nan, sqrt_zero, sqrt_below, sqrt_inf, not_nan, upright, pattern_above, nothing_over_nothing}
use Rattle.roots.proofs.sqrt.Goals as goal

pub returns-then-x : goal.returns-then-x
returns-then-x c = sqrt_nan c.args.x c.if-x.true

pub returns-then-x-2 : goal.returns-then-x-2
returns-then-x-2 c = sqrt_zero c.args.x (subst (λ (z : Float). eq c.args.x z ≡ true) zero32 c.if-x-2.true)

pub returns-then-x-3 : goal.returns-then-x-3
returns-then-x-3 c = nothing_over_nothing ∙ sqrt_below c.args.x (subst (λ (z : Float). lt c.args.x z ≡ true) zero32 c.if-x-3.true)

pub float_to_bits-b : goal.float_to_bits-b
float_to_bits-b c = not_nan c.args.x c.if-x.false

pub returns-then-b-eq2139095040 : goal.returns-then-b-eq2139095040
returns-then-b-eq2139095040 c = sqrt_inf c.args.x (of_true c.well_formed.0.1) c.if-b-eq2139095040.true

pub root_bits-requires-clause-b_nonzero : goal.root_bits-requires-clause-b_nonzero
root_bits-requires-clause-b_nonzero c =
    let x = c.args.x in
    pattern_above x (of_true c.well_formed.0.1) (subst (λ (z : Float). eq x z ≡ false) zero32 c.if-x-2.false)

pub root_bits-requires-clause-b_bound : goal.root_bits-requires-clause-b_bound
root_bits-requires-clause-b_bound c =
    let x = c.args.x in
    upright x (of_true c.well_formed.0.1) c.if-x.false (subst (λ (z : Float). eq x z ≡ false) zero32 c.if-x-2.false)
    (subst (λ (z : Float). lt x z ≡ false) zero32 c.if-x-3.false) c.if-b-eq2139095040.false

pub returns : goal.returns
returns c = c.root_bits.ensures ∙ ap (sqrt binary32) (of_bits-to_bits binary32 c.args.x (of_true c.well_formed.0.1))
