-- A NaN stays, below zero it is -1, a zero goes by its reciprocal, and what is left is above zero. Assumes nothing.
use Rattle.std.proofs.Common.{◌≡◌, true, false, subst}
use Rattle.std.specs.Float.Ieee.{Float, lt, eq}
use Rattle.floats.specs.FiniteLaws.{zero32, of_true}
use Rattle.floats.specs.SignLaws.{signum_nan, signum_below, signum_above}
use Rattle.floats.proofs.signum.Goals as goal

pub returns-then-x : goal.returns-then-x
returns-then-x c = signum_nan c.args.x c.if-x.true

pub returns-then-x-2 : goal.returns-then-x-2
returns-then-x-2 c = let x = c.args.x in signum_below x (subst (λ (z : Float). lt x z ≡ true) zero32 c.if-x-2.true)

pub returns : goal.returns
returns c =
    let x = c.args.x in
    signum_above x (of_true c.well_formed.0.1) c.if-x.false (subst (λ (z : Float). lt x z ≡ false) zero32 c.if-x-2.false)
    (subst (λ (z : Float). eq x z ≡ false) zero32 c.if-x-3.false)
