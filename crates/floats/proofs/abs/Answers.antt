-- Above zero x is its own size, and elsewhere 0 - x is. Assumes nothing.
use Rattle.std.proofs.Common.{◌≡◌, true, false, ap, ◌∙◌, subst}
use Rattle.std.specs.Float.Ieee.{Float, binary32, sub, lt}
use Rattle.floats.specs.FiniteLaws.{zero32, of_true}
use Rattle.floats.specs.SignLaws.{abs_above, abs_rest}
use Rattle.floats.proofs.abs.Goals as goal

pub returns-then-x : goal.returns-then-x
returns-then-x c = let x = c.args.x in abs_above x (subst (λ (z : Float). lt z x ≡ true) zero32 c.if-x.true)

pub returns : goal.returns
returns c =
    let x = c.args.x in
    ap (λ (z : Float). sub binary32 z x) zero32 ∙ abs_rest x (of_true c.well_formed.0.1) (subst (λ (z : Float). lt z x ≡ false) zero32 c.if-x.false)
