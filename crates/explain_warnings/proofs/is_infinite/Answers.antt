-- What equals itself is infinite where it is not finite; a NaN is not. Assumes nothing.
use Rattle.explain_warnings.specs.WarningsLaws.{infinite_test, nan_not_infinite}
use Rattle.explain_warnings.proofs.is_infinite.Goals as goal

pub returns-then-x : goal.returns-then-x
returns-then-x c = rw c.is_finite.ensures (infinite_test _ c.if-x.true)

pub returns : goal.returns
returns c = nan_not_infinite _ c.if-x.false
