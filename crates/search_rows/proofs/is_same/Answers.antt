-- Equal numbers above 0 are one value; both are values that an f32 holds. Assumes nothing.
use mathlib.Core.Bool.{false≢true}
use Rattle.floats.specs.FiniteLaws.{of_true}
use Rattle.search_rows.specs.Rows.{is_same}
use Rattle.search_rows.specs.RowsLaws.{same_key}
use Rattle.search_rows.proofs.is_same.Goals as goal

pub returns-then-key-theta : goal.returns-then-key-theta
unfolding is_same
returns-then-key-theta c =
    let g = c.well_formed in
    (rw c.if-key-theta.true, λ h. (same_key _ _ (of_true g.0.1) (of_true g.1.0.1) c.if-key-theta.true h, h))

pub returns : goal.returns
unfolding is_same
returns c = (rw c.if-key-theta.false, λ h. absurd (false≢true h))
