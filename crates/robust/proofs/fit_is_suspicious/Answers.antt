-- Three tests, and then the triggers. Assumes nothing.
use Rattle.robust.specs.Robust as R
use Rattle.robust.proofs.fit_is_suspicious.Goals as goal
use Rattle.robust.proofs.fit_is_suspicious.Goals.{then-not-is_finite-via-then-not-is_finite}
use Rattle.robust.proofs.fit_is_suspicious.Goals.{then-not-is_finite-via-else-not-is_finite+then-not-is_finite-2}
use Rattle.robust.proofs.fit_is_suspicious.Goals.{then-not-is_finite-via-else-not-is_finite+else-not-is_finite-2+then-f}

-- the first test held, or the second, or the third
pub returns-then-not-is_finite : goal.returns-then-not-is_finite
unfolding R.fit_is_suspicious
returns-then-not-is_finite c =
    let first = c.is_finite.ensures in
    elim c.then-not-is_finite.branch [
      | then-not-is_finite-via-then-not-is_finite w ↦ rw (← first, w.if-not-is_finite.true)
      | then-not-is_finite-via-else-not-is_finite+then-not-is_finite-2 w ↦
          rw (← first, w.if-not-is_finite.false, ← w.is_finite-else-not-is_finite.ensures, w.if-not-is_finite-2.true)
      | then-not-is_finite-via-else-not-is_finite+else-not-is_finite-2+then-f w ↦
          rw (← first, w.if-not-is_finite.false, ← w.is_finite-else-not-is_finite.ensures, w.if-not-is_finite-2.false, w.if-f.true)
    ]

pub returns : goal.returns
unfolding R.fit_is_suspicious
returns c =
    let f1 = c.if-not-is_finite.false in
    let f2 = c.if-not-is_finite-2.false in
    rw (← c.is_finite.ensures, f1, ← c.is_finite-else-not-is_finite.ensures, f2, c.if-f.false) c.is_triggered.ensures
