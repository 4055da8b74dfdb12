-- A better fit, another or none: each way is the definition's, and each is a trial. Assumes nothing.
use mathlib.Core.Path.{refl}
use Rattle.search_refine.specs.Refine.{better_of}
use Rattle.search_refine.proofs.judge.Goals as goal
use Rattle.search_refine.proofs.judge.Goals.{in-Some, in_default, in_default-via-in-Some+else-fit_is_better, in_default-via-in_default}

pub returns : goal.returns
unfolding better_of
returns c = (
  refl,
  elim c.match-answer.branch [
    | in-Some w ↦ rw (w.in-Some.is, ← w.fit_is_better.ensures, w.if-fit_is_better.true) w.best-is
    | in_default w ↦ elim w.in_default.branch [
      | in_default-via-in-Some+else-fit_is_better v ↦ rw (v.in-Some.is, ← v.fit_is_better.ensures, v.if-fit_is_better.false) w.best-is
      | in_default-via-in_default v ↦ rw v.in_default.is w.best-is
    ]
  ],
)
