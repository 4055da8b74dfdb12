-- A match, and one trial more in either case. Assumes nothing.
use mathlib.Core.Path.{refl}
use Rattle.search.specs.Search as S
use Rattle.search.proofs.entered.Goals as goal
use Rattle.search.proofs.entered.Goals.{in-Some, in-None}

pub returns : goal.returns
unfolding S.entered
returns c = (
  refl,
  elim c.match-answer.branch [
    | in-Some w ↦ rw (w.in-Some.is, w.top-is, w.insert_top-top.ensures)
    | in-None w ↦ rw (w.in-None.is, w.top-is)
  ],
)
