-- Fewer than two candidates answer nothing; the others are searched. Assumes nothing.
use borrow.Author.Tests.{lt-ltb, le-ltb}
use Rattle.search.specs.Search as S
use Rattle.search.proofs.best_disk_fit.Goals as goal

pub returns-then-candidates-lt2 : goal.returns-then-candidates-lt2
unfolding S.best_disk_fit S.candidates_of
returns-then-candidates-lt2 c =
    let e = rw c.args.d.sized.a at c.histogram_candidates-candidates.ensures.1 in
    rw (← c.wrap_pi-b0.ensures.value, ← c.wrap_pi-b1.ensures.value, ← e, lt-ltb _ _ c.if-candidates-lt2.true)

pub returns : goal.returns
unfolding S.best_disk_fit S.candidates_of
returns c =
    let e = rw c.args.d.sized.a at c.histogram_candidates-candidates.ensures.1 in
    rw (← c.wrap_pi-b0.ensures.value, ← c.wrap_pi-b1.ensures.value, ← e, le-ltb _ _ c.if-candidates-lt2.false) c.search_set.ensures
