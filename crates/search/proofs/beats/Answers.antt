-- An empty place is taken, and another is tested. Assumes nothing.
use Rattle.search.specs.Search as S
use Rattle.search.proofs.beats.Goals as goal

pub returns-in-Some : goal.returns-in-Some
unfolding S.beats
returns-in-Some c = rw c.in-Some.is c.fit_is_better.ensures

pub returns-in-None : goal.returns-in-None
unfolding S.beats
returns-in-None c = rw c.in-None.is
