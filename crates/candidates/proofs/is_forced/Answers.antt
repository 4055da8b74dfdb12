-- Either pair matches. Assumes nothing.
use Rattle.candidates.specs.Candidates as C
use Rattle.candidates.proofs.is_forced.Goals as goal

pub returns-then-matches_pair : goal.returns-then-matches_pair
unfolding C.is_forced
returns-then-matches_pair c = rw (← c.matches_pair.ensures, c.if-matches_pair.true)

pub returns-else-matches_pair : goal.returns-else-matches_pair
unfolding C.is_forced
returns-else-matches_pair c = rw (← c.matches_pair.ensures, c.if-matches_pair.false) c.matches_pair-else-matches_pair.ensures
