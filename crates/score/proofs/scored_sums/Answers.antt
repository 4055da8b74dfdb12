-- A denominator that is too small answers nothing, and the rest is one call. Assumes nothing.
use Rattle.score.specs.Score as S
use Rattle.score.proofs.scored_sums.Goals as goal

pub returns-then-denom : goal.returns-then-denom
unfolding S.scored_sums
returns-then-denom c = rw c.if-denom.true

pub returns : goal.returns
unfolding S.scored_sums
returns c = rw (c.if-denom.false, c.fit_of.ensures)
