-- Two tests in the definition's order. Assumes nothing.
use Rattle.score.specs.Score as S
use Rattle.score.proofs.lower.Goals as goal

pub returns-then-a-b : goal.returns-then-a-b
unfolding S.lower_told
returns-then-a-b c = rw c.if-a-b.true

pub returns-then-abs : goal.returns-then-abs
unfolding S.lower_told
returns-then-abs c = rw (c.if-a-b.false, ← c.abs.ensures, c.if-abs.true)

pub returns : goal.returns
unfolding S.lower_told
returns c = rw (c.if-a-b.false, ← c.abs.ensures, c.if-abs.false)
