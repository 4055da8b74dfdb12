-- The test is the definition's. Assumes nothing.
use borrow.Author.Tests.{eq-eqb, ne_eqb}
use Rattle.candidates.specs.Candidates as C
use borrow.Author.Rules.{rules}
use Rattle.candidates.proofs.prev_bin.Goals as goal

pub returns-then-i-eq0 : goal.returns-then-i-eq0
unfolding C.prev_bin
returns-then-i-eq0 c = (search rules, rw (eq-eqb _ _ c.if-i-eq0.true))

pub returns : goal.returns
unfolding C.prev_bin
returns c = (search rules, rw (ne_eqb _ _ c.if-i-eq0.false))
