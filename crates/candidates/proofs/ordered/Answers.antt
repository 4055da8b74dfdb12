-- Both tests are the definition's. Assumes nothing.
use borrow.Author.Tests.{eq-eqb, ne_eqb, lt-ltb, le-ltb}
use Rattle.candidates.specs.Candidates as C
use Rattle.candidates.proofs.ordered.Goals as goal

pub returns-then-i-j : goal.returns-then-i-j
unfolding C.ordered
returns-then-i-j c = rw (eq-eqb _ _ c.if-i-j.true)

pub returns-then-i-j-2 : goal.returns-then-i-j-2
unfolding C.ordered
returns-then-i-j-2 c = rw (ne_eqb _ _ c.if-i-j.false, lt-ltb _ _ c.if-i-j-2.true)

pub returns : goal.returns
unfolding C.ordered
returns c = rw (ne_eqb _ _ c.if-i-j.false, le-ltb _ _ c.if-i-j-2.false)
