-- An empty set has none, and another the nearest. Assumes nothing.
use borrow.Author.Tests.{eq-eqb, ne_eqb}
use Rattle.candidates.specs.Candidates as C
use Rattle.candidates.proofs.closest_candidate.Goals as goal

pub returns-then-candidates-eq0 : goal.returns-then-candidates-eq0
unfolding C.closest_candidate
returns-then-candidates-eq0 c = rw (eq-eqb _ _ c.if-candidates-eq0.true)

pub returns : goal.returns
unfolding C.closest_candidate
returns c = rw (ne_eqb _ _ c.if-candidates-eq0.false, ← c.wrap_pi.ensures.value, ← c.nearest-best.ensures.1)
