-- The test is the definition's. Assumes nothing.
use Rattle.candidates.specs.Candidates as C
use Rattle.candidates.proofs.nearer.Goals as goal

pub returns-then-d-best : goal.returns-then-d-best
unfolding C.nearer_of
returns-then-d-best c = rw c.if-d-best.true

pub returns : goal.returns
unfolding C.nearer_of
returns c = rw c.if-d-best.false
