-- A small total answers 0, and the rest is straight steps. Assumes nothing.
use Rattle.candidates.specs.Candidates as C
use Rattle.candidates.proofs.combine_edge_pair.Goals as goal

pub returns-then-total : goal.returns-then-total
unfolding C.combine_edge_pair
returns-then-total c = rw c.if-total.true

pub returns : goal.returns
unfolding C.combine_edge_pair
returns c = rw (c.if-total.false, ← c.min.ensures, ← c.max.ensures)
