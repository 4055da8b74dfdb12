-- The parts are the definition's. Assumes nothing.
use Rattle.candidates.specs.Candidates as C
use Rattle.candidates.proofs.pair_score.Goals as goal

pub returns : goal.returns
unfolding C.pair_score
returns c = rw (c.combine_edge_pair-edge_score.ensures, c.is_forced-forced.ensures)
