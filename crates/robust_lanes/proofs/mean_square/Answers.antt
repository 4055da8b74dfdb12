-- Straight steps. Assumes nothing.
use Rattle.robust_lanes.specs.Lanes as L
use Rattle.robust_lanes.proofs.mean_square.Goals as goal

pub returns : goal.returns
unfolding L.mean_square
returns c = rw c.ahead.ensures
