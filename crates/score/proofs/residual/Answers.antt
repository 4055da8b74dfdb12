-- Straight steps; the zero of either format is the same value. Assumes nothing.
use lib.Ieee.{of_bits}
use Rattle.score.specs.Score as S
use Rattle.score.proofs.residual.Goals as goal

pub returns : goal.returns
unfolding S.residual of_bits
returns c = rw (c.max_f64.ensures, c.widen.ensures, c.count_f64-count.ensures)
