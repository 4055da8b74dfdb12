-- The step is the definition's own. Assumes nothing.
use Rattle.robust_grid.specs.PairLaws.{step_is}
use Rattle.robust_grid.proofs.grid_angle.Goals as goal

pub returns : goal.returns
returns c = rw (step_is, ← c.count_f32.ensures)
