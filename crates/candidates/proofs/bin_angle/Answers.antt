-- The steps are the definition's. Assumes nothing.
use Rattle.candidates.specs.Candidates as C
use Rattle.candidates.proofs.bin_angle.Goals as goal

pub returns : goal.returns
unfolding C.bin_angle
returns c = rw (c.count_f32.ensures, c.count_f32-2.ensures)
