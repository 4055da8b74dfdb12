-- Doubled first, and turned after. Assumes nothing.
use Rattle.seed.specs.BufferLaws.{turned_doubled}
use Rattle.seed.proofs.double_all.Goals as goal

pub returns : goal.returns
returns c = turned_doubled _ _ _ _ c.double_near.ensures c.turn_all.ensures
