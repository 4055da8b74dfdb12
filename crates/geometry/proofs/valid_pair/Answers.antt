-- Both tests of the range. Assumes nothing.
use Rattle.geometry.specs.Geometry as G
use Rattle.geometry.proofs.valid_pair.Goals as goal

pub returns-then-sep-from : goal.returns-then-sep-from
unfolding G.valid_pair
returns-then-sep-from c =
    rw (← c.line_separation-sep.ensures.value, ← c.to_radians-from.ensures, ← c.to_radians-to.ensures, c.if-sep-from.true)

pub returns-else-sep-from : goal.returns-else-sep-from
unfolding G.valid_pair
returns-else-sep-from c =
    rw (← c.line_separation-sep.ensures.value, ← c.to_radians-from.ensures, ← c.to_radians-to.ensures, c.if-sep-from.false)
