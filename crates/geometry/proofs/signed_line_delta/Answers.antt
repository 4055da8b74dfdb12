-- One call, and PI/2 off; the range is the definition's. Assumes nothing.
use Rattle.geometry.specs.Geometry as G
use Rattle.geometry.specs.GeometryLaws.{signed_line_delta_range}
use Rattle.geometry.proofs.signed_line_delta.Goals as goal

pub returns : goal.returns
unfolding G.signed_line_delta
returns c = record { value = rw c.rem_euclid_pi.ensures; wrapped_between = rw c.rem_euclid_pi.ensures (signed_line_delta_range _ _) }
