-- One call, and its size; the range is the definition's. Assumes nothing.
use Rattle.geometry.specs.Geometry as G
use Rattle.geometry.specs.GeometryLaws.{line_delta_range}
use Rattle.geometry.proofs.line_delta.Goals as goal

pub returns : goal.returns
unfolding G.line_delta
returns c =
    let e = c.signed_line_delta.ensures.value in
    record { value = rw (c.abs.ensures, e); wrapped_between = rw (c.abs.ensures, e) (line_delta_range _ _) }
