-- Four distances, the greater of two pairs, and the lesser of those. Assumes nothing.
use Rattle.geometry.specs.Geometry as G
use Rattle.geometry.proofs.pair_disagreement.Goals as goal

pub returns : goal.returns
unfolding G.pair_disagreement
returns c =
    let d1 = c.line_delta.ensures.value in
    let d2 = c.line_delta-2.ensures.value in
    let d3 = c.line_delta-3.ensures.value in
    let d4 = c.line_delta-4.ensures.value in
    rw (c.min.ensures, c.max-swapped.ensures, d4, d3, c.max-direct.ensures, d2, d1)
