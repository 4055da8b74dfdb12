-- A block's pairs lie on the grid. Assumes nothing.
use Rattle.std.proofs.Common.{arith}
use Rattle.robust_grid.specs.PairLaws.{block_inside}
use Rattle.seed_models.proofs.SliceGridSliceBlocks.lanes_of_slice.Goals as goal

pub lane_sums-requires : goal.lane_sums-requires
lane_sums-requires c =
    let r = c.requires in
    let inside = block_inside c.args._j r.2 in
    (r.0, rw r.3 (omega (arith, inside)), rw r.3 (omega (arith, inside)))

pub returns : goal.returns
returns c = rw (← c.requires.3, ← c.lane_sums.ensures, ← c.count_f32-n.ensures) c.lane_models.ensures
