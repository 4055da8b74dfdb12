-- The block's words. Assumes nothing.
use Rattle.std.proofs.Common.{arith, ◌≡◌, ◌+◌, ◌-◌, ◌*◌}
use Rattle.seed_models.proofs.StoredSliceBlocks.lanes_of_slice.Goals as goal

pub returns : goal.returns
returns c =
    let j = c.args.j in
    let d : 16 + j * 72 + 72 - (16 + j * 72) ≡ 72 = omega arith in
    rw d at c.block_lanes.ensures
