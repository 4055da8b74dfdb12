-- The loop keeps the sums of the four models so far. Assumes nothing.
use mathlib.Core.Path.{◌≡◌}
use Prim.Native.Nat.{◌+◌, ◌*◌}
use native.Mathlib.Omega.{arith}
use Rattle.robust_lanes.specs.LaneLaws.{lane_places}
use Rattle.seed_models.proofs.ModelLaws.{sums_none, sums_next}
use borrow.Author.Rules.{rules}
use Rattle.seed_models.proofs.block_lanes.Goals as goal

pub loop-i-init : goal.loop-i-init
loop-i-init c =
    let a = c.args in
    (search rules, sums_none a.block.now a.centered.now)

pub loop-i-preserved : goal.loop-i-preserved
loop-i-preserved c =
    let a = c.args in
    let places = lane_places a.block.now (8 + 4 * c.loop-i.i) in
    (search rules, sums_next a.block.now a.centered.now c.loop-i.i _ _ _ c.loop-i.invariant.1 places c.num_added-m.ensures)

pub returns : goal.returns
returns c = let h : c.loop-i.i ≡ 16 = omega arith in rw h at c.loop-i.invariant.1
