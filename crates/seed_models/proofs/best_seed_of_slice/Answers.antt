-- A turn is a block of four pairs or models, and the blocks hold all of them in their order. Assumes nothing.
use Rattle.std.proofs.Common.{rules, arith, ◌≡◌, ◌∙◌}
use Rattle.loops.proofs.IterLaws.{iter_zero, iter_more}
use Rattle.robust_grid.specs.Places as G
use Rattle.robust_grid.specs.PairLaws.{block_inside}
use Rattle.seed_models.specs.Parts as P
use Rattle.seed_models.proofs.best_seed_of_slice.Goals as goal

pub loop-j-init : goal.loop-j-init
unfolding G.block_pair
loop-j-init g c = (search rules, rw iter_zero c.first_block-p.ensures, rw iter_zero c.none_yet-best.ensures)

pub lanes_of_slice-m-requires : goal.lanes_of_slice-m-requires
lanes_of_slice-m-requires g c = (c.requires.0, c.requires.1, c.loop-j-test.true, c.loop-j.invariant.1)

pub lanes_tried-best-requires : goal.lanes_tried-best-requires
lanes_tried-best-requires g c =
    let l = c.loop-j in
    let inside = block_inside l.j c.loop-j-test.true in
    (rw l.invariant.1 inside.0, rw l.invariant.1 inside.1)

pub next_block-p-requires : goal.next_block-p-requires
next_block-p-requires g c =
    let l = c.loop-j in
    let inside = block_inside l.j c.loop-j-test.true in
    (rw l.invariant.1 inside.0, rw l.invariant.1 inside.1)

pub loop-j-preserved : goal.loop-j-preserved
unfolding G.block_pair
loop-j-preserved g c =
    let l = c.loop-j in
    let next = rw (c.lanes_of_slice-m.ensures, l.invariant.1) at c.lanes_tried-best.ensures in
    (omega (arith, c.loop-j-test.true), iter_more _ _ _ _ _ l.invariant.1 c.next_block-p.ensures, iter_more _ _ _ _ _ l.invariant.2 next)

pub returns : goal.returns
unfolding P.walk
returns g c =
    let l = c.loop-j in
    let j : l.j ≡ G.blocks = omega arith in
    let a = c.args in
    (rw (j, c.count_f32-n.ensures) at l.invariant.2) ∙ g.met.B.SliceBlocks.walked a.models.now a.centered.now a.centered_ss a.mean c.requires.0
