-- A turn is a block of four pairs or models. Assumes nothing.
use Rattle.std.proofs.Common.{◌≡◌, None, ◌≤◌}
use Rattle.loops.specs.Loops.{iter}
use Rattle.robust_grid.specs.Places as G
use Rattle.seed_models.proofs.best_seed_of_slice.Given as goal

abbrev pub invariant-loop-j : goal.invariant-loop-j
invariant-loop-j g l = (l.j ≤ G.blocks) × (l.p ≡ G.block_pair l.j) ×
    (l.best.top ≡ iter (λ i. G.lanes_tried l.n l.centered_ss l.mean (g.B.SliceBlocks.lanes_of l.models l.centered i) (G.block_pair i)) None l.j)
