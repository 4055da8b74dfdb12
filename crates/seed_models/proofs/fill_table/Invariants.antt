-- A turn writes a block behind those that are there. Assumes nothing.
use mathlib.Core.Path.{◌≡◌}
use mathlib.Core.List.{◌++◌}
use Prim.Native.Nat.{◌≤◌, ◌-◌, ◌+◌, ◌*◌}
use lib.ListN.{length, drop}
use Rattle.robust_grid.specs.Places as G
use Rattle.seed_models.specs.Words as W
use Rattle.seed_models.specs.Parts as P
use Rattle.seed_models.specs.WordLaws.{filled}
use Rattle.seed_models.proofs.fill_table.Given as goal

abbrev pub invariant-loop-j : goal.invariant-loop-j
invariant-loop-j l = (l.j ≤ G.blocks) × (length l.table ≡ W.table_size) × (l.p ≡ G.block_pair l.j) ×
    (l.table ≡ filled l.angles (P.model_from l.h) l.j ++ drop (16 + l.j * 72) l.initial.table)

abbrev pub decreases-loop-j : goal.decreases-loop-j
decreases-loop-j l = G.blocks - l.j
