-- A loop of stores makes the list of its elements. Assumes nothing.
use Prim.Native.Nat.{◌≤◌, ◌-◌}
use Rattle.loops.proofs.TabLaws.{Stores}
use Rattle.seed_models.specs.Words as W
use Rattle.seed_models.specs.Parts as P
use Rattle.seed_models.proofs.fill_block.Given as goal

abbrev pub invariant-loop-w : goal.invariant-loop-w
invariant-loop-w l = (l.w ≤ 72) × Stores (W.block_word (P.model_from l.h) l.p) l.initial.block l.block l.w

abbrev pub decreases-loop-w : goal.decreases-loop-w
decreases-loop-w l = 72 - l.w
