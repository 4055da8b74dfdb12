-- The loop keeps the sums so far. Assumes nothing.
use Rattle.std.proofs.Common.{arith, ◌≡◌, refl}
use Rattle.loops.proofs.IterLaws.{iter_zero, iter_more}
use Rattle.seed_models.specs.Parts as P
use Rattle.seed_models.proofs.q_sums.Goals as goal

pub loop-row-init : goal.loop-row-init
unfolding P.q_sums_at
loop-row-init c = rw iter_zero

pub loop-row-preserved : goal.loop-row-preserved
unfolding P.q_sums_at
loop-row-preserved c = iter_more _ _ _ _ _ c.loop-row.invariant refl

pub returns : goal.returns
returns c = let h : c.loop-row.row-index ≡ 16 = omega arith in rw h at c.loop-row.invariant
