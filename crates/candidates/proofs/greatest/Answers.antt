-- The loop keeps the greatest so far. Assumes nothing.
use mathlib.Core.Path.{◌≡◌}
use native.Mathlib.Omega.{arith}
use Rattle.loops.proofs.IterLaws.{iter_zero, iter_more}
use Rattle.floats.specs.Library.{hist_bins}
use Rattle.candidates.specs.Candidates as C
use borrow.Author.Rules.{rules}
use Rattle.candidates.proofs.greatest.Goals as goal

pub loop-v-init : goal.loop-v-init
loop-v-init c = (search rules, rw iter_zero)

pub loop-v-preserved : goal.loop-v-preserved
loop-v-preserved c = (search rules, iter_more _ _ _ _ _ c.loop-v.invariant.1 c.max-max_v.ensures)

pub returns : goal.returns
unfolding C.greatest
returns c = let h : c.loop-v.v-index ≡ hist_bins = omega arith in rw h at c.loop-v.invariant.1
