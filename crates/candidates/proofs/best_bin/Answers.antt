-- A used bin is passed over, and another is the definition's turn. Assumes nothing.
use mathlib.Core.Path.{◌≡◌}
use native.Mathlib.Omega.{arith}
use Rattle.loops.proofs.IterLaws.{iter_zero, iter_more}
use Rattle.floats.specs.Library.{hist_bins}
use Rattle.candidates.specs.Candidates as C
use borrow.Author.Rules.{rules}
use Rattle.candidates.proofs.best_bin.Goals as goal

pub loop-i-init : goal.loop-i-init
loop-i-init c = (search rules, search rules, rw iter_zero)

pub loop-i-preserved-then-used-i : goal.loop-i-preserved-then-used-i
unfolding C.better_bin
loop-i-preserved-then-used-i c = (search rules, c.loop-i.invariant.1, iter_more _ _ _ _ _ c.loop-i.invariant.2 (rw c.if-used-i.true))

pub loop-i-preserved : goal.loop-i-preserved
unfolding C.better_bin
loop-i-preserved c =
    let e = c.better_bin-best.ensures in
    (search rules, e.0, iter_more _ _ _ _ _ c.loop-i.invariant.2 (rw c.if-used-i.false e.1))

pub returns : goal.returns
unfolding C.best_bin
returns c = let h : c.loop-i.i ≡ hist_bins = omega arith in (c.loop-i.invariant.1, rw h at c.loop-i.invariant.2)
