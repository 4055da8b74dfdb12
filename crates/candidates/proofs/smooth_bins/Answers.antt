-- A loop of stores makes the list of its elements. Assumes nothing.
use mathlib.Core.Path.{◌≡◌}
use native.Mathlib.Omega.{arith}
use lib.Ieee.{nan}
use Rattle.floats.specs.Library.{hist_bins}
use Rattle.loops.proofs.TabLaws.{stores_none, stores_next, stores_all}
use Rattle.candidates.specs.Candidates as C
use borrow.Author.Rules.{rules}
use Rattle.candidates.proofs.smooth_bins.Goals as goal

pub loop-i-init : goal.loop-i-init
loop-i-init c = (search rules, stores_none _ _)

pub loop-i-preserved : goal.loop-i-preserved
loop-i-preserved c =
    let s = c.loop-i.invariant.1 in
    (search rules, stores_next _ _ _ _ _ s (rw (c.prev_bin-prev.ensures.1, c.next_bin-next.ensures.1)))

pub returns : goal.returns
unfolding C.smoothed
returns c =
    let s = c.loop-i.invariant.1 in
    let h : c.loop-i.i ≡ hist_bins = omega arith in
    stores_all _ _ _ nan _ (rw h at s) (search rules)
