-- A push for each of the five offsets. Assumes nothing.
use mathlib.Core.Path.{◌≡◌}
use native.Mathlib.Omega.{arith}
use Rattle.loops.proofs.IterLaws.{iter_zero, iter_more}
use Rattle.candidates.specs.Candidates as C
use borrow.Author.Rules.{rules}
use Rattle.candidates.proofs.around.Goals as goal

pub loop-off_deg-init : goal.loop-off_deg-init
loop-off_deg-init c = (search rules, omega arith, search rules, rw iter_zero)

pub loop-off_deg-preserved : goal.loop-off_deg-preserved
unfolding C.offset
loop-off_deg-preserved c =
    let i = c.loop-off_deg.invariant in
    let off = c.to_radians-off.ensures in
    let sep = c.to_radians.ensures in
    let push = c.push_unique-candidates.ensures in
    (search rules, omega arith, search rules, iter_more _ _ _ _ _ i.3 (rw (← off, ← sep) push.2))

pub returns : goal.returns
unfolding C.around
returns c = let h : c.loop-off_deg.off_deg-index ≡ 5 = omega arith in (omega arith, rw h at c.loop-off_deg.invariant.3)
