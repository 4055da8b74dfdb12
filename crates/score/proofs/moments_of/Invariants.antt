-- The loop keeps the moments so far. Assumes nothing.
use mathlib.Core.Path.{◌≡◌}
use Prim.Native.Nat.{◌≤◌}
use lib.ListN.{length}
use Rattle.loops.specs.Loops.{iter}
use Rattle.floats.specs.Rows.{at}
use Rattle.score.specs.Score as S
use Rattle.score.proofs.moments_of.Given as goal

abbrev pub invariant-loop-p : goal.invariant-loop-p
invariant-loop-p l =
    (l.p ≤ length l.xs)
    × (l.m ≡ iter (λ p. S.gathered (S.slopes_at l.fit.amp l.inv_w l.t1 l.t2 (at l.xs p) (at l.ys p) (at l.vals_centered p))) S.no_moments l.p)
