-- The loop keeps the sums so far. Assumes nothing.
use mathlib.Core.Path.{◌≡◌}
use Prim.Native.Nat.{◌≤◌}
use lib.ListN.{length}
use Rattle.score.specs.Score as S
use Rattle.score.proofs.cached_sums.Given as goal

abbrev pub invariant-loop-p : goal.invariant-loop-p
invariant-loop-p l = (l.p ≤ length l.vals_centered) × (l.s ≡ S.cached_sums l.p l.vals_centered l.h0 l.h1)
