-- The loop keeps the greatest so far. Assumes nothing.
use mathlib.Core.Path.{◌≡◌}
use Prim.Native.Nat.{◌≤◌}
use lib.ListN.{length}
use Rattle.loops.specs.Loops.{iter}
use Rattle.floats.specs.Ops.{nought}
use Rattle.floats.specs.Library.{max}
use Rattle.floats.specs.Rows.{at}
use Rattle.candidates.proofs.greatest.Given as goal

abbrev pub invariant-loop-v : goal.invariant-loop-v
invariant-loop-v l = (l.v-index ≤ length l.smooth) × (l.max_v ≡ iter (λ i v. max v (at l.smooth i)) nought l.v-index)
