-- The loop keeps the sum so far. Assumes nothing.
use mathlib.Core.Path.{◌≡◌}
use Prim.Native.Nat.{◌≤◌}
use lib.ListN.{length}
use Rattle.score_edges.specs.Edges as E
use Rattle.score_edges.proofs.ordered_sum.Given as goal

abbrev pub invariant-loop-term : goal.invariant-loop-term
invariant-loop-term l = (l.term-index ≤ length l.row) × (l.s ≡ E.ordered_sum l.term-index l.row)
