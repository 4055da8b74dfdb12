-- Nested loops, each the definition's own; the invariants also bound the count, so that each pair has its place. Assumes nothing.
use mathlib.Core.Path.{◌≡◌}
use Prim.Native.Nat.{◌≤◌, ◌<◌, ◌+◌, ◌-◌}
use Rattle.loops.specs.Loops.{iter, range}
use Rattle.candidates.specs.Candidates as C
use Rattle.candidates.specs.CandidatesLaws.{rows_before}
use Rattle.candidates.proofs.build_pair_pool.Given as goal

abbrev pub invariant-pairs : goal.invariant-pairs
invariant-pairs l =
    (l.i < l.n) × (l.i + 1 ≤ l.j) × (l.j ≤ l.n) × (rows_before l.n l.i + (l.n - 1 - l.i) ≤ C.max_pairs)
    × (l.pool.n ≤ rows_before l.n l.i + (l.j - 1 - l.i))
    × (l.pool ≡ range (C.pooled_pair l.candidates l.edge_align l.grad_total l.force_seed l.force_hist l.i) l.initial.pool (l.i + 1) l.j)

abbrev pub decreases-pairs : goal.decreases-pairs
decreases-pairs l = l.n - l.j

abbrev pub invariant-loop-i : goal.invariant-loop-i
invariant-loop-i l = (l.i ≤ l.n) × (l.pool.n ≤ rows_before l.n l.i) × (rows_before l.n l.i ≤ C.max_pairs)
    × (l.pool ≡ iter (C.pooled_from l.candidates l.edge_align l.grad_total l.force_seed l.force_hist) C.no_pairs l.i)

abbrev pub decreases-loop-i : goal.decreases-loop-i
decreases-loop-i l = l.n - l.i
