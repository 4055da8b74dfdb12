-- A disk without weight is left as it is; otherwise the loop stores a sum a turn. Assumes nothing.
use mathlib.Core.Path.{◌≡◌}
use Prim.Native.Nat.{◌≤◌}
use lib.ListN.{length}
use Rattle.loops.proofs.TabLaws.{Stores}
use Rattle.floats.specs.Rows.{at}
use Rattle.score_edges.specs.Edges.{ranked_sum}
use Rattle.score.proofs.precompute_edge_alignments.Given as goal

abbrev pub invariant-loop-c : goal.invariant-loop-c
invariant-loop-c l = (l.c ≤ l.candidates.n) × (length l.terms ≡ length l.initial.terms)
    × Stores (λ k. ranked_sum (length l.grad_angles) l.grad_angles l.grad_weights (at l.candidates.angles k)) l.initial.out l.out l.c
