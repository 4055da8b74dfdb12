-- Each turn fills one row more and leaves the others as they are. Assumes nothing.
use Prim.Native.Nat.{◌≤◌}
use lib.ListN.{length}
use Rattle.floats.specs.Ops.{◌⊕◌}
use Rattle.loops.proofs.TabLaws.{Stores}
use Rattle.floats.specs.Rows.{at}
use Rattle.score_edges.specs.Edges.{refined_sum}
use Rattle.search_rows.specs.RowsLaws.{Built}
use Rattle.search_rows.proofs.build_axis_rows.Given as goal

abbrev pub invariant-loop-k : goal.invariant-loop-k
invariant-loop-k l = (l.k ≤ 3) × Built l.xs l.ys l.base l.width l.offsets l.rows l.k
    × Stores (λ k. refined_sum (length l.xs) l.grad_angles l.grad_weights (l.base ⊕ at l.offsets k)) l.initial.edges l.edges l.k
