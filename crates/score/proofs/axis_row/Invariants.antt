-- A loop of stores makes the list of its elements. Assumes nothing.
use Prim.Native.Nat.{◌≤◌}
use lib.ListN.{length}
use Rattle.elementary.specs.Elementary.{sin_cos}
use Rattle.loops.proofs.TabLaws.{Stores}
use Rattle.score.specs.Score as S
use Rattle.score.proofs.axis_row.Given as goal

abbrev pub invariant-loop-p : goal.invariant-loop-p
invariant-loop-p l = (l.p ≤ length l.xs) × Stores (S.row_at (sin_cos l.theta) l.width l.xs l.ys) l.initial.row l.row l.p
