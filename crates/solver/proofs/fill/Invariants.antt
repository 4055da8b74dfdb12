-- A loop of stores makes the list of its elements. Assumes nothing.
use Prim.Native.Nat.{◌≤◌, ◌-◌}
use lib.ListN.{get_or}
use lib.Ieee.{nan}
use Rattle.loops.proofs.TabLaws.{Stores}
use Rattle.solver.specs.Solver.{sample_at}
use Rattle.solver.proofs.fill.Given as goal

abbrev pub invariant-loop-i : goal.invariant-loop-i
invariant-loop-i l =
    (l.i ≤ l.n)
    × Stores (λ k. sample_at l.p l.t1 l.t2 (get_or l.samples k nan) (get_or l.sphi k nan) (get_or l.cphi k nan)) l.initial.js l.js l.i

abbrev pub decreases-loop-i : goal.decreases-loop-i
decreases-loop-i l = l.n - l.i
