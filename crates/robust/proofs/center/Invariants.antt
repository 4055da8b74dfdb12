-- A loop of stores makes the list of its elements. Assumes nothing.
use Prim.Native.Nat.{◌≤◌, ◌-◌}
use lib.ListN.{get_or}
use lib.Ieee.{nan}
use Rattle.floats.specs.Ops.{◌⊖◌}
use Rattle.loops.proofs.TabLaws.{Stores}
use Rattle.robust.proofs.center.Given as goal

abbrev pub invariant-loop-i : goal.invariant-loop-i
invariant-loop-i l = (l.i ≤ l.n) × Stores (λ k. get_or l.samples k nan ⊖ l.mean) l.initial.centered l.centered l.i

abbrev pub decreases-loop-i : goal.decreases-loop-i
decreases-loop-i l = l.n - l.i
