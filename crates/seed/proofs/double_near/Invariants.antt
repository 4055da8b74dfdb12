-- A loop of stores makes the list of its elements. Assumes nothing.
use Prim.Native.Nat.{◌≤◌, ◌-◌}
use lib.ListN.{get_or}
use lib.Ieee.{nan}
use Rattle.loops.proofs.TabLaws.{Stores}
use Rattle.seed.specs.Buffers as B
use Rattle.seed.proofs.double_near.Given as goal

abbrev pub invariant-loop-i : goal.invariant-loop-i
invariant-loop-i l = (l.i ≤ l.n) × Stores (λ k. B.twice (get_or l.ring_phi k nan)) l.initial.turned l.turned l.i

abbrev pub decreases-loop-i : goal.decreases-loop-i
decreases-loop-i l = l.n - l.i
