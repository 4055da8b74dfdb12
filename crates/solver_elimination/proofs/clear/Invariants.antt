-- The loop clears a row a turn. Assumes nothing.
use mathlib.Core.Path.{◌≡◌}
use Prim.Native.Nat.{◌≤◌, ◌-◌}
use Rattle.loops.specs.Loops.{iter}
use lib.ListN.{get_or, set}
use mathlib.Core.List.{[]}
use Rattle.solver_elimination.specs.Solve.{cleared}
use Rattle.solver_elimination.proofs.clear.Given as goal

abbrev pub invariant-loop-k : goal.invariant-loop-k
invariant-loop-k l = (l.k ≤ 4) × (l.m ≡ iter (λ k m. set m k (cleared l.i l.p k (get_or m k []))) l.initial.m l.k)

abbrev pub decreases-loop-k : goal.decreases-loop-k
decreases-loop-k l = 4 - l.k
