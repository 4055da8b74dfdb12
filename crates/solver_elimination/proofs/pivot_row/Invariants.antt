-- The loop keeps the largest so far. Assumes nothing.
use mathlib.Core.Path.{◌≡◌}
use Prim.Native.Nat.{◌≤◌, ◌<◌, ◌+◌, ◌-◌}
use Rattle.loops.specs.Loops.{range}
use Rattle.solver_elimination.specs.Solve.{larger}
use Rattle.solver_elimination.proofs.pivot_row.Given as goal

abbrev pub invariant-loop-k : goal.invariant-loop-k
invariant-loop-k l = (l.i + 1 ≤ l.k) × (l.k ≤ 4) × (l.best < 4) × (l.best ≡ range (larger l.m l.i) l.i (l.i + 1) l.k)

abbrev pub decreases-loop-k : goal.decreases-loop-k
decreases-loop-k l = 4 - l.k
