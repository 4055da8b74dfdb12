-- The loop's state is the matrix on its way; the early return is a law, and what the columns of both right sides are is one. Assumes nothing.
use mathlib.Core.Path.{◌≡◌}
use Prim.Native.Nat.{◌≤◌, ◌-◌}
use Rattle.loops.specs.Loops.{iter}
use Rattle.solver_elimination.specs.Solve.{going, column}
use Rattle.solver_elimination.specs.Wide.{right_side, widened}
use Rattle.solver_elimination.proofs.eliminate.Given as goal

abbrev pub invariant-loop-i : goal.invariant-loop-i
invariant-loop-i l = (l.i ≤ 4) × (going l.m ≡ iter column (going (widened l.a (right_side l.b0 l.b1 l.b2 l.b3) (right_side l.c0 l.c1 l.c2 l.c3))) l.i)

abbrev pub decreases-loop-i : goal.decreases-loop-i
decreases-loop-i l = 4 - l.i
