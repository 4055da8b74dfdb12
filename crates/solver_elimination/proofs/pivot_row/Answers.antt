-- The loop keeps the largest so far. Assumes nothing.
use mathlib.Core.Path.{◌≡◌}
use Prim.Native.Nat.{◌≤◌, ◌+◌}
use native.Mathlib.Omega.{arith}
use Rattle.loops.proofs.IterLaws.{range_start, range_next}
use Rattle.solver_elimination.specs.Solve.{pivot_row}
use borrow.Author.Rules.{rules}
use Rattle.solver_elimination.proofs.pivot_row.Goals as goal

pub loop-k-init : goal.loop-k-init
loop-k-init c = (search rules, search rules, search rules, rw range_start)

pub loop-k-preserved : goal.loop-k-preserved
loop-k-preserved c = let h : c.args.i + 1 ≤ c.loop-k.k = omega arith in
    (search rules, search rules, search rules, rw range_next (cc))

pub returns : goal.returns
unfolding pivot_row
returns c = let h : c.loop-k.k ≡ 4 = omega arith in (search rules, cc)
