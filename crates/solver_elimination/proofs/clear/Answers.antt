-- The loop clears a row a turn. Assumes nothing.
use mathlib.Core.Path.{◌≡◌}
use native.Mathlib.Omega.{arith}
use Rattle.loops.proofs.IterLaws.{iter_zero, iter_next}
use Rattle.solver_elimination.specs.Solve.{clear}
use borrow.Author.Rules.{rules}
use Rattle.solver_elimination.proofs.clear.Goals as goal

pub loop-k-init : goal.loop-k-init
loop-k-init c = (search rules, rw iter_zero)

pub loop-k-preserved : goal.loop-k-preserved
loop-k-preserved c = (search rules, rw (iter_next, ← c.loop-k.invariant.1, c.cleared-next.ensures))

pub returns : goal.returns
unfolding clear
returns c = let h : c.loop-k.k ≡ 4 = omega arith in cc
