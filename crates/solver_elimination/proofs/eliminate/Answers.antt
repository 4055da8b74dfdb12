-- The loop's state is the matrix on its way; the early return is a law, and what the columns of both right sides are is one. Assumes nothing.
use mathlib.Core.Path.{◌≡◌, ap, ◌∙◌}
use native.Mathlib.Omega.{arith}
use Rattle.loops.proofs.IterLaws.{iter_zero}
use Rattle.solver_elimination.specs.Solve.{Elim, column_of}
use Rattle.solver_elimination.specs.SolveLaws.{goes_on, stops_at}
use Rattle.solver_elimination.specs.Wide.{widened, sides}
use Rattle.solver_elimination.proofs.WideLaws.{sides_by}
use borrow.Author.Rules.{rules}
use Rattle.solver_elimination.proofs.eliminate.Goals as goal

pub loop-i-init : goal.loop-i-init
unfolding widened
loop-i-init c = (
  search rules,
  rw (iter_zero, c.widened_row-r3.ensures, c.widened_row-r2.ensures, c.widened_row-r1.ensures, c.widened_row-r0.ensures),
)

pub returns-then-column_stops : goal.returns-then-column_stops
unfolding sides
returns-then-column_stops c = let e = stops_at _ c.loop-i.i _ (search rules) c.loop-i.invariant.1 (cc) in
    ap (λ (e : Elim). sides (column_of 4 e) (column_of 5 e)) e ∙ sides_by _ _ _

pub loop-i-preserved : goal.loop-i-preserved
loop-i-preserved c = let t = c.column_stops.ensures in
    (search rules, rw (t.1 c.if-column_stops.false) (goes_on _ _ _ c.loop-i.invariant.1 (cc)))

pub returns : goal.returns
unfolding sides
returns c = let h : c.loop-i.i ≡ 4 = omega arith in
    ap (λ (e : Elim). sides (column_of 4 e) (column_of 5 e)) (rw h at c.loop-i.invariant.1) ∙ sides_by _ _ _
