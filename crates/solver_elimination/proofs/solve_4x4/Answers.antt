-- The first of two right sides has its own solution, whatever the second is. Assumes nothing.
use mathlib.Core.Path.{sym, ap, ◌∙◌}
use Rattle.solver_elimination.specs.Wide.{first_side}
use Rattle.solver_elimination.proofs.WideLaws.{first_by, right_listed}
use Rattle.solver_elimination.proofs.solve_4x4.Goals as goal

pub returns-in_err-sides : goal.returns-in_err-sides
returns-in_err-sides c =
    c.from_residual.ensures ∙ ap first_side (sym c.in_err-sides.was ∙ c.eliminate.ensures) ∙ sym (first_by _ _ _) ∙ right_listed _ _

pub returns : goal.returns
returns c = ap first_side (sym c.in_ok-sides.was ∙ c.eliminate.ensures) ∙ sym (first_by _ _ _) ∙ right_listed _ _
