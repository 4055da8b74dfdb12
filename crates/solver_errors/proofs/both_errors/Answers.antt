-- A failure answers PI, and two solutions answer both errors, with what their entries say of them. Assumes nothing.
use mathlib.Core.Path.{sym, ap, ◌∙◌}
use Rattle.solver_errors.specs.Parts.{estimate_by}
use Rattle.solver_errors.proofs.StdErrorsLaws.{estimate_by_lem}
use Rattle.solver_errors.proofs.both_errors.Goals as goal

pub returns-in_default : goal.returns-in_default
returns-in_default c =
    c.no_estimate.ensures ∙ ap (estimate_by _ _) (sym c.in_default.is ∙ c.eliminate-sides.ensures) ∙
    sym (estimate_by_lem _ _ _ _)

pub returns : goal.returns
returns c = rw (c.axis_error-error1.ensures, c.axis_error-error2.ensures, c.standing_by-standing.ensures)
    (ap (estimate_by _ _) (sym c.in-Some.is ∙ c.eliminate-sides.ensures) ∙ sym (estimate_by_lem _ _ _ _))
