-- Without a sum there is no grid; with one the start of the table's best seed is made. Assumes nothing.
use Rattle.std.proofs.Common.{◌∙◌, ℕ, ap, length, Option}
use Rattle.solver_record.specs.declared.Started.{Started}
use Rattle.robust_choice.specs.Parts.{second_of}
use Rattle.robust.specs.Robust as R
use Rattle.robust.specs.Parts as P
use Rattle.robust.proofs.RobustLaws.{none_centered, sum_centered, grid_missing, grid_made}
use Rattle.robust.proofs.cached_fit.Goals as goal

pub returns-in_err-centered_ss : goal.returns-in_err-centered_ss
returns-in_err-centered_ss c =
    let none = none_centered _ _ _ _ _ _ c.in_err-centered_ss.was c.centered_sum.ensures in
    c.from_residual.ensures ∙ grid_missing _ _ _ _ _ _ (rw c.requires at none)

pub returns : goal.returns
returns c =
    let a = c.args in
    let r = a.ready.now in
    let s = r.ring.samples.now in
    let sum = sum_centered _ _ _ _ _ _ _ c.in_ok-centered_ss.was c.centered_sum.ensures in
    let best = rw (sum.1, sum.2) at c.best_seed_of_slice-top.ensures in
    let made = grid_made (P.cached_seed a.table.table.now a.mean) (length s) s r.ring_phi.now a.mean a.centered_var _ sum.0 best in
    let fit : ℕ → Option Started = λ k. second_of
    (R.grid_fit_by (P.cached_seed a.table.table.now a.mean) k s r.ring_phi.now a.mean a.centered_var) in
    made c.refined.ensures ∙ ap fit c.requires
