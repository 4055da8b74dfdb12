-- The search, and its errors or its trials; these are at most 96 where nothing is answered. Assumes nothing.
use Rattle.std.proofs.Common.{sym, arith}
use Rattle.search.proofs.BillLaws.{missing_trials}
use Rattle.checked.specs.Checked as C
use Rattle.checked.proofs.disk_fitted.Goals as goal

pub returns-in-Ok : goal.returns-in-Ok
unfolding C.disk_fitted C.disk_measured
returns-in-Ok c =
    let d = c.args.d in
    let errors = c.fit_std_errors.ensures d.val_energy d.grad_angles.now d.grad_weights.now in
    rw (← c.in-Ok.ensures, errors)

pub returns-in-Err : goal.returns-in-Err
unfolding C.disk_fitted C.disk_measured
returns-in-Err c = rw (← c.in-Err.ensures)

pub overflow_cast-result : goal.overflow_cast-result
overflow_cast-result c = let few = missing_trials _ _ _ _ (sym c.in-Err.ensures) in omega arith
