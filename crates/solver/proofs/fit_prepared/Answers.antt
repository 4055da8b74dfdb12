-- The fit is finished from where the updates stopped. Assumes nothing.
use Rattle.solver.proofs.fit_prepared.Goals as goal

pub returns : goal.returns
returns c = rw (← c.run_updates-run.ensures, ← c.matrix_of.ensures) c.finished.ensures
