-- A degenerate start is told by its test, and every other is prepared and made. Assumes nothing.
use mathlib.Core.Path.{◌∙◌}
use Rattle.solver.specs.Record.{record_with_seed}
use Rattle.solver.proofs.SolverLaws.{whole_prepared}
use Rattle.solver.proofs.fit_with_seed.Goals as goal

pub returns-then-is_degenerate : goal.returns-then-is_degenerate
unfolding record_with_seed
returns-then-is_degenerate c = rw (← c.is_degenerate.ensures, c.if-is_degenerate.true) c.refused.ensures

pub returns : goal.returns
unfolding record_with_seed
returns c = rw (← c.is_degenerate.ensures, c.if-is_degenerate.false) (c.fit_prepared.ensures ∙ whole_prepared _ _ _ _ _ _ c.prepare.ensures c.requires.phi)
