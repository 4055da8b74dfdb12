-- The angles are copied, and turned first. Assumes nothing.
use Rattle.std.proofs.Common.{subst}
use Rattle.floats.specs.Rows.{Row}
use Rattle.solver.specs.Buffers.{TurnedTo}
use Rattle.solver.proofs.SolverLaws.{prepared_turned}
use Rattle.solver.proofs.prepare.Goals as goal

pub returns : goal.returns
returns c =
    prepared_turned _ _ _ _ (subst (λ (x : Row). TurnedTo x c.turn_all.new.angles) c.copy_from_slice.ensures.after c.turn_all.ensures) c.sin_cos_all.ensures
