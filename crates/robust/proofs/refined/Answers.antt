-- Nothing without a seed, and with one the start from it. Assumes nothing.
use Rattle.std.proofs.Common.{◌∙◌}
use Rattle.robust.proofs.RobustLaws.{refined_missing, refined_made}
use Rattle.robust.proofs.refined.Goals as goal

pub returns-in_err-s : goal.returns-in_err-s
returns-in_err-s g c = c.from_residual.ensures ∙ refined_missing _ _ _ _ _ c.in_err-s.was

pub returns : goal.returns
returns g c =
    refined_made _ _ _ _ _ _ _ c.in_ok-s.was c.started.ensures
