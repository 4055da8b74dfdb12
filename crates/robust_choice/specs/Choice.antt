-- Which start is answered: ring_fit/robust.rs, the end of fit_ring, and what its starts are. Definitions only.
use Rattle.std.specs.Prelude.{Bool, cond, ℕ, Option, Some, None}
use Rattle.std.specs.Float.Ieee.{lt}
use Rattle.floats.specs.Ops.{◌⊖◌, lit}
use Rattle.solver_errors.specs.declared.Standing.{Standing}
use Rattle.solver_record.specs.Fit.{RustFit}
use Rattle.solver_record.specs.declared.Params.{Params}
use Rattle.solver.specs.Solver.{Final}

-- ---- a start: fit_with_seed's fit, the standing of its errors and its number of updates, and what they were made of: where the updates stopped,
-- with the sums of the last pass, or, where the start is degenerate, the seed alone
pub data Source : Type 0 where
  of_pass : Final → Source
  of_seed : Params → Source

pub record Start : Type 0 where
  pub fit : RustFit
  pub standing : Standing
  pub updates : ℕ
  pub source : Source

-- ---- robust.rs: fit_ring, beside it its number of starts and of updates
-- the start that is answered, the number of starts, and the updates of each
pub record Ring : Type 0 where
  pub answered : Start
  pub starts : ℕ
  pub first : ℕ
  pub second : ℕ

abbrev pub single : Start → Ring
single f = record { answered = f; starts = 1; first = f.updates; second = 0 }

-- the second start is answered only where its residual is lower by more than 1e-3
abbrev pub is_lower : RustFit → RustFit → Bool
is_lower candidate primary = lt candidate.rms (primary.rms ⊖ lit 0x3a83_126f)

unfoldable pub chosen : Start → Option Start → Ring
chosen f None = single f
chosen f (Some g) = record { answered = cond (is_lower g.fit f.fit) g f; starts = 2; first = f.updates; second = g.updates }
