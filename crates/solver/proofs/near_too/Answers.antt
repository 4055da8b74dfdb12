-- A test that says far answers false, and a near angle is its own turned angle. Assumes nothing.
use mathlib.Core.Path.{◌∙◌, sym, ap}
use mathlib.Core.Bool.{false≢true}
use lib.Ieee.{lt}
use Rattle.floats.specs.Ops.{lit}
use Rattle.solver.proofs.SolverLaws.{near_turn}
use Rattle.solver.proofs.near_too.Goals as goal

pub returns-then-abs : goal.returns-then-abs
returns-then-abs c = λ e. absurd (false≢true e)

pub returns : goal.returns
returns c = λ e. (e, near_turn _ (sym (ap (lt (lit 0x4280_0000)) c.abs.ensures) ∙ c.if-abs.false))
