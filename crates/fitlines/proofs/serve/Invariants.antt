-- Each turn follows those before it; the last leaves nothing more to do. Assumes nothing.
use mathlib.Core.Path.{◌≡◌}
use lib.ListN.{length}
use Rattle.lines.specs.declared.State.{State}
use Rattle.lines.specs.Turns.{StateKept, Turns, input, output, opening}
use Rattle.fitlines.specs.Fitlines.{Turn}
use Rattle.fitlines.proofs.serve.Given as goal

abbrev pub invariant-loop : goal.invariant-loop
invariant-loop g l =
    StateKept l.s × (length l.buf ≡ input) × (length l.text ≡ output)
    × Turns State Turn l.counter opening l.initial.buf l.initial.text l.s l.buf l.text
