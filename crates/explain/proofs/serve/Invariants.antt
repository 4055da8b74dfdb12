-- Each turn follows those before it; the last leaves nothing more to do. Assumes nothing.
use Rattle.std.proofs.Common.{◌≡◌, length}
use Rattle.lines.specs.Turns.{StateKept, Turns, input, output}
use Rattle.explain.specs.declared.Explaining.{Explaining}
use Rattle.explain.specs.Explain.{ExplainTurn, first_state}
use Rattle.explain.proofs.serve.Given as goal

abbrev pub invariant-loop : goal.invariant-loop
invariant-loop g l =
    StateKept l.x.state × (length l.buf ≡ input) × (length l.text ≡ output)
    × Turns Explaining ExplainTurn l.counter first_state l.initial.buf l.initial.text l.x l.buf l.text
