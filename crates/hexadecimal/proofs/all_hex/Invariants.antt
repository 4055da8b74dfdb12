-- The loop keeps that every character so far is a digit. Assumes nothing.
use mathlib.Core.Path.{◌≡◌}
use Rattle.hexadecimal.specs.Hex.{all_hex}
use Rattle.hexadecimal.proofs.all_hex.Given as goal

abbrev pub invariant-loop-b : goal.invariant-loop-b
invariant-loop-b l = l.ok ≡ all_hex l.s l.b-index
