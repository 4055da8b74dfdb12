-- The loop keeps that the words so far are one write. Assumes nothing.
use mathlib.Core.Path.{◌≡◌}
use Rattle.hexadecimal.specs.Hex.{words_text, put}
use Rattle.hexadecimal.proofs.put_words.Given as goal

abbrev pub invariant-loop-k : goal.invariant-loop-k
invariant-loop-k l = l.out ≡ put l.initial.out l.at (words_text l.ws l.k)
