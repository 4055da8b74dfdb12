-- What is said so far are the letters of the word so far. Assumes nothing.
use Rattle.std.proofs.Common.{◌+◌, ◌≤◌}
use Rattle.explain_words.specs.Tell.{Said, spelt}
use Rattle.explain_words.proofs.Page.word.Given as goal

abbrev pub invariant-loop-b : goal.invariant-loop-b
invariant-loop-b l = (l.self.at ≤ l.initial.self.at + l.b-index) × Said l.initial.self l.self (spelt l.w l.b-index)
