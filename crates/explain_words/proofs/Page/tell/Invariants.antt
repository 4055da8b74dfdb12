-- What is told so far, and what is left to tell, are the whole. Assumes nothing.
use Rattle.std.proofs.Common.{◌+◌, ◌*◌, ◌≤◌}
use Rattle.explain_words.specs.TellLaws.{Midway}
use Rattle.explain_words.proofs.Page.tell.Given as goal

abbrev pub invariant-loop-c : goal.invariant-loop-c
invariant-loop-c l =
    (l.self.at ≤ l.initial.self.at + 24 * l.c-index) × (l.k ≤ l.c-index) × Midway l.flags l.words l.s l.initial.self l.c-index l.k l.inside l.self
