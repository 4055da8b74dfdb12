-- What is said so far are the letters of the word so far. Assumes nothing.
use Rattle.std.proofs.Common.{arith}
use Rattle.explain_words.specs.TellLaws.{said_none, said_then, spelt_none, spelt_next}
use Rattle.explain_words.proofs.Page.word.Goals as goal

pub loop-b-init : goal.loop-b-init
loop-b-init c = (omega arith, rw spelt_none (said_none _ (omega arith)))

pub loop-b-preserved : goal.loop-b-preserved
loop-b-preserved c = (omega arith, rw spelt_next (said_then c.loop-b.invariant.1 c.letter.ensures.1 (omega arith)))
