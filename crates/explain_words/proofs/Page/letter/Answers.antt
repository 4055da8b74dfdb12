-- A control character is left out. Assumes nothing.
use Rattle.std.proofs.Common.{arith, lt-ltb}
use Rattle.explain_words.specs.TellLaws.{said_none}
use Rattle.explain_words.proofs.Page.letter.Goals as goal

pub returns-else-b-ge32 : goal.returns-else-b-ge32
returns-else-b-ge32 c = (omega arith, rw (lt-ltb _ _ c.if-b-ge32.false) (said_none _ (omega arith)))
