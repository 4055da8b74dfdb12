-- Past the last word there is none. Assumes nothing.
use lib.ListN.{get_or-eq_default}
use Rattle.std.proofs.Common.{[], arith}
use Rattle.explain_words.specs.TellLaws.{said_none, spelt_empty}
use Rattle.explain_words.proofs.Page.blank.Goals as goal

pub returns-else-k-words : goal.returns-else-k-words
returns-else-k-words c =
    (omega arith, rw (← c.from.ensures, get_or-eq_default c.args.words.now [] c.if-k-words.false, spelt_empty 24) (said_none _ (omega arith)))
