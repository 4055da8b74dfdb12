-- Each sort has its own sentences, and a frame has none. Assumes nothing.
use Rattle.std.proofs.Common.{[], arith}
use Rattle.explain_words.specs.TellLaws.{said_none}
use Rattle.explain.proofs.body_told.Goals as goal

pub returns-in-Asked : goal.returns-in-Asked
returns-in-Asked c = (omega arith, record { words = []; said = rw c.in-Asked.is (said_none _ (omega arith)) })
