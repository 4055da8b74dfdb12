-- A short buffer is left alone, and any other holds the answer's text. Assumes nothing.
use Rattle.frames.specs.Frames.{reply_of}
use Rattle.std.proofs.Common.{lt-ltb, le-ltb}
use Rattle.frames.proofs.answer_line.Goals as goal

pub returns-then-out-lt98 : goal.returns-then-out-lt98
unfolding reply_of
returns-then-out-lt98 c = rw (lt-ltb _ _ c.if-out-lt98.true, c.from.ensures, c.number.ensures)

pub returns : goal.returns
unfolding reply_of
returns c =
    rw (le-ltb _ _ c.if-out-lt98.false, c.write_answer.ensures.0, c.write_answer.ensures.1, c.answer_to.ensures)
