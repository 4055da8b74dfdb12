-- No bin above 0 gives no peak. Assumes nothing.
use Rattle.candidates.specs.Candidates as C
use borrow.Author.Rules.{rules}
use Rattle.candidates.proofs.histogram_peaks.Goals as goal

pub returns-then-max_v : goal.returns-then-max_v
unfolding C.histogram_peaks
returns-then-max_v c =
    (c.peaks.ensures.0, rw (← c.greatest-max_v.ensures, c.if-max_v.true) c.peaks.ensures.1)

pub returns : goal.returns
unfolding C.histogram_peaks
returns c = (rw c.new.ensures (search rules), rw (← c.greatest-max_v.ensures, c.if-max_v.false) c.new.ensures)
