-- The test is the definition's. Assumes nothing.
use borrow.Author.Tests.{eq-eqb, ne_eqb}
use Rattle.candidates.specs.Candidates as C
use borrow.Author.Rules.{rules}
use Rattle.candidates.proofs.next_bin.Goals as goal

pub returns-then-i-eq-HIST_BINS : goal.returns-then-i-eq-HIST_BINS
unfolding C.next_bin
returns-then-i-eq-HIST_BINS c = (search rules, rw (eq-eqb _ _ c.if-i-eq-HIST_BINS.true))

pub returns : goal.returns
unfolding C.next_bin
returns c = (search rules, rw (ne_eqb _ _ c.if-i-eq-HIST_BINS.false))
