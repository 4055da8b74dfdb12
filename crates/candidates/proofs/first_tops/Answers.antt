-- The test is the definition's. Assumes nothing.
use Rattle.candidates.specs.Candidates as C
use borrow.Author.Rules.{rules}
use Rattle.candidates.proofs.first_tops.Goals as goal

pub returns-then-edge_align : goal.returns-then-edge_align
unfolding C.first_tops
returns-then-edge_align c = (search rules, search rules, rw c.if-edge_align.true)

pub returns : goal.returns
unfolding C.first_tops
returns c = (search rules, search rules, rw c.if-edge_align.false)
