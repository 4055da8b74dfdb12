-- Both tests are the definition's. Assumes nothing.
use Rattle.candidates.specs.Candidates as C
use borrow.Author.Rules.{rules}
use Rattle.candidates.proofs.raised_tops.Goals as goal

pub returns-then-edge_align-c : goal.returns-then-edge_align-c
unfolding C.raised_tops
returns-then-edge_align-c c = (search rules, search rules, rw c.if-edge_align-c.true)

pub returns-then-edge_align-c-2 : goal.returns-then-edge_align-c-2
unfolding C.raised_tops
returns-then-edge_align-c-2 c = (search rules, search rules, rw (c.if-edge_align-c.false, c.if-edge_align-c-2.true))

pub returns : goal.returns
unfolding C.raised_tops
returns c = (search rules, search rules, rw (c.if-edge_align-c.false, c.if-edge_align-c-2.false))
