-- The bin itself where there was none, and else the greater of the two. Assumes nothing.
use borrow.Author.Rules.{rules}
use Rattle.candidates.specs.Candidates as C
use Rattle.candidates.proofs.better_bin.Goals as goal

pub returns-in_default : goal.returns-in_default
unfolding C.greater_bin
returns-in_default c = (search rules, rw c.in_default.is)

pub returns-then-smooth-i : goal.returns-then-smooth-i
unfolding C.greater_bin
returns-then-smooth-i c = (search rules, rw (c.in-Some.is, c.if-smooth-i.true))

pub returns : goal.returns
unfolding C.greater_bin
returns c = (search rules, rw (c.in-Some.is, c.if-smooth-i.false))
