-- The loop keeps the sum so far. Assumes nothing.
use Rattle.loops.proofs.IterLaws.{iter_zero, iter_next}
use Rattle.score_edges.specs.Edges as E
use borrow.Author.Rules.{rules}
use Rattle.score_edges.proofs.ordered_sum.Goals as goal

pub loop-term-init : goal.loop-term-init
unfolding E.ordered_sum
loop-term-init c = (search rules, rw iter_zero)

pub loop-term-preserved : goal.loop-term-preserved
unfolding E.ordered_sum
loop-term-preserved c = (search rules, rw iter_next (cc))
