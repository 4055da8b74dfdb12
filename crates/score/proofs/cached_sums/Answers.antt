-- The loop keeps the sums so far. Assumes nothing.
use Rattle.loops.proofs.IterLaws.{iter_zero, iter_next}
use Rattle.score.specs.Score as S
use borrow.Author.Rules.{rules}
use Rattle.score.proofs.cached_sums.Goals as goal

pub loop-p-init : goal.loop-p-init
unfolding S.cached_sums
loop-p-init c = (search rules, rw (iter_zero) (search rules))

pub loop-p-preserved : goal.loop-p-preserved
unfolding S.cached_sums S.pixel_summed
loop-p-preserved c = (search rules, rw iter_next (cc))
