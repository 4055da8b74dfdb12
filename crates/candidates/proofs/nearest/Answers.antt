-- The loop keeps the nearest so far; 1 over 0 is the infinity. Assumes nothing.
use lib.Ieee.{div, of_bits}
use Rattle.loops.proofs.IterLaws.{iter_zero, iter_more}
use Rattle.candidates.specs.Candidates as C
use Rattle.candidates.specs.CandidatesLaws.{nearer_place}
use borrow.Author.Rules.{rules}
use Rattle.candidates.proofs.nearest.Goals as goal

pub loop-c-init : goal.loop-c-init
unfolding C.nearest div of_bits
loop-c-init c = (search rules, search rules, rw iter_zero)

pub loop-c-preserved : goal.loop-c-preserved
unfolding C.nearest C.nearer
loop-c-preserved c =
    let e = c.nearer-best.ensures in
    let l = c.loop-c in
    (search rules, rw e (nearer_place _ _ _ _ (search rules) (search rules)), iter_more _ _ _ _ _ l.invariant.2 (rw (← c.line_delta-d.ensures.value) e))
