-- Fewer than two have no pair, and two closest make one in order. Assumes nothing.
use borrow.Author.Tests.{lt-ltb, le-ltb}
use Rattle.candidates.specs.Candidates as C
use Rattle.candidates.proofs.forced_seed_pair.Goals as goal

pub returns-then-candidates-lt2 : goal.returns-then-candidates-lt2
unfolding C.forced_seed_pair
returns-then-candidates-lt2 c = rw (lt-ltb _ _ c.if-candidates-lt2.true)

pub returns-in_err-i : goal.returns-in_err-i
unfolding C.forced_seed_pair C.both_closest
returns-in_err-i c =
    rw (le-ltb _ _ c.if-candidates-lt2.false, ← c.closest_candidate.ensures, c.in_err-i.was) c.from_residual.ensures

pub returns-in_err-j : goal.returns-in_err-j
unfolding C.forced_seed_pair C.both_closest
returns-in_err-j c =
    rw (le-ltb _ _ c.if-candidates-lt2.false, ← c.closest_candidate.ensures, c.in_ok-i.was, ← c.closest_candidate-2.ensures, c.in_err-j.was)
    c.from_residual-in_err-j.ensures

pub returns : goal.returns
unfolding C.forced_seed_pair C.both_closest
returns c =
    rw (le-ltb _ _ c.if-candidates-lt2.false, ← c.closest_candidate.ensures, c.in_ok-i.was, ← c.closest_candidate-2.ensures, c.in_ok-j.was)
    c.ordered.ensures
