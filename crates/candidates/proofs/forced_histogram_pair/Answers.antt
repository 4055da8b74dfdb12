-- The loop keeps the two greatest so far. Assumes nothing.
use mathlib.Core.Path.{◌≡◌}
use native.Mathlib.Omega.{arith}
use borrow.Author.Tests.{lt-ltb, le-ltb}
use Rattle.loops.proofs.IterLaws.{range_start, range_more}
use Rattle.candidates.specs.Candidates as C
use borrow.Author.Rules.{rules}
use Rattle.candidates.proofs.forced_histogram_pair.Goals as goal

pub returns-then-n-lt2 : goal.returns-then-n-lt2
unfolding C.forced_histogram_pair
returns-then-n-lt2 c = rw (lt-ltb _ _ c.if-n-lt2.true)

pub loop-c-init : goal.loop-c-init
unfolding C.tops_of
loop-c-init c = (search rules, search rules, search rules, search rules, rw range_start c.first_tops-t.ensures.2)

pub loop-c-preserved : goal.loop-c-preserved
unfolding C.tops_of
loop-c-preserved c =
    let e = c.loop-c.invariant.4 in
    (search rules, search rules, search rules, search rules, range_more _ _ _ _ _ _ (search rules) e c.raised_tops-t.ensures.2)

pub returns : goal.returns
unfolding C.forced_histogram_pair
returns c =
    let h : c.loop-c.c ≡ c.args.candidates.n = omega arith in
    rw (le-ltb _ _ c.if-n-lt2.false, ← h, ← c.loop-c.invariant.4) c.ordered.ensures
