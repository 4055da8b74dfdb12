-- The loop keeps the picks so far, and it ends where no bin is left or the pick is too low. Assumes nothing.
use mathlib.Core.Path.{◌≡◌, sym, ap, ◌∙◌}
use native.Mathlib.Omega.{arith}
use Rattle.loops.proofs.IterLaws.{iter_zero}
use Rattle.candidates.specs.Candidates as C
use Rattle.candidates.specs.CandidatesLaws.{picks_next, picks_none, picks_low}
use borrow.Author.Rules.{rules}
use Rattle.candidates.proofs.peaks.Goals as goal

pub loop-init : goal.loop-init
loop-init c =
    (search rules, rw c.new-candidates.ensures (omega arith), rw (iter_zero, c.new-candidates.ensures))

pub loop-preserved : goal.loop-preserved
unfolding C.too_low
loop-preserved c =
    let i = c.loop.invariant in
    let best = sym c.in-Some.is ∙ c.best_bin.ensures.1 in
    let push = c.push_unique-candidates.ensures in (
      search rules,
      omega arith,
      picks_next _ _ _ _ _ i.2 _ _ _ _ best c.if-smooth-best_i.false c.bin_angle.ensures c.to_radians.ensures push.2,
    )

pub returns-after-loop : goal.returns-after-loop
unfolding C.peaks
returns-after-loop c =
    let h : c.loop.counter ≡ C.max_picks = omega arith in
    (search rules, ap (λ (p : C.Picking). p.found) (rw h at c.loop.invariant.2))

pub returns-in_default : goal.returns-in_default
returns-in_default c =
    let none = sym c.best_bin.ensures.1 ∙ c.in_default.is in
    (omega arith, picks_none _ _ _ _ _ c.loop.invariant.2 c.loop-test.true none)

pub returns-then-smooth-best_i : goal.returns-then-smooth-best_i
unfolding C.too_low
returns-then-smooth-best_i c =
    let some = sym c.best_bin.ensures.1 ∙ c.in-Some.is in
    (omega arith, picks_low _ _ _ _ _ c.loop.invariant.2 _ c.loop-test.true some c.if-smooth-best_i.true)
