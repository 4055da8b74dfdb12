-- The loop keeps the bins so far, and each iterator has the rest of its slice. Assumes nothing.
use mathlib.Core.Path.{◌≡◌, ◌∙◌, sym}
use mathlib.Core.List.{[], ◌∷◌, ◌++◌}
use native.Mathlib.Omega.{arith}
use Prim.Native.Nat.{◌≤◌, ◌+◌}
use lib.ListN.{length}
use Rattle.std.proofs.Common.{length-append, inl, inr}
use Rattle.loops.proofs.IterLaws.{iter_zero, iter_more}
use Rattle.candidates.specs.Candidates as C
use Rattle.candidates.specs.CandidatesLaws.{left_first, left_none}
use borrow.Author.Rules.{rules}
use Rattle.candidates.proofs.histogram.Goals as goal

pub loop-angle-init : goal.loop-angle-init
loop-angle-init c = (search rules, search rules, search rules, rw iter_zero)

pub loop-angle-preserved-then-weight : goal.loop-angle-preserved-then-weight
unfolding C.binned
loop-angle-preserved-then-weight c =
    let i = c.loop-angle.invariant in
    let s = c.in-Some.ensures.steps in
    let a = left_first c.args.«grad_angles».now _ (length c.loop-angle.yielded) _ (sym s.0 ∙ i.1) in
    let w = left_first c.args.«grad_weights».now _ (length c.loop-angle.yielded) _ (sym s.1 ∙ i.2) in
    let y = c.loop-angle.yielded in
    let z : length (y ++ ((c.in-Some.angle, c.in-Some.weight) ∷ [])) ≡ length y + 1 = length-append y _ in
    rw z (omega (arith, a.2), a.1, w.1, iter_more (C.binned c.args.«grad_angles».now c.args.«grad_weights».now) _ _ _ _ i.3 (rw (← w.0, c.if-weight.true)))

pub loop-angle-preserved : goal.loop-angle-preserved
unfolding C.binned
loop-angle-preserved c =
    let i = c.loop-angle.invariant in
    let s = c.in-Some.ensures.steps in
    let a = left_first c.args.«grad_angles».now _ (length c.loop-angle.yielded) _ (sym s.0 ∙ i.1) in
    let w = left_first c.args.«grad_weights».now _ (length c.loop-angle.yielded) _ (sym s.1 ∙ i.2) in
    let idx = c.bin_of-idx.ensures.value in
    let y = c.loop-angle.yielded in
    let z : length (y ++ ((c.in-Some.angle, c.in-Some.weight) ∷ [])) ≡ length y + 1 = length-append y _ in
    rw z (
      omega (arith, a.2),
      a.1,
      w.1,
      iter_more (C.binned c.args.«grad_angles».now c.args.«grad_weights».now) _ _ _ _ i.3 (rw (← w.0, ← a.0, c.if-weight.false, idx)),
    )

pub returns : goal.returns
unfolding C.histogram
returns c =
    let i = c.loop-angle.invariant in
    let k = length c.loop-angle.yielded in
    let n = length c.args.«grad_angles».now in
    let all : n ≤ k = elim c.in-None.ensures.steps [
      | inl v ↦ left_none c.args.«grad_angles».now _ k i.1 v.1.0
      | inr v ↦ let w = left_none c.args.«grad_weights».now _ k i.2 v.1.0 in omega (arith, w, c.requires)
    ] in
    let h : k ≡ n = omega (arith, all, i.0) in
    rw h at i.3
