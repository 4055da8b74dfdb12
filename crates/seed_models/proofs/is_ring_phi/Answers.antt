-- A turn takes the pair at its own place, and the loop keeps the test so far. Assumes nothing.
use Rattle.std.proofs.Common.{rules, arith, ◌≡◌, ◌∷◌, [], ◌++◌, ◌+◌, length, length-append}
use Rattle.std.proofs.lemmas.Slice.Zip.{zip_turn, zip_end}
use Rattle.std.specs.Float.{nan}
use Rattle.loops.proofs.IterLaws.{iter_zero, iter_more}
use Rattle.seed_models.specs.Models as M
use Rattle.seed_models.proofs.is_ring_phi.Goals as goal

pub loop-got-init : goal.loop-got-init
unfolding M.is_ring_phi
loop-got-init c = rw iter_zero

pub loop-got-preserved : goal.loop-got-preserved
unfolding M.is_ring_phi
loop-got-preserved c =
    let y = c.loop-got.yielded in
    let s = c.into_iter-got-iterator.result in
    let t = zip_turn c.args.ring_phi.now c.args.expected.now y s c.loop-got.got-iterator c.next.new.self c.next.result (search rules) (search rules)
    c.loop-got.yielded_by _ c.in-Some.is c.next.ensures.steps in
    let z : length (y ++ ((c.in-Some.got, c.in-Some.want) ∷ [])) ≡ length y + 1 = length-append y _ in
    rw z (iter_more _ _ _ _ _ c.loop-got.invariant (rw (← t.2 nan, ← t.3 nan) c.still_near-all.ensures))

pub returns : goal.returns
returns c =
    let y = c.loop-got.yielded in
    let s = c.into_iter-got-iterator.result in
    let e = zip_end c.args.ring_phi.now c.args.expected.now y s c.loop-got.got-iterator c.next.new.self c.next.result (search rules) (search rules)
    c.loop-got.yielded_by c.in-None.is c.next.ensures.steps in
    let n : length y ≡ length c.args.ring_phi.now = omega (arith, e, c.requires) in
    rw n at c.loop-got.invariant
