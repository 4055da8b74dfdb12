-- A turn takes the pair at its own place, and the loop keeps the sum so far. Assumes nothing.
use Rattle.std.proofs.Common.{rules, arith, ◌≡◌, ◌∷◌, [], ◌++◌, ◌+◌, length, length-append}
use Rattle.std.proofs.lemmas.Slice.Zip.{zip_turn, zip_end}
use Rattle.std.specs.Float.{nan}
use Rattle.loops.proofs.IterLaws.{iter_zero, iter_more}
use Rattle.seed_models.proofs.num_of.Goals as goal

pub loop-v-init : goal.loop-v-init
loop-v-init c = rw iter_zero

pub loop-v-preserved : goal.loop-v-preserved
loop-v-preserved c =
    let y = c.loop-v.yielded in
    let s = c.into_iter-v-iterator.result in
    let t = zip_turn c.args.centered.now c.args.q_centered.now y s c.loop-v.v-iterator c.next.new.self c.next.result (search rules) (search rules)
    c.loop-v.yielded_by _ c.in-Some.is c.next.ensures.steps in
    let z : length (y ++ ((c.in-Some.v, c.in-Some.q) ∷ [])) ≡ length y + 1 = length-append y _ in
    rw z (iter_more _ _ _ _ _ c.loop-v.invariant (rw (t.2 nan, t.3 nan)))

pub returns : goal.returns
returns c =
    let y = c.loop-v.yielded in
    let s = c.into_iter-v-iterator.result in
    let e = zip_end c.args.centered.now c.args.q_centered.now y s c.loop-v.v-iterator c.next.new.self c.next.result (search rules) (search rules)
    c.loop-v.yielded_by c.in-None.is c.next.ensures.steps in
    let n : length y ≡ length c.args.centered.now = omega (arith, e, c.requires) in
    rw n at c.loop-v.invariant
