-- The loop looks forward: from here on the search gives what it gives from the start. Assumes nothing.
use mathlib.Core.Path.{◌≡◌, ◌∙◌, sym}
use Prim.Native.Nat.{◌-◌}
use native.Mathlib.Omega.{arith}
use Rattle.seed_models.proofs.ModelLaws.{first_skip, first_here, first_none, first_is, near_is}
use borrow.Author.Rules.{rules}
use Rattle.seed_models.proofs.first_table.Goals as goal

pub loop-t-init : goal.loop-t-init
loop-t-init c =
    let a = c.args in
    let k = c.held-k.ensures.0 in
    let z : c.held-k.result - 0 ≡ c.held-k.result = omega arith in
    (search rules, rw (z, k) (first_is a.words.now a.ring_phi.now))

pub returns-then-is_ring_phi : goal.returns-then-is_ring_phi
returns-then-is_ring_phi c =
    let near = near_is _ c.args.words.now c.args.ring_phi.now c.loop-t.t c.requires.1 c.is_ring_phi.ensures in
    let few = c.loop-t-test.true in
    let held = c.held-k.ensures.0 in
    (first_here _ _ _ few (sym near ∙ c.if-is_ring_phi.true) ∙ c.loop-t.invariant.1, rw held at few)

pub loop-t-preserved : goal.loop-t-preserved
loop-t-preserved c =
    let near = near_is _ c.args.words.now c.args.ring_phi.now c.loop-t.t c.requires.1 c.is_ring_phi.ensures in
    let few = c.loop-t-test.true in
    (omega (arith, few), first_skip _ _ _ few (sym near ∙ c.if-is_ring_phi.false) ∙ c.loop-t.invariant.1)

pub returns : goal.returns
returns c = (first_none _ _ _ (omega (arith, c.loop-t-test.false)) ∙ c.loop-t.invariant.1, search rules)
