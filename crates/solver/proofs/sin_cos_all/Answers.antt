-- Two lists of stores, both made of one call. Assumes nothing.
use mathlib.Core.Path.{◌≡◌, ap}
use native.Mathlib.Omega.{arith}
use lib.ListN.{length}
use lib.Ieee.{nan}
use Rattle.loops.proofs.TabLaws.{stores_none, stores_next, stores_all}
use Rattle.elementary.specs.declared.SinCos.{SinCos}
use borrow.Author.Rules.{rules}
use Rattle.solver.proofs.sin_cos_all.Goals as goal

pub loop-i-init : goal.loop-i-init
loop-i-init c = (search rules, stores_none _ _, stores_none _ _)

pub loop-i-preserved : goal.loop-i-preserved
loop-i-preserved c = let i = c.loop-i.invariant in
    let e = c.sin_cos_near-t.ensures in
    (search rules, stores_next _ _ _ _ _ i.1 (ap (λ (t : SinCos). t.s) e), stores_next _ _ _ _ _ i.2 (ap (λ (t : SinCos). t.c) e))

pub returns : goal.returns
returns c = let h : c.loop-i.i ≡ length c.args.turned.now = omega arith in
    record { s = stores_all _ _ _ nan _ (rw h at c.loop-i.invariant.1) (omega arith); c = stores_all _ _ _ nan _ (rw h at c.loop-i.invariant.2) (omega arith) }
