-- A loop of stores makes the list of its elements. Assumes nothing.
use mathlib.Core.Path.{◌≡◌, refl}
use native.Mathlib.Omega.{arith}
use lib.ListN.{length}
use lib.Ieee.{nan}
use Rattle.loops.proofs.TabLaws.{stores_none, stores_next, stores_all}
use borrow.Author.Rules.{rules}
use Rattle.robust.proofs.center.Goals as goal

pub loop-i-init : goal.loop-i-init
loop-i-init c = (search rules, stores_none _ _)

pub loop-i-preserved : goal.loop-i-preserved
loop-i-preserved c = (search rules, stores_next _ _ _ _ _ c.loop-i.invariant.1 refl)

pub returns : goal.returns
returns c =
    let at-loop = c.loop-i in
    let at-args = c.args in
    stores_all _ _ _ nan _ (let h : at-loop.i ≡ length at-args.samples.now = omega arith in rw h at at-loop.invariant.1) (omega arith)
