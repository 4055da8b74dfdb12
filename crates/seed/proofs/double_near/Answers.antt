-- A loop of stores makes the list of its elements. Assumes nothing.
use mathlib.Core.Path.{◌≡◌, refl}
use native.Mathlib.Omega.{arith}
use lib.ListN.{length}
use lib.Ieee.{nan}
use Rattle.loops.proofs.TabLaws.{stores_none, stores_next, stores_all}
use Rattle.seed.specs.Buffers as B
use borrow.Author.Rules.{rules}
use Rattle.seed.proofs.double_near.Goals as goal

pub loop-i-init : goal.loop-i-init
loop-i-init c = (search rules, stores_none _ _)

pub loop-i-preserved : goal.loop-i-preserved
loop-i-preserved c = (search rules, stores_next _ _ _ _ _ c.loop-i.invariant.1 refl)

pub returns : goal.returns
unfolding B.doubled_near
returns c =
    let h : c.loop-i.i ≡ length c.args.ring_phi.now = omega arith in
    stores_all _ _ _ nan _ (rw h at c.loop-i.invariant.1) (omega arith)
