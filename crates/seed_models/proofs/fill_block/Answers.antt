-- A loop of stores makes the list of its elements. Assumes nothing.
use mathlib.Core.Path.{◌≡◌}
use native.Mathlib.Omega.{arith}
use lib.Ieee.{nan}
use Rattle.loops.proofs.TabLaws.{stores_none, stores_next, stores_all}
use Rattle.seed_models.specs.Words as W
use borrow.Author.Rules.{rules}
use Rattle.seed_models.proofs.fill_block.Goals as goal

pub loop-w-init : goal.loop-w-init
loop-w-init c = (search rules, stores_none _ _)

pub loop-w-preserved : goal.loop-w-preserved
loop-w-preserved c = (search rules, stores_next _ _ _ _ _ c.loop-w.invariant.1 c.block_word.ensures)

pub returns : goal.returns
unfolding W.block_of
returns c =
    let z : c.loop-w.w ≡ 72 = omega arith in
    stores_all _ _ _ nan _ (rw z at c.loop-w.invariant.1) (omega arith)
