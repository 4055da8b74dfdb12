-- A loop of stores makes the list of its elements. Assumes nothing.
use mathlib.Core.Path.{◌≡◌}
use native.Mathlib.Omega.{arith}
use lib.Ieee.{nan}
use lib.ListN.{length}
use Rattle.loops.proofs.TabLaws.{stores_none, stores_next, stores_all}
use Rattle.score.specs.Score as S
use borrow.Author.Rules.{rules}
use Rattle.score.proofs.axis_row.Goals as goal

pub loop-p-init : goal.loop-p-init
loop-p-init c = (search rules, stores_none _ _)

pub loop-p-preserved : goal.loop-p-preserved
loop-p-preserved c =
    (search rules, stores_next _ _ _ _ _ c.loop-p.invariant.1 (rw (← c.sin_cos-t.ensures) c.tanh.ensures))

pub returns : goal.returns
unfolding S.axis_row
returns c =
    stores_all _ _ _ nan _ (let h : c.loop-p.p ≡ length c.args.xs.now = omega arith in rw h at c.loop-p.invariant.1) (search rules)
