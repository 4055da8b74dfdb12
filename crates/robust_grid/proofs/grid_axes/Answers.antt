-- Two lists of stores, both made of one call: no angle of the grid is reduced. Assumes nothing.
use mathlib.Core.Path.{◌≡◌, ap, ◌∙◌}
use native.Mathlib.Omega.{arith}
use lib.Ieee.{nan}
use Rattle.loops.proofs.TabLaws.{stores_none, stores_next, stores_all}
use Rattle.elementary.specs.Elementary.{sin_cos_near}
use Rattle.elementary.specs.declared.SinCos.{SinCos}
use Rattle.robust_grid.specs.PairLaws.{grid_near}
use borrow.Author.Rules.{rules}
use Rattle.robust_grid.proofs.grid_axes.Goals as goal

pub loop-a-init : goal.loop-a-init
loop-a-init c = (search rules, stores_none _ _, stores_none _ _)

pub loop-a-preserved : goal.loop-a-preserved
loop-a-preserved c =
    let inv = c.loop-a.invariant in
    let t = c.sin_cos_near-t.ensures ∙ ap sin_cos_near c.grid_angle.ensures ∙ grid_near c.loop-a.a (search rules) in
    (search rules, stores_next _ _ _ _ _ inv.1 (ap (λ (t : SinCos). t.s) t), stores_next _ _ _ _ _ inv.2 (ap (λ (t : SinCos). t.c) t))

pub returns : goal.returns
returns c =
    let inv = c.loop-a.invariant in
    let h : c.loop-a.a ≡ 24 = omega arith in
    record { s = stores_all _ _ _ nan _ (rw h at inv.1) (omega arith); c = stores_all _ _ _ nan _ (rw h at inv.2) (omega arith) }
