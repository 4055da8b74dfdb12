-- Each turn fills one row more and leaves the others as they are. Assumes nothing.
use mathlib.Core.Path.{◌≡◌, refl}
use native.Mathlib.Omega.{arith}
use Rattle.loops.proofs.TabLaws.{stores_none, stores_next}
use Rattle.search_rows.specs.RowsLaws.{built_none, built_more, built_all}
use borrow.Author.Rules.{rules}
use Rattle.search_rows.proofs.build_axis_rows.Goals as goal

pub loop-k-init : goal.loop-k-init
loop-k-init c = (search rules, built_none (search rules), stores_none _ _)

pub loop-k-preserved : goal.loop-k-preserved
loop-k-preserved c =
    let i = c.loop-k.invariant in
    let f = c.fill_row.ensures in
    (search rules, built_more (search rules) i.1 f.1, stores_next _ _ _ _ _ i.2 f.0)

pub returns : goal.returns
returns c = λ energy vals.
    let h : c.loop-k.k ≡ 3 = omega arith in
    let i = rw h at c.loop-k.invariant in
    built_all energy vals _ _ i.1 i.2 refl
