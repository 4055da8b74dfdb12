-- Two parts of the buffer are lent one after the other, the row itself and the scratch. Assumes nothing.
use mathlib.Core.Path.{◌≡◌, ◌∙◌}
use Prim.Native.Nat.{◌+◌, ◌-◌, ◌*◌}
use native.Mathlib.Omega.{arith}
use lib.ListN.{length}
use Rattle.search_rows.specs.RowsLaws.{row_filled}
use borrow.Author.Rules.{rules}
use Rattle.search_rows.proofs.fill_row.Goals as goal

pub returns : goal.returns
returns c =
    let n = length c.args.xs.now in
    let q = c.args.q in
    let p : q * 320 + n - q * 320 ≡ n = omega arith in
    let z : 1920 + n - 1920 ≡ n = omega arith in
    let er = c.axis_row.auto.row in
    let eu = c.edge_sum.auto.terms in
    let u = c.edge_sum.new.terms in (
      rw c.requires.1.a at c.edge_sum.ensures,
      rw (p, z, ← c.axis_row.ensures) (row_filled n q _ u _ c.requires.1.most c.requires.0 c.requires.2 (er ∙ search rules) (eu ∙ search rules)),
    )
