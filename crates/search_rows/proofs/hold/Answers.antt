-- Where the key is theta its row stands there already, and else the slot is filled and theta becomes its key. Assumes nothing.
use mathlib.Core.Path.{sym, ◌∙◌}
use Rattle.search_rows.specs.RowsLaws.{held_here, held_filled}
use Rattle.search_rows.proofs.hold.Goals as goal

pub returns-then-is_same : goal.returns-then-is_same
returns-then-is_same c =
    let same = c.is_same.ensures in
    held_here _ c.requires.0 c.requires.2 (sym same.0 ∙ c.if-is_same.true) (same.1 c.if-is_same.true)

pub returns : goal.returns
returns c =
    held_filled _ _ c.requires.0 c.requires.2 (sym c.is_same.ensures.0 ∙ c.if-is_same.false) c.fill_row-edge.ensures.0 c.fill_row-edge.ensures.1
