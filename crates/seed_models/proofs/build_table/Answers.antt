-- The grid of the angles, and the words that are made of it. Assumes nothing.
use mathlib.Core.Path.{◌∙◌}
use Rattle.seed_models.specs.WordLaws.{grid_words}
use Rattle.seed_models.proofs.build_table.Goals as goal

pub returns : goal.returns
returns c =
    let words = c.fill_table.ensures in
    words ∙ grid_words _ _ _ _ c.requires.0 c.prepare.ensures c.fill_grid.ensures
