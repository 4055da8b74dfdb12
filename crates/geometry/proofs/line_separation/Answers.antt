-- The same under its other name. Assumes nothing.
use borrow.Author.Rules.{rules}
use Rattle.geometry.specs.Geometry as G
use Rattle.geometry.proofs.line_separation.Goals as goal

pub returns : goal.returns
unfolding G.line_separation
returns c = search rules
