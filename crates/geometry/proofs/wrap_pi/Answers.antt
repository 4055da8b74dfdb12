-- One call; the range is the definition's. Assumes nothing.
use Rattle.geometry.specs.Geometry as G
use Rattle.geometry.specs.GeometryLaws.{wrap_pi_between}
use borrow.Author.Rules.{rules}
use Rattle.geometry.proofs.wrap_pi.Goals as goal

pub returns : goal.returns
unfolding G.wrap_pi
returns c = record { value = search rules; wrapped_between = rw c.rem_euclid_pi.ensures (wrap_pi_between _ (search rules)) }
