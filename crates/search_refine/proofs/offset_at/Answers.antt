-- Two elements of the three offsets, by the place of t in the square: the law lists them all. Assumes nothing.
use Rattle.search_refine.specs.RefineLaws.{offset_at}
use Rattle.search_refine.proofs.offset_at.Goals as goal

pub returns : goal.returns
returns c = rw (c.place-k.ensures.0, c.to_radians-step.ensures) (offset_at _ c.requires)
