-- The remainder's double says which of the two quotients is nearer, and a tie takes the even one. Assumes nothing.
use Rattle.floats.specs.NarrowLaws.{closest_up, closest_tie, closest_down, not_more}
use Rattle.narrowing.proofs.rounded.Goals as goal

pub returns-then-r-d : goal.returns-then-r-d
returns-then-r-d c = closest_up c.args.m c.args.d c.if-r-d.true

pub returns-then-r-d-2 : goal.returns-then-r-d-2
returns-then-r-d-2 c = closest_tie c.args.m c.args.d c.if-r-d-2.true

pub returns : goal.returns
returns c = closest_down c.args.m c.args.d (not_more _ _ c.if-r-d.false c.if-r-d-2.false)
