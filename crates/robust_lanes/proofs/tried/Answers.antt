-- The candidate takes the place or leaves it, and with it goes what its root was taken of. Assumes nothing.
use Rattle.robust_lanes.specs.SkipLaws.{tried_nothing, tried_first, tried_lower, tried_not}
use Rattle.robust_lanes.proofs.tried.Goals as goal

pub returns-in_default : goal.returns-in_default
returns-in_default c = tried_nothing _ _ c.in_default.is

pub returns-in_default-top : goal.returns-in_default-top
returns-in_default-top c = tried_first _ _ _ c.in-Some.is c.in_default-top.is

pub returns-then-s-d : goal.returns-then-s-d
returns-then-s-d c = tried_lower _ _ _ c.in-Some.is _ c.in-Some-top.is c.if-s-d.true

pub returns : goal.returns
returns c = tried_not _ _ _ c.in-Some.is _ c.in-Some-top.is c.if-s-d.false
