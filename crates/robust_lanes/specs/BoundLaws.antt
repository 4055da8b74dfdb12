-- What a best seed keeps is an equation of floats, with a seed or without one: so it has one proof at most. Assumes nothing.
use Rattle.std.specs.Prelude.{Option, Some, None, Float}
use Rattle.std.proofs.Props.{props}
use Rattle.seed.specs.declared.SeedCandidate.{SeedCandidate}
use Rattle.robust_lanes.specs.Lanes.{BestBound}

pub bound_once : (o : Option SeedCandidate) (x : Float) → IsProp (BestBound o x)
bound_once None x = Prim.hlevel props
bound_once (Some s) x = Prim.hlevel props
