-- What the contracts of crates/solver_errors speak of besides the definitions: both errors with their standing, by the two solutions and by what one
-- elimination gives for both. Definitions only.
use Rattle.std.specs.Prelude.{Option, Some, None, Float}
use Rattle.floats.specs.Rows.{Row, at}
use Rattle.solver_elimination.specs.declared.Sides.{Sides}
use Rattle.solver_errors.specs.declared.Estimate.{Estimate}
use Rattle.solver_errors.specs.StdErrors.{axis_error, unknown, both_errors, unfounded, standing_by, both_standing}

-- without an inverse PI, and not known
abbrev pub no_estimate : Estimate
no_estimate = record { errors = unknown; standing = unfounded }

abbrev pub both_estimated : Float → Float → Option Row → Option Row → Estimate
both_estimated ssr v s t = record { errors = both_errors v s t; standing = both_standing ssr s t }

-- by the entries on the inverse's diagonal
abbrev pub estimate_by : Float → Float → Option Sides → Estimate
estimate_by ssr v None = no_estimate
estimate_by ssr v (Some s) =
    let c2 = at s.first 2 in
    let c3 = at s.second 3 in
    record { errors = record { error1 = axis_error v c2; error2 = axis_error v c3 }; standing = standing_by ssr c2 c3 }
