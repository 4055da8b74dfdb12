-- The standard errors that two eliminations give, and whether they are known: ring_fit/solver.rs, axis_std_errors. Definitions only.
use Rattle.std.specs.Prelude.{false, cond, ◌&&◌, ℕ, ◌-◌, pos, leb, Option, Some, None, Float}
use Rattle.std.specs.Float.{binary32}
use Rattle.std.specs.Float.Ieee.{of_int}
use Rattle.std.specs.Float.Ieee.Scale.{finite}
use Rattle.floats.specs.Ops.{◌⊗◌, ◌⊘◌, nought, pi}
use Rattle.floats.specs.Library.{max, min, sqrt}
use Rattle.floats.specs.Rows.{Row, at}
use Rattle.solver_elimination.specs.Solve.{Matrix, solve4x4, unit2, unit3}
use Rattle.solver_errors.specs.declared.Errors.{Errors}
use Rattle.solver_errors.specs.declared.Standing.{Standing}
use Rattle.solver_errors.specs.declared.Estimate.{Estimate}

-- the root of the variance times the entry of the inverse, capped at PI; a NaN entry counts as 0, a NaN root as PI
unfoldable pub axis_error : Float → Float → Float
axis_error v c = min (sqrt binary32 (v ⊗ max c nought)) pi

abbrev pub unknown : Errors
unknown = record { error1 = pi; error2 = pi }

unfoldable pub both_errors : Float → Option Row → Option Row → Errors
both_errors v None t = unknown
both_errors v (Some x) None = unknown
both_errors v (Some x) (Some y) = record { error1 = axis_error v (at x 2); error2 = axis_error v (at y 3) }

unfoldable pub axis_std_errors : Matrix → Float → ℕ → Errors
axis_std_errors m ssr n = cond (leb n 4) unknown (both_errors (ssr ⊘ of_int binary32 (pos (n - 4))) (solve4x4 m unit2) (solve4x4 m unit3))

-- ---- ours: whether those errors are known (docs/RULES.md, Known)
-- nothing is known of a start that is refused, of too few samples and of an elimination that failed
abbrev pub unfounded : Standing
unfounded = record { known = false }

-- the residual sum and the two entries on the inverse's diagonal are finite, before an entry below 0 is taken as 0 and an error is capped
unfoldable pub standing_by : Float → Float → Float → Standing
standing_by ssr c2 c3 = record { known = finite ssr && (finite c2 && finite c3) }

unfoldable pub both_standing : Float → Option Row → Option Row → Standing
both_standing ssr None t = unfounded
both_standing ssr (Some x) None = unfounded
both_standing ssr (Some x) (Some y) = standing_by ssr (at x 2) (at y 3)

unfoldable pub standing : Matrix → Float → ℕ → Standing
standing m ssr n = cond (leb n 4) unfounded (both_standing ssr (solve4x4 m unit2) (solve4x4 m unit3))

-- the Rust's numbers, with their standing
abbrev pub estimate : Matrix → Float → ℕ → Estimate
estimate m ssr n = record { errors = axis_std_errors m ssr n; standing = standing m ssr n }
