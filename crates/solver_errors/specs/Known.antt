-- What is asked of errors that are known (docs/RULES.md, Known), said by the eliminations, their entries and the residual sum, and not by `standing`;
-- and what a known error then is: an estimate. Definitions only.
use Rattle.std.specs.Prelude.{◌≡◌, ℕ, ◌-◌, ◌<◌, T, pos, Option, Some, Float}
use Rattle.std.specs.Float.{binary32}
use Rattle.std.specs.Float.Ieee.{le, of_int}
use Rattle.std.specs.Float.Ieee.Scale.{finite}
use Rattle.floats.specs.Ops.{◌⊗◌, ◌⊘◌, nought, pi}
use Rattle.floats.specs.Library.{max, min, sqrt}
use Rattle.floats.specs.Rows.{Row, at}
use Rattle.solver_elimination.specs.Solve.{Matrix, solve4x4, unit2, unit3}

-- an elimination that succeeded, and a finite value k of its solution
pub record FiniteAt (k : ℕ) (s : Option Row) : Type 0 where
  pub solution : Row
  pub solved : s ≡ Some solution
  pub value : T (finite (at solution k))

-- more than four samples, a finite residual sum, and both eliminations with their entry on the diagonal
pub record KnownErrors (m : Matrix) (ssr : Float) (n : ℕ) : Type 0 where
  pub samples : 4 < n
  pub sum : T (finite ssr)
  pub first : FiniteAt 2 (solve4x4 m unit2)
  pub second : FiniteAt 3 (solve4x4 m unit3)

-- the Rust's residual_var
abbrev pub residual_var : Float → ℕ → Float
residual_var ssr n = ssr ⊘ of_int binary32 (pos (n - 4))

-- an error of the variance v and the entry c, before it is capped
abbrev pub uncapped : Float → Float → Float
uncapped v c = sqrt binary32 (v ⊗ max c nought)

-- the error x is an estimate, capped at PI: where it is PI, the estimate was PI or more, and no NaN
pub record Estimated (v c x : Float) : Type 0 where
  pub word : x ≡ min (uncapped v c) pi
  pub capped : x ≡ pi → T (le pi (uncapped v c))
