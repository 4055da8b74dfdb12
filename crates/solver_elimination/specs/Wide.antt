-- What the code's elimination carries: the matrix with two right sides beside it, and how it carries a system with one.
-- Definitions only.
use Rattle.std.specs.Prelude.{◌≡◌, Bool, ℕ, ◌<◌, get_or, Option, Some, None, is_none, Float}
use Rattle.std.specs.Option.{option_map}
use mathlib.Core.List.{[], ◌∷◌, Forall₂}
use Rattle.floats.specs.Ops.{nought}
use Rattle.floats.specs.Rows.{Row, at}
use Rattle.loops.specs.Loops.{iter}
use Rattle.solver_elimination.specs.declared.Sides.{Sides}
use Rattle.solver_elimination.specs.Solve.{Matrix, Elim, going, column}

-- a row of the matrix, its entries of two right sides, and two places that lie idle
abbrev pub widened_row : Row → Float → Float → Row
widened_row r b c = at r 0 ∷ at r 1 ∷ at r 2 ∷ at r 3 ∷ b ∷ c ∷ nought ∷ nought ∷ []

unfoldable pub widened : Matrix → Row → Row → Matrix
widened a b c =
    widened_row (get_or a 0 []) (at b 0) (at c 0) ∷ widened_row (get_or a 1 []) (at b 1) (at c 1) ∷
    widened_row (get_or a 2 []) (at b 2) (at c 2) ∷ widened_row (get_or a 3 []) (at b 3) (at c 3) ∷ []

-- a right side, by its entries
abbrev pub right_side : Float → Float → Float → Float → Row
right_side b0 b1 b2 b3 = b0 ∷ b1 ∷ b2 ∷ b3 ∷ []

abbrev pub eliminated : Matrix → Elim
eliminated m = iter column (going m) 4

abbrev pub failed : Option Row → Bool
failed = is_none

-- two solutions side by side
unfoldable pub sides : Option Row → Option Row → Option Sides
sides None t = None
sides (Some x) None = None
sides (Some x) (Some y) = Some (record { first = x; second = y })

abbrev pub first_side : Option Sides → Option Row
first_side = option_map (λ s. s.first)

-- ---- a system that a wider one carries: behind the same left side its column c stands there as column d
module _ (c d : ℕ) where
  pub record RowCarried (r s : Row) : Type 0 where
    pub left : (j : ℕ) → j < 4 → at r j ≡ at s j
    pub right : at r c ≡ at s d

  abbrev pub Carried : Matrix → Matrix → Type 0
  Carried = Forall₂ RowCarried
