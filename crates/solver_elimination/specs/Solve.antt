-- Elimination of a 4 by 4 system: ring_fit/solver.rs. A matrix is the list of its rows. Definitions only.
use Rattle.std.specs.Prelude.{Bool, cond, not, ◌||◌, ℕ, ◌+◌, get_or, set, eqb, Option, Some, None, Float}
use mathlib.Core.List.{List, [], ◌∷◌, map, zip_with}
use Rattle.std.specs.Float.{nan}
use Rattle.std.specs.Float.Ieee.{lt, eq}
use Rattle.std.specs.Float.Ieee.Scale.{finite}
use Rattle.floats.specs.Ops.{◌⊖◌, ◌⊗◌, ◌⊘◌, lit, nought, one}
use Rattle.floats.specs.Library.{abs}
use Rattle.floats.specs.Rows.{Row, at}
use Rattle.loops.specs.Loops.{iter, range}

abbrev pub Matrix : Type 0
Matrix = List Row

abbrev pub entry : Matrix → ℕ → ℕ → Float
entry m k i = get_or (get_or m k []) i nan

-- ---- solver.rs: solve_4x4
-- the matrix with the right-hand side as a fifth column
abbrev pub augmented_row : Row → Float → Row
augmented_row r b = at r 0 ∷ at r 1 ∷ at r 2 ∷ at r 3 ∷ b ∷ []

unfoldable pub augmented : Matrix → Row → Matrix
augmented a b =
    augmented_row (get_or a 0 []) (at b 0) ∷ augmented_row (get_or a 1 []) (at b 1) ∷ augmented_row (get_or a 2 []) (at b 2) ∷
    augmented_row (get_or a 3 []) (at b 3) ∷ []

-- row k in the place of the best so far, if its entry of column i is larger in size by strict >: a NaN on the diagonal stays
unfoldable pub larger : Matrix → ℕ → ℕ → ℕ → ℕ
larger m i k best = cond (lt (abs (entry m best i)) (abs (entry m k i))) k best

unfoldable pub pivot_row : Matrix → ℕ → ℕ
pivot_row m i = range (larger m i) i (i + 1) 4

-- a pivot that is not finite, or below 1e-20 in size
unfoldable pub unusable : Float → Bool
unusable p = not (finite p) || lt (abs p) (lit 0x1e3c_e508)

-- every entry of the row, however many right sides there are
abbrev pub scaled : Row → Float → Row
scaled r f = map (λ v. v ⊗ f) r

-- row r less f times the pivot row p, entry by entry; a row whose factor is 0 is skipped
unfoldable pub reduced : Row → Row → Float → Row
reduced r p f = cond (eq f nought) r (zip_with (λ rv pv. rv ⊖ f ⊗ pv) r p)

unfoldable pub cleared : ℕ → Row → ℕ → Row → Row
cleared i p k r = cond (eqb k i) r (reduced r p (at r i))

unfoldable pub clear : Matrix → ℕ → Row → Matrix
clear m i p = iter (λ k m. set m k (cleared i p k (get_or m k []))) m 4

-- the row that column i takes its pivot from
unfoldable pub top_row : Matrix → ℕ → Row
top_row m i = get_or m (pivot_row m i) []

-- the matrix after column i: the pivot's row comes to the diagonal, is scaled to 1 there, and clears the column in the others
unfoldable pub columned : Matrix → ℕ → Matrix
columned m i =
    let top = top_row m i in
    let row = scaled top (one ⊘ at top i) in
    clear (set (set (set m i top) (pivot_row m i) (get_or m i [])) i row) i row

-- the matrix on its way, or no more
pub data Elim : Type 0 where
  gone : Elim
  going : Matrix → Elim

unfoldable pub stopped : Matrix → ℕ → Bool
stopped m i = unusable (at (top_row m i) i)

abbrev pub column : ℕ → Elim → Elim
column i gone = gone
column i (going m) = cond (stopped m i) gone (going (columned m i))

-- a solution has four values; an elimination that failed has none
abbrev pub column_of : ℕ → Elim → Option Row
column_of c gone = None
column_of c (going m) = Some (entry m 0 c ∷ entry m 1 c ∷ entry m 2 c ∷ entry m 3 c ∷ [])

abbrev pub last_column : Elim → Option Row
last_column = column_of 4

unfoldable pub solve4x4 : Matrix → Row → Option Row
solve4x4 a b = last_column (iter column (going (augmented a b)) 4)

-- ---- the two right sides of axis_std_errors
abbrev pub unit2 : Row
unit2 = nought ∷ nought ∷ one ∷ nought ∷ []

abbrev pub unit3 : Row
unit3 = nought ∷ nought ∷ nought ∷ one ∷ []
