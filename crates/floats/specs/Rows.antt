-- Rows of values, as slices and arrays stand in the definitions, and a count as an f32. Definitions only.
use Rattle.std.specs.Prelude.{ℕ, List, pos, slice_index_or, Float}
use Rattle.std.specs.Float.{nan, binary32}
use Rattle.std.specs.Float.Ieee.{of_int}

abbrev pub Row : Type 0
Row = List Float

abbrev pub at : Row → ℕ → Float
at r i = slice_index_or r i nan

-- n `as f32`
abbrev pub count : ℕ → Float
count n = of_int binary32 (pos n)
