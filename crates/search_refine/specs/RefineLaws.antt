-- How the code finds the 24 offsets, one a turn: they are the definition's list. Assumes nothing.
use Rattle.std.specs.Prelude.{◌≡◌, List, [], ◌∷◌, length, get_or, Float}
use Rattle.std.proofs.Math.Path.{refl}
use Rattle.std.proofs.Common.{sym, ap, ◌∙◌}
use Prim.Native.Nat.{ℕ, ◌+◌, ◌/◌, ◌%◌, ◌<◌}
use Rattle.std.specs.Float.Ieee.{eq, mul, neg, of_bits}
use Rattle.floats.specs.Ops.{lit, nought}
use Rattle.floats.specs.Library.{to_radians}
use Rattle.loops.specs.Loops.{tab}
use Rattle.loops.proofs.TabLaws.{tab_at, tab_length}
use Rattle.floats.specs.Rows.{Row, at}
use Rattle.search_refine.specs.declared.Offset.{Offset}
use Rattle.search_refine.specs.Refine.{by, unless_middle, beside, offsets_around, offsets, neighbours, nowhere}

-- ---- how the code finds the offsets of neighbour t: eight a step, the middle of the square passed over
abbrev pub place_of : ℕ → ℕ
place_of t = t % 8 + t % 8 / 4

abbrev step_at : ℕ → Float
step_at t = to_radians (at (lit 0x3f80_0000 ∷ lit 0x3f00_0000 ∷ lit 0x3e80_0000 ∷ []) (t / 8))

abbrev sides : Float → Row
sides step = neg step ∷ nought ∷ step ∷ []

abbrev offset_by : ℕ → Offset
offset_by t = by (at (sides (step_at t)) (place_of t / 3)) (at (sides (step_at t)) (place_of t % 3))

all_offsets : tab offset_by neighbours ≡ offsets
unfolding tab offsets offsets_around beside unless_middle to_radians eq mul neg of_bits
all_offsets = refl

pub offset_at : (t : ℕ) → t < neighbours → offset_by t ≡ get_or offsets t nowhere
offset_at t h = sym (tab_at offset_by nowhere neighbours t h) ∙ ap (λ (l : List Offset). get_or l t nowhere) all_offsets

pub offsets_are : length offsets ≡ neighbours
offsets_are = ap length (sym all_offsets) ∙ tab_length offset_by neighbours
