-- The rows of the refinement: disk_sector/search.rs, build_axis_rows; and what the slots of the code hold. Definitions only.
use Rattle.std.specs.Prelude.{◌≡◌, Bool, true, false, cond, List, ℕ, ◌+◌, ◌*◌, ◌<◌, ◌≤◌, length, get_or, set, replicate, Float, Option}
use Rattle.std.specs.Float.Ieee.{nan, lt, eq}
use Rattle.floats.specs.Ops.{◌⊕◌, nought}
use Rattle.loops.specs.Loops.{tab}
use Rattle.floats.specs.Rows.{Row, at}
use Rattle.data.specs.Data.{DiskData, max_tanh_pixels, row_of}
use Rattle.candidates.specs.Candidates.{combine_edge_pair}
use Rattle.score_edges.specs.Edges.{refined_sum}
use Rattle.score.specs.Score.{axis_row, score_pair_cached}
use Rattle.score.specs.declared.Fit.{Fit}
use Rattle.search_rows.specs.declared.Slot.{Slot}
use Rattle.search_rows.specs.declared.Slots.{Slots}

-- ---- build_axis_rows: the rows and the edge sums of base + offsets[k], k from 0 to 2
pub record AxisRows : Type 0 where
  pub rows : List Row
  pub edges : Row

unfoldable pub build_axis_rows : DiskData → Float → Row → Float → AxisRows
build_axis_rows D base offsets width =
    let theta : ℕ → Float = λ k. base ⊕ at offsets k in
    record {
      rows = tab (λ k. axis_row D.n D.xs D.ys (theta k) width) 3;
      edges = tab (λ k. refined_sum D.n D.grad_angles D.grad_weights (theta k)) 3;
    }

-- the first k rows of a buffer
abbrev pub rows_of : ℕ → Row → ℕ → List Row
rows_of n rows k = tab (row_of n rows) k

-- ---- the code's buffer: six rows and a row of scratch
abbrev pub rows_room : ℕ
rows_room = 7 * max_tanh_pixels

-- what a row and its edge sum are made of: four slices of one length, which is not above 320
pub record Outlined (xs ys grad_angles grad_weights : Row) : Type 0 where
  pub most : length xs ≤ max_tanh_pixels
  pub y : length ys ≡ length xs
  pub a : length grad_angles ≡ length xs
  pub w : length grad_weights ≡ length xs

-- row q is r now, and the other rows, but for the scratch, are as they were
pub record RowFilled (n q : ℕ) (r rows rows' : Row) : Type 0 where
  pub is : rows_of n rows' 6 ≡ set (rows_of n rows 6) q r
  pub room : length rows' ≡ length rows

-- ---- the slots
abbrev pub no_slot : Slot
no_slot = record { key = nought; edge = nought }

abbrev pub no_slots : Float → Slots
no_slots total = record { held = replicate 6 no_slot; total = total }

-- what stands past the end of the slots
abbrev pub beyond : Slot
beyond = record { key = nan; edge = nan }

abbrev pub key_at : Slots → ℕ → Float
key_at slots q = (get_or slots.held q beyond).key

abbrev pub edge_at : Slots → ℕ → Float
edge_at slots q = (get_or slots.held q beyond).edge

-- above 0 equal numbers are one value, so that the key tells the row
unfoldable pub is_same : Float → Float → Bool
is_same key theta = cond (eq key theta) (lt nought theta) false

-- the slot of an axis that has theta, or else the one to fill; `from` is the axis's first
unfoldable pub slot_of : Slots → ℕ → Float → Float → ℕ → ℕ
slot_of slots from base theta k =
    cond (is_same (key_at slots from) theta) from
    (cond (is_same (key_at slots (from + 1)) theta) (from + 1)
    (cond (is_same (key_at slots (from + 2)) theta) (from + 2)
    (cond (eq (key_at slots (from + k)) base) (from + 1) (from + k))))

-- the slots and the six rows with theta in slot q
unfoldable pub held_slots : Row → Row → Row → Slots → Float → ℕ → Slots
held_slots xs angles weights slots theta q =
    let edge = refined_sum (length xs) angles weights theta in
    cond (is_same (key_at slots q) theta) slots
    (record { held = set slots.held q (record { key = theta; edge = edge }); total = slots.total })

unfoldable pub held_rows : Row → Row → Float → Slots → Row → Float → ℕ → List Row
held_rows xs ys width slots rows theta q =
    cond (is_same (key_at slots q) theta) (rows_of (length xs) rows 6)
    (set (rows_of (length xs) rows 6) q (axis_row (length xs) xs ys theta width))

-- theta stands in slot q: it is the key, and the row and the edge sum are its own
pub record Stands (xs ys angles weights : Row) (theta width : Float) (slots : Slots) (rows : Row) (q : ℕ) : Type 0 where
  pub key : key_at slots q ≡ theta
  pub row : row_of (length xs) rows q ≡ axis_row (length xs) xs ys theta width
  pub edge : edge_at slots q ≡ refined_sum (length xs) angles weights theta

-- where a key is above 0, that angle stands in its slot
pub record SlotsKept (xs ys angles weights : Row) (width : Float) (slots : Slots) (rows : Row) : Type 0 where
  pub places : length slots.held ≡ 6
  pub room : length rows ≡ rows_room
  pub slot :
      (q : ℕ) → q < 6 → lt nought (key_at slots q) ≡ true → Stands xs ys angles weights (key_at slots q) width slots rows q

-- the slots and the rows after theta was asked for in slot q; so it stands there, and whatever stood in another slot still does
pub record SlotHeld
    (xs ys angles weights : Row) (theta width : Float) (slots : Slots) (rows : Row) (slots' : Slots) (rows' : Row) (q : ℕ) : Type 0 where
  pub slots_are : slots' ≡ held_slots xs angles weights slots theta q
  pub rows_are : rows_of (length xs) rows' 6 ≡ held_rows xs ys width slots rows theta q
  pub total : slots'.total ≡ slots.total
  pub kept : SlotsKept xs ys angles weights width slots' rows'
  pub here : Stands xs ys angles weights theta width slots' rows' q
  pub still :
      (j : ℕ) (t : Float) → j < 6 → (j ≡ q → ⊥) → Stands xs ys angles weights t width slots rows j →
      Stands xs ys angles weights t width slots' rows' j

-- the axes in the slots i and j, scored from what stands there
unfoldable pub held_score : DiskData → Slots → Float → ℕ → ℕ → Row → Option Fit
held_score D slots width i j rows =
    let edge_score = combine_edge_pair (edge_at slots i) (edge_at slots j) slots.total in
    score_pair_cached D (key_at slots i) (key_at slots j) width edge_score (row_of D.n rows i) (row_of D.n rows j)
