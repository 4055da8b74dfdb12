-- Lines of a buffer. Definitions only.
use Rattle.std.specs.Prelude.{Bool, false, cond, not, ◌||◌, ◌≡◌, List, ℕ, ◌+◌, ◌-◌, ◌≤◌, take, drop, eqb, ltb, ◌==◌}
use Rattle.std.specs.Prelude.{Option, Some, None, position, slice_range}
use Rattle.lines.specs.declared.Feed.{Feed}
use Rattle.lines.specs.declared.Found.{Found}
use Rattle.lines.specs.declared.Found.TheVariants.{Line, More, Done}

-- the first line feed of what is left, counted from its start
abbrev pub end_of : List ℕ → Feed → Option ℕ
end_of l f = position (λ b. b == 10) (slice_range l f.from f.total)

-- a line feed ends a line, and the next one starts behind it; the input's end ends the last one, where there is any of it
abbrev pub found_at : Feed → Option ℕ → Found
found_at f (Some k) = Line (f.from + k) (f.from + k + 1)
found_at f None = cond (not f.ended) More (cond (ltb f.from f.total || f.skip) (Line f.total f.total) Done)

abbrev pub found_of : List ℕ → Feed → Found
found_of l f = found_at f (end_of l f)

-- nothing read yet; and the line before a place answered
abbrev pub begun : Feed
begun = record { from = 0; total = 0; skip = false; ended = false }

abbrev pub passed : Feed → ℕ → Feed
passed f at = record { from = at; total = f.total; skip = false; ended = f.ended }

-- an unfinished line over the limit loses its start; of any other every byte is kept
abbrev pub is_gone : Feed → ℕ → Bool
is_gone f limit = f.skip || ltb limit (f.total - f.from)

abbrev pub kept_of : Feed → ℕ → ℕ
kept_of f limit = cond (is_gone f limit) 0 (f.total - f.from)

-- n bytes have come behind what is kept; none is the input's end
abbrev pub with_block : Feed → ℕ → ℕ → Feed
with_block f limit n = record { from = 0; total = kept_of f limit + n; skip = is_gone f limit; ended = eqb n 0 }

-- the first n bytes of m are those of l from `from` on
abbrev pub Front : ℕ → ℕ → List ℕ → List ℕ → Type 0
Front n from l m = take n m ≡ take n (drop from l)

-- a block came into the buffer l, which is m now: some n bytes, and in front of them what was kept
pub record Filled (f : Feed) (limit : ℕ) (l m : List ℕ) (r : Feed) : Type 0 where
  pub came : ℕ
  pub feed : r ≡ with_block f limit came
  pub front : Front (kept_of f limit) f.from l m

-- where a found line ends
abbrev pub FoundWithin : Feed → Found → Type 0
FoundWithin f (Line e next) = (f.from ≤ e) × (e ≤ next) × (next ≤ f.total)
FoundWithin f More = f.from ≤ f.total
FoundWithin f Done = f.from ≤ f.total
