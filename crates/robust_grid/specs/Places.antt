-- What the contracts of crates/robust_grid speak of: the grid's factors, a row for each sample, and the pairs that are tried.
-- Definitions only.
use Rattle.std.specs.Prelude.{◌≡◌, cond, [], ℕ, ◌+◌, ◌<◌, leb, eqb, take, get_or, Option, Float}
use Rattle.floats.specs.Rows.{Row, at, count}
use Rattle.elementary.specs.Elementary.{sin_cos}
use Rattle.loops.specs.Loops.{iter, tab}
use Rattle.seed.specs.Seed.{scored, scored_from}
use Rattle.seed.specs.declared.SeedCandidate.{SeedCandidate}
use Rattle.robust_lanes.specs.Lanes.{grid_places, GridRows, inserted, sums_at}
use Rattle.robust_lanes.specs.declared.Models.{Models}
use Rattle.robust_grid.specs.declared.Pair.{Pair}
use Rattle.robust_grid.specs.Grid.{grid_angle, factor}

-- ---- the buffer
-- the sines and cosines of the grid's angles, and of one more
pub record Axes (sines cosines : Row) : Type 0 where
  pub s : sines ≡ tab (λ a. (sin_cos (grid_angle a)).s) grid_places
  pub c : cosines ≡ tab (λ a. (sin_cos (grid_angle a)).c) grid_places

-- a sample's factors from such rows, and the factors themselves
unfoldable pub row_from : Float → Float → Row → Row → Row
row_from s c sines cosines = tab (λ a. factor s c (record { s = at sines a; c = at cosines a })) grid_places

unfoldable pub sample_row : Float → Float → Row
sample_row s c = tab (λ a. factor s c (sin_cos (grid_angle a))) grid_places

-- the 24 places of sample i that are filled
abbrev pub sample_row_at : GridRows → ℕ → Row
sample_row_at h i = take grid_places (get_or h i [])

-- the first k samples have their factors
pub record Grid (sphi cphi : Row) (h : GridRows) (k : ℕ) : Type 0 where
  pub row : (i : ℕ) → i < k → sample_row_at h i ≡ sample_row (at sphi i) (at cphi i)

-- ---- the pairs that are tried: of an angle a with a + 2 up to its last, by fours
abbrev pub last_of : ℕ → ℕ
last_of a = cond (eqb a 0) 21 22

abbrev pub first_block : Pair
first_block = record { a = 0; b = 2 }

-- the next four of the same angle a, or the first four of the next
abbrev pub next_block : Pair → Pair
next_block p = cond (leb (p.b + 4) (last_of p.a)) (record { a = p.a; b = p.b + 4 }) (record { a = p.a + 1; b = p.a + 3 })

unfoldable pub block_pair : ℕ → Pair
block_pair j = iter (λ i. next_block) first_block j

abbrev pub blocks : ℕ
blocks = 65

-- a with b, if they are allowed
unfoldable pub step_at : {A : Type 0} → (ℕ → ℕ → A → A) → ℕ → ℕ → A → A
step_at step a b x = cond (leb b (last_of a)) (step a b x) x

-- a with b to b + 3
unfoldable pub block_steps : {A : Type 0} → (ℕ → ℕ → A → A) → Pair → A → A
block_steps step p x = iter (λ k. step_at step p.a (p.b + k)) x 4

-- the score of a lane of four pairs, and the four in their order
abbrev pub lane_score : Float → Float → Float → Models → Pair → ℕ → Option SeedCandidate
lane_score n centered_ss mean m p k =
    scored_from n centered_ss mean (at m.num k) (at m.q_mean k) (at m.denom k) (grid_angle p.a) (grid_angle (p.b + k))

unfoldable pub lanes_tried : Float → Float → Float → Models → Pair → Option SeedCandidate → Option SeedCandidate
lanes_tried n centered_ss mean m p top =
    iter (λ k top. cond (leb (p.b + k) (last_of p.a)) (inserted top (lane_score n centered_ss mean m p k)) top) top 4

-- the score of a pair, from the buffer
unfoldable pub score_at : ℕ → GridRows → Row → Float → Float → ℕ → ℕ → Option SeedCandidate
score_at n h centered centered_ss mean a b = scored (count n) centered_ss mean (sums_at n centered h a b) (grid_angle a) (grid_angle b)
