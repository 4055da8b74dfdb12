-- What the contracts of crates/robust_lanes speak of: four pairs of the grid side by side, and the best so far. Definitions only.
use Rattle.std.specs.Prelude.{◌≡◌, List, [], ◌∷◌, ℕ, ◌+◌, ◌≤◌, get_or, Option, Some, None, Float}
use Rattle.std.specs.Float.{nan, binary32}
use Rattle.floats.specs.Ops.{◌⊕◌, ◌⊖◌, ◌⊗◌, ◌⊘◌, nought}
use Rattle.floats.specs.Rows.{Row, at}
use Rattle.floats.specs.Library.{max, sqrt}
use Rattle.loops.specs.Loops.{iter}
use Rattle.seed.specs.Seed.{zeros, summed_by, insert_seed_candidate}
use Rattle.seed.specs.declared.Sums.{Sums}
use Rattle.seed.specs.declared.SeedCandidate.{SeedCandidate}
use Rattle.robust_lanes.specs.declared.Lanes.{Lanes}
use Rattle.robust_lanes.specs.declared.Models.{Models}

-- so many places of a sample's row are filled: one for each of the grid's 23 angles, and one that evens them out
abbrev pub grid_places : ℕ
grid_places = 24

-- the grid's rows, one for each sample
abbrev pub GridRows : Type 0
GridRows = List Row

-- the factor of sample i at the angle a
abbrev pub factor_at : GridRows → ℕ → ℕ → Float
factor_at h i a = at (get_or h i []) a

-- ---- four pairs
-- the sums of the angles a and b
unfoldable pub sums_at : ℕ → Row → GridRows → ℕ → ℕ → Sums
sums_at n centered h a b = iter (λ i. summed_by (at centered i) (factor_at h i a) (factor_at h i b)) zeros n

abbrev pub four : (ℕ → Float) → Row
four f = f 0 ∷ f 1 ∷ f 2 ∷ f 3 ∷ []

-- of the angle a with b, b + 1, b + 2 and b + 3
unfoldable pub lane_sums : ℕ → Row → GridRows → ℕ → ℕ → Lanes
lane_sums n centered h a b =
    record {
      q_sum = four (λ k. (sums_at n centered h a (b + k)).q_sum);
      q2_sum = four (λ k. (sums_at n centered h a (b + k)).q2_sum);
      num = four (λ k. (sums_at n centered h a (b + k)).num);
    }

abbrev pub times : Float → Row → Row
times x y = four (λ k. x ⊗ at y k)

abbrev pub plus : Row → Row → Row
plus x y = four (λ k. at x k ⊕ at y k)

abbrev pub squared : Row → Row
squared y = four (λ k. at y k ⊗ at y k)

-- a sample v more, which has the factor x at the angle a and the factors y at the other four
abbrev pub lanes_added : Lanes → Float → Float → Row → Lanes
lanes_added s v x y =
    let q = times x y in
    record { q_sum = plus s.q_sum q; q2_sum = plus s.q2_sum (squared q); num = plus s.num (times v q) }

-- what four pairs bring to their scores, from their sums; n is the number of samples as a float
abbrev pub models_of : Lanes → Float → Models
models_of s n =
    let mean = four (λ k. at s.q_sum k ⊘ n) in
    record { q_mean = mean; denom = four (λ k. at s.q2_sum k ⊖ at s.q_sum k ⊗ at mean k); num = s.num }

-- what the root of a pair's rms is taken of
unfoldable pub mean_square : Float → Float → Float → Float → Float
mean_square n centered_ss num denom = max (centered_ss ⊖ num ⊗ num ⊘ denom) nought ⊘ n

abbrev pub mean_squares : Models → Float → Float → Row
mean_squares m n centered_ss = four (λ k. mean_square n centered_ss (at m.num k) (at m.denom k))

-- ---- the best so far: ring_fit/robust.rs, a pair that scored is inserted
unfoldable pub inserted : Option SeedCandidate → Option SeedCandidate → Option SeedCandidate
inserted top None = top
inserted top (Some c) = insert_seed_candidate top c

-- x is what the root of a seed's rms was taken of; where there is no seed nothing is said
abbrev pub Squared : Float → Option SeedCandidate → Type 0
Squared x None = 0 ≤ 0
Squared x (Some s) = s.rms ≡ sqrt binary32 x

-- with a seed its bound is kept, without one the bound is NaN, and skips nothing
abbrev pub BestBound : Option SeedCandidate → Float → Type 0
BestBound None x = x ≡ nan
BestBound (Some s) x = s.rms ≡ sqrt binary32 x
