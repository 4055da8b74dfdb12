-- What the contracts of crates/seed_models speak of besides the definitions: a model from the grid's buffer, and the lanes of a block. Definitions only.
use Rattle.std.specs.Prelude.{ℕ, ◌+◌, ◌*◌, ◌≤◌, ◌<◌, Option, Some, None, Float}
use Rattle.floats.specs.Ops.{◌⊗◌}
use Rattle.floats.specs.Rows.{Row, at, count}
use Rattle.loops.specs.Loops.{iter}
use Rattle.robust_lanes.specs.Lanes.{GridRows, factor_at, four, times, plus, lane_sums, models_of}
use Rattle.robust_lanes.specs.declared.Models.{Models}
use Rattle.seed.specs.declared.SeedCandidate.{SeedCandidate}
use Rattle.robust_grid.specs.Grid.{grid_angle}
use Rattle.robust_grid.specs.Places.{block_pair, blocks, lanes_tried}
use Rattle.seed_models.specs.declared.QSums.{QSums}
use Rattle.seed_models.specs.Models.{SeedModel, no_qSums, q_summed, model_of, num_of}
use Rattle.seed_models.specs.Words.{ring_samples}

-- the product of the factors at the angles a and b, of sample i
abbrev pub q_at : GridRows → ℕ → ℕ → ℕ → Float
q_at h a b i = factor_at h i a ⊗ factor_at h i b

unfoldable pub q_sums_at : ℕ → GridRows → ℕ → ℕ → QSums
q_sums_at n h a b = iter (λ i. q_summed (q_at h a b i)) no_qSums n

abbrev pub model_from : GridRows → ℕ → ℕ → SeedModel
model_from h a b = model_of ring_samples (q_at h a b) (grid_angle a) (grid_angle b)

-- what a block's four models bring to their scores, from the first n samples
abbrev pub num_in : ℕ → Row → Row → ℕ → Float
num_in n block centered k = num_of n centered (λ i. at block (8 + 4 * i + k))

abbrev pub lanes_in : ℕ → Row → Row → Models
lanes_in n block centered =
    record { q_mean = four (λ k. at block k); denom = four (λ k. at block (4 + k)); num = four (λ k. num_in n block centered k) }

abbrev pub num_added : Models → Float → Row → Models
num_added m v q = record { q_mean = m.q_mean; denom = m.denom; num = plus m.num (times v q) }

-- what the four pairs of the block j bring to their scores, from the grid's rows
abbrev pub grid_models : ℕ → GridRows → Row → ℕ → Models
grid_models n rows centered j = let p = block_pair j in models_of (lane_sums n centered rows p.a p.b) (count n)

-- the walk over the blocks: n is the number of samples as a float, and block j has the models `models j`
unfoldable pub walk : Float → Float → Float → (ℕ → Models) → Option SeedCandidate
walk n centered_ss mean models = iter (λ j. lanes_tried n centered_ss mean (models j) (block_pair j)) None blocks

-- the number of a table that is found is below k
abbrev pub FoundBelow : ℕ → Option ℕ → Type 0
FoundBelow k (Some t) = t < k
FoundBelow k None = 0 ≤ k
