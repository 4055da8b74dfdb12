-- Seed models for a ring that does not move: ring_fit/seed.rs, and robust_grid_fit_cached of robust.rs up to the best seed, both under the feature `std`.
-- The Rust has the models of its own ring, RING5; here they are of angles that a caller supplies, and several tables stand side by side. What both ways
-- share, the tail from num to a kept seed and the insertion, is crates/seed/specs/Seed.antt. Definitions only. `n` is the number of samples throughout.
use Rattle.std.specs.Prelude.{Bool, true, cond, ◌&&◌, List, [], ◌∷◌, ◌++◌, ℕ, zero, suc, ◌+◌, length, get_or, Option, Some, None, Float}
use Rattle.std.specs.Float.Ieee.{le}
use Rattle.floats.specs.Ops.{◌⊕◌, ◌⊖◌, ◌⊗◌, ◌⊘◌, lit, nought}
use Rattle.floats.specs.Rows.{Row, at, count}
use Rattle.floats.specs.Library.{abs}
use Rattle.loops.specs.Loops.{iter, tab}
use Rattle.solver.specs.Solver.{sines, cosines}
use Rattle.seed.specs.Seed.{flat, seed_from}
use Rattle.seed.specs.declared.SeedCandidate.{SeedCandidate}
use Rattle.robust_lanes.specs.Lanes.{inserted}
use Rattle.robust_grid.specs.Grid.{grid_angle, grid_row, all_pairs}
use Rattle.seed_models.specs.declared.QSums.{QSums}

-- ---- seed.rs: SeedModel
pub record SeedModel : Type 0 where
  pub theta1 : Float
  pub theta2 : Float
  pub q_mean : Float
  pub q_centered : Row
  pub denom : Float

-- ---- seed.rs: build_canonical_seed_models
abbrev pub no_qSums : QSums
no_qSums = record { q_sum = nought; q2_sum = nought }

abbrev pub q_summed : Float → QSums → QSums
q_summed q s = record { q_sum = s.q_sum ⊕ q; q2_sum = s.q2_sum ⊕ q ⊗ q }

-- q is the row of products; it is centred after the sums
unfoldable pub model_of : ℕ → (ℕ → Float) → Float → Float → SeedModel
model_of n q theta1 theta2 =
    let s = iter (λ i. q_summed (q i)) no_qSums n in
    let q_mean = s.q_sum ⊘ count n in
    let denom = s.q2_sum ⊖ s.q_sum ⊗ q_mean in
    record { theta1 = theta1; theta2 = theta2; q_mean = q_mean; q_centered = tab (λ i. q i ⊖ q_mean) n; denom = denom }

-- a flat one is left out
abbrev pub model_pushed : List SeedModel → SeedModel → List SeedModel
model_pushed models m = cond (flat m.denom) models (models ++ (m ∷ []))

unfoldable pub model_at : ℕ → Row → ℕ → ℕ → SeedModel
model_at n ring_phi a b =
    let h : ℕ → Row = grid_row n (sines n ring_phi) (cosines n ring_phi) in
    model_of n (λ i. at (h a) i ⊗ at (h b) i) (grid_angle a) (grid_angle b)

unfoldable pub seed_models : ℕ → Row → List SeedModel
seed_models n ring_phi = all_pairs (λ a b models. model_pushed models (model_at n ring_phi a b)) []

-- ---- seed.rs: score_cached_seed_model
abbrev pub num_of : ℕ → Row → (ℕ → Float) → Float
num_of n centered q = iter (λ i num. num ⊕ at centered i ⊗ q i) nought n

unfoldable pub score_cached_seed_model : ℕ → Row → Float → Float → SeedModel → Option SeedCandidate
score_cached_seed_model n centered centered_ss mean m =
    seed_from (count n) centered_ss mean (num_of n centered (at m.q_centered)) m.q_mean m.denom m.theta1 m.theta2

-- ---- robust.rs: robust_grid_fit_cached, the seed of least residual over the models, the earlier on a tie
unfoldable pub best_from : (SeedModel → Option SeedCandidate) → Option SeedCandidate → List SeedModel → Option SeedCandidate
best_from score top [] = top
best_from score top (m ∷ models) = best_from score (inserted top (score m)) models

unfoldable pub best_cached : ℕ → Row → Float → Float → List SeedModel → Option SeedCandidate
best_cached n centered centered_ss mean models = best_from (score_cached_seed_model n centered centered_ss mean) None models

-- ---- seed.rs: is_canonical_ring_phi; 1e-6
abbrev pub angle_near : Float → Float → Bool
angle_near got want = le (abs (got ⊖ want)) (lit 0x3586_37bd)

unfoldable pub is_ring_phi : ℕ → Row → Row → Bool
is_ring_phi n ring_phi expected = iter (λ i all. all && angle_near (at ring_phi i) (at expected i)) true n

-- ---- ours: several tables, of which the first whose angles are near is used
pub record Table : Type 0 where
  pub angles : Row
  pub models : List SeedModel

abbrev pub table_of : ℕ → Row → Table
table_of n angles = record { angles = angles; models = seed_models n angles }

abbrev no_table : Table
no_table = record { angles = []; models = [] }

abbrev pub table_at : List Table → ℕ → Table
table_at tables t = get_or tables t no_table

-- the first of `left` numbers from i on that passes
unfoldable pub first_from : (ℕ → Bool) → ℕ → ℕ → Option ℕ
first_from p zero i = None
first_from p (suc left) i = cond (p i) (Some i) (first_from p left (i + 1))

unfoldable pub first_table : ℕ → List Table → Row → Option ℕ
first_table n tables ring_phi = first_from (λ t. is_ring_phi n ring_phi (table_at tables t).angles) (length tables) 0
