-- The grid of seeds: ring_fit/robust.rs, robust_grid_fit from the rows of the grid to the best seed. Definitions only.
-- The rest of robust.rs is crates/robust/specs/Robust.antt. `n` is the number of samples throughout.
use Rattle.std.specs.Prelude.{cond, ℕ, ◌+◌, Option, None, Float}
use Rattle.floats.specs.Ops.{◌⊖◌, ◌⊗◌}
use Rattle.floats.specs.Rows.{Row, at, count}
use Rattle.floats.specs.Library.{to_radians}
use Rattle.elementary.specs.Elementary.{sin_cos, tanh}
use Rattle.elementary.specs.declared.SinCos.{SinCos}
use Rattle.geometry.specs.Geometry.{valid_pair}
use Rattle.loops.specs.Loops.{iter, range, tab}
use Rattle.solver.specs.Solver.{tanh_beta}
use Rattle.seed.specs.Seed.{robust_grid_step_deg, robust_grid_steps, score_seed_pair}
use Rattle.seed.specs.declared.SeedCandidate.{SeedCandidate}
use Rattle.robust_lanes.specs.Lanes.{inserted}

-- the angle number a, which the Rust calls ai or bi
abbrev pub grid_angle : ℕ → Float
grid_angle a = count a ⊗ to_radians robust_grid_step_deg

-- the model's factor of a sample at the angle of sine s and cosine c
unfoldable pub factor : Float → Float → SinCos → Float
factor s c t = tanh (tanh_beta ⊗ (s ⊗ t.c ⊖ c ⊗ t.s))

-- the row of the angle a
unfoldable pub grid_row : ℕ → Row → Row → ℕ → Row
grid_row n sphi cphi a = tab (λ i. factor (at sphi i) (at cphi i) (sin_cos (grid_angle a))) n

-- all allowed pairs in their order, with `step a b` for each
module _ {A : Type 0} (step : ℕ → ℕ → A → A) where
  unfoldable pub pair_at : ℕ → ℕ → A → A
  pair_at a b x = cond (valid_pair (grid_angle a) (grid_angle b)) (step a b x) x

  unfoldable pub pairs_from : ℕ → A → A
  pairs_from a x = range (pair_at a) x (a + 1) robust_grid_steps

  unfoldable pub all_pairs : A → A
  all_pairs x = iter pairs_from x robust_grid_steps

-- `score a b` is the score of a pair
abbrev pub tries : (ℕ → ℕ → Option SeedCandidate) → ℕ → ℕ → Option SeedCandidate → Option SeedCandidate
tries score a b top = inserted top (score a b)

unfoldable pub best_of : (ℕ → ℕ → Option SeedCandidate) → Option SeedCandidate
best_of score = all_pairs (tries score) None

-- the seed of least residual, the earlier on a tie
unfoldable pub best_seed : ℕ → Row → Row → Row → Float → Float → Option SeedCandidate
best_seed n sphi cphi centered centered_ss mean =
    best_of (λ a b. score_seed_pair n centered centered_ss mean (grid_row n sphi cphi a) (grid_row n sphi cphi b) (grid_angle a) (grid_angle b))
