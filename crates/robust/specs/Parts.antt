-- What the contracts of crates/robust speak of besides the definitions: the lent buffers, and the first start. Definitions only.
use Rattle.std.specs.Prelude.{◌≡◌, Bool, true, false, ◌||◌, ℕ, ◌≤◌, length, Option, Some, None, Float}
use Rattle.std.specs.Float.Ieee.{lt}
use Rattle.floats.specs.Ops.{lit}
use Rattle.floats.specs.Rows.{Row}
use Rattle.solver.specs.Solver.{sines, cosines}
use Rattle.solver.specs.Record.{record_with_seed}
use Rattle.solver.specs.Buffers.{max_samples}
use Rattle.seed.specs.Seed.{second_harmonic, flat}
use Rattle.seed.specs.declared.SeedCandidate.{SeedCandidate}
use Rattle.robust_grid.specs.Grid.{best_seed}
use Rattle.seed_models.specs.Models.{best_cached}
use Rattle.seed_models.specs.Words.{ring_samples, models_in}
use Rattle.robust.specs.declared.First.{First}
use Rattle.robust.specs.Robust as R

-- ---- n samples and their angles, at most as many as there may be
pub record SamplesSized (n : ℕ) (samples ring_phi : Row) : Type 0 where
  pub few : n ≤ max_samples
  pub size : length samples ≡ n
  pub angles : length ring_phi ≡ n

-- the first start, with the mean and the variance
abbrev pub first_of : ℕ → Row → Row → First
first_of n samples ring_phi =
    let mean = R.mean_of n samples in
    let centered_var = R.variance_of n samples mean in
    let seed = R.first_seed (second_harmonic n samples ring_phi mean) mean in
    record { primary = record_with_seed n samples ring_phi seed centered_var; mean = mean; centered_var = centered_var }

-- whether the grid is worth its search: the variance, or the sum of squares of the centred samples, is too small
abbrev pub no_grid : ℕ → Row → Float → Float → Bool
no_grid n samples mean centered_var = lt centered_var (lit 0x3586_37bd) || flat (R.squares n (R.centered_of n samples mean))

-- if it is, that sum, and the centred samples
abbrev pub CenteredIn : ℕ → Row → Float → Float → Row → Option Float → Type 0
CenteredIn n samples mean centered_var centered None = no_grid n samples mean centered_var ≡ true
CenteredIn n samples mean centered_var centered (Some s) =
    (no_grid n samples mean centered_var ≡ false) × (centered ≡ R.centered_of n samples mean) ×
    (s ≡ R.squares n (R.centered_of n samples mean))

-- the best seed of the table in these words
abbrev pub cached_seed : Row → Float → Row → Float → Option SeedCandidate
cached_seed table mean centered centered_ss = best_cached ring_samples centered centered_ss mean (models_in table)

-- the best seed of the grid
abbrev pub direct_seed : ℕ → Row → Float → Row → Float → Option SeedCandidate
direct_seed n ring_phi mean centered centered_ss = best_seed n (sines n ring_phi) (cosines n ring_phi) centered centered_ss mean
