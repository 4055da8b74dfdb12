-- Seeds of the ring fit: ring_fit/seed.rs, second_harmonic, score_seed_pair and insert_seed_candidate. Definitions only.
-- valid_seed_pair and line_separation, with their two constants, are those of geometry.rs. `n` is the number of samples throughout.
use Rattle.std.specs.Prelude.{Bool, cond, not, ◌&&◌, ◌||◌, ℕ, ◌/◌, Option, Some, None, Float}
use Rattle.std.specs.Float.{binary32}
use Rattle.std.specs.Float.Ieee.{lt, le}
use Rattle.std.specs.Float.Ieee.Scale.{finite}
use Rattle.floats.specs.Ops.{◌⊕◌, ◌⊖◌, ◌⊗◌, ◌⊘◌, lit, nought}
use Rattle.floats.specs.Rows.{Row, at, count}
use Rattle.floats.specs.Library.{max, sqrt}
use Rattle.elementary.specs.Elementary.{sin_cos, atan2}
use Rattle.loops.specs.Loops.{iter}
use Rattle.seed.specs.declared.Harmonic.{Harmonic}
use Rattle.seed.specs.declared.Waves.{Waves}
use Rattle.seed.specs.declared.Sums.{Sums}
use Rattle.seed.specs.declared.SeedCandidate.{SeedCandidate}

-- ---- seed.rs: ROBUST_GRID_STEP_DEG and ROBUST_GRID_STEPS; ROBUST_TOP_SEEDS is 1
abbrev pub robust_grid_step_deg : Float
robust_grid_step_deg = lit 0x4100_0000

abbrev pub robust_grid_steps : ℕ
robust_grid_steps = 23

-- ---- seed.rs: second_harmonic
abbrev pub calm : Waves
calm = record { c2 = nought; s2 = nought }

unfoldable pub waved_by : Float → Float → Float → Waves → Waves
waved_by v phi mean w =
    let d = v ⊖ mean in
    let t = sin_cos (lit 0x4000_0000 ⊗ phi) in
    record { c2 = w.c2 ⊕ d ⊗ t.c; s2 = w.s2 ⊕ d ⊗ t.s }

unfoldable pub waves : ℕ → Row → Row → Float → Waves
waves n samples ring_phi mean = iter (λ i. waved_by (at samples i) (at ring_phi i) mean) calm n

-- an angle that is not finite becomes 0
unfoldable pub settled : Float → Float
settled theta = cond (finite theta) theta nought

-- half as many as the samples divide the magnitude: 8 of 16
unfoldable pub harmonic : ℕ → Waves → Harmonic
harmonic n w =
    let theta = settled (lit 0x3f00_0000 ⊗ atan2 w.s2 w.c2) in
    let mag = sqrt binary32 (w.c2 ⊗ w.c2 ⊕ w.s2 ⊗ w.s2) ⊘ count (n / 2) in
    record { theta = theta; mag = mag }

unfoldable pub second_harmonic : ℕ → Row → Row → Float → Harmonic
second_harmonic n samples ring_phi mean = harmonic n (waves n samples ring_phi mean)

-- ---- seed.rs: score_seed_pair
abbrev pub zeros : Sums
zeros = record { q_sum = nought; q2_sum = nought; num = nought }

-- a sample v more, at which the two rows have h1 and h2
unfoldable pub summed_by : Float → Float → Float → Sums → Sums
summed_by v h1 h2 s =
    let q = h1 ⊗ h2 in
    record { q_sum = s.q_sum ⊕ q; q2_sum = s.q2_sum ⊕ q ⊗ q; num = s.num ⊕ v ⊗ q }

unfoldable pub pair_sums : ℕ → Row → Row → Row → Sums
pair_sums n centered h1 h2 = iter (λ i. summed_by (at centered i) (at h1 i) (at h2 i)) zeros n

-- a seed is kept where all of it is finite
unfoldable pub kept : SeedCandidate → Option SeedCandidate
kept s = cond (finite s.rms && (finite s.amp && finite s.mu)) (Some s) None

-- not finite, or at most 1e-6: such a denominator has no seed, and such a sum of squares no grid
unfoldable pub flat : Float → Bool
flat x = not (finite x) || le x (lit 0x3586_37bd)

-- from num on both scores are made alike: n is the number of samples as a float
unfoldable pub seed_from : Float → Float → Float → Float → Float → Float → Float → Float → Option SeedCandidate
seed_from n centered_ss mean num q_mean denom theta1 theta2 =
    let amp = num ⊘ denom in
    let mu = mean ⊖ amp ⊗ q_mean in
    let ssr = max (centered_ss ⊖ num ⊗ num ⊘ denom) nought in
    let rms = sqrt binary32 (ssr ⊘ n) in
    kept (record { theta1 = theta1; theta2 = theta2; mu = mu; amp = amp; rms = rms })

unfoldable pub scored_from : Float → Float → Float → Float → Float → Float → Float → Float → Option SeedCandidate
scored_from n centered_ss mean num q_mean denom theta1 theta2 =
    cond (flat denom) None (seed_from n centered_ss mean num q_mean denom theta1 theta2)

unfoldable pub scored : Float → Float → Float → Sums → Float → Float → Option SeedCandidate
scored n centered_ss mean s theta1 theta2 =
    let q_mean = s.q_sum ⊘ n in
    let denom = s.q2_sum ⊖ s.q_sum ⊗ q_mean in
    scored_from n centered_ss mean s.num q_mean denom theta1 theta2

unfoldable pub score_seed_pair : ℕ → Row → Float → Float → Row → Row → Float → Float → Option SeedCandidate
score_seed_pair n centered centered_ss mean h1 h2 theta1 theta2 = scored (count n) centered_ss mean (pair_sums n centered h1 h2) theta1 theta2

-- ---- seed.rs: insert_seed_candidate, ROBUST_TOP_SEEDS being 1: the earlier stays on a tie
unfoldable pub insert_seed_candidate : Option SeedCandidate → SeedCandidate → Option SeedCandidate
insert_seed_candidate None c = Some c
insert_seed_candidate (Some s) c = cond (lt c.rms s.rms) (Some c) (Some s)
