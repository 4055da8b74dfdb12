-- The whole ring fit as the Rust has it: ring_fit/robust.rs, and AMP_FLOOR of ring_fit/mod.rs. Definitions only.
-- robust_grid_fit from the rows of the grid to the best seed is crates/robust_grid/specs/Grid.antt, the choice between two starts
-- crates/robust_choice/specs/Choice.antt.
-- `n` is the number of samples throughout; `ring_phi` are their angles on the ring, and `tables` the tables of seed models that are held
-- (crates/seed_models/specs/Models.antt). The answer of ours, which keeps the mean, is Record.antt.
use Rattle.std.specs.Prelude.{Bool, false, cond, not, ◌&&◌, ◌||◌, List, ℕ, Option, Some, None, Float}
use Rattle.std.specs.Float.{inf}
use Rattle.std.specs.Float.Ieee.{neg, lt, le}
use Rattle.std.specs.Float.Ieee.Scale.{finite}
use Rattle.floats.specs.Ops.{◌⊕◌, ◌⊖◌, ◌⊗◌, ◌⊘◌, lit, nought, one, quarter_pi}
use Rattle.floats.specs.Rows.{Row, at, count}
use Rattle.floats.specs.Library.{max, to_radians}
use Rattle.geometry.specs.Geometry.{line_separation}
use Rattle.loops.specs.Loops.{iter, tab}
use Rattle.solver_record.specs.Fit.{RustFit, degenerate}
use Rattle.solver.specs.Solver.{sines, cosines, updates, fit_with_seed}
use Rattle.solver.specs.Record.{record_with_seed}
use Rattle.solver_record.specs.declared.Params.{Params}
use Rattle.seed.specs.Seed.{second_harmonic, flat}
use Rattle.seed.specs.declared.Harmonic.{Harmonic}
use Rattle.seed.specs.declared.SeedCandidate.{SeedCandidate}
use Rattle.robust_grid.specs.Grid.{best_seed}
use Rattle.seed_models.specs.Models.{Table, table_at, first_table, best_cached}
use Rattle.robust_choice.specs.Choice.{Source, of_pass, of_seed, Start, Ring, single, chosen}

-- ---- mod.rs: AMP_FLOOR; robust.rs: ROBUST_REL_RMS_TRIGGER, ROBUST_SEP_TRIGGER_MIN_RAD and ROBUST_SEP_TRIGGER_MAX_RAD, 0.12 and 65 and 115 degrees
abbrev pub amp_floor : Float
amp_floor = one

abbrev pub robust_rel_rms_trigger : Float
robust_rel_rms_trigger = lit 0x3df5_c28f

abbrev pub robust_sep_trigger_min_rad : Float
robust_sep_trigger_min_rad = to_radians (lit 0x4282_0000)

abbrev pub robust_sep_trigger_max_rad : Float
robust_sep_trigger_max_rad = to_radians (lit 0x42e6_0000)

-- ---- the mean and the variance: both sums begin at -0, as Rust's `sum` does
abbrev pub negative_zero : Float
negative_zero = neg nought

unfoldable pub total : ℕ → Row → Float
total n samples = iter (λ i s. s ⊕ at samples i) negative_zero n

abbrev pub mean_of : ℕ → Row → Float
mean_of n samples = total n samples ⊘ count n

unfoldable pub deviations : ℕ → Row → Float → Float
deviations n samples mean = iter (λ i s. s ⊕ (at samples i ⊖ mean) ⊗ (at samples i ⊖ mean)) negative_zero n

abbrev pub variance_of : ℕ → Row → Float → Float
variance_of n samples mean = deviations n samples mean ⊘ count n

-- ---- robust.rs: relative_rms and fit_is_suspicious
unfoldable pub relative_rms : RustFit → Float
relative_rms f = cond (finite f.rms) (max f.rms nought ⊘ max f.amp amp_floor) (inf false)

unfoldable pub outside : Float → Bool
outside sep = not (le robust_sep_trigger_min_rad sep && le sep robust_sep_trigger_max_rad)

unfoldable pub triggered : RustFit → Bool
triggered f = outside (line_separation f.theta1 f.theta2) || le robust_rel_rms_trigger (relative_rms f)

unfoldable pub fit_is_suspicious : RustFit → Bool
fit_is_suspicious f = cond (not (finite f.amp) || (not (finite f.rms) || lt f.amp amp_floor)) false (triggered f)

-- ---- a start: fit_with_seed's fit, and what it was made of
unfoldable pub start : ℕ → Row → Row → Params → Float → Start
start n samples ring_phi seed centered_var =
    let s = record_with_seed n samples ring_phi seed centered_var in
    let end = updates n samples (sines n ring_phi) (cosines n ring_phi) seed in
    record {
      fit = fit_with_seed n samples ring_phi seed centered_var;
      standing = s.standing;
      updates = s.updates;
      source = cond (degenerate seed.amp centered_var) (of_seed seed) (of_pass end);
    }

-- ---- robust.rs: refine_seed_candidates, ROBUST_TOP_SEEDS being 1
abbrev pub seeded : SeedCandidate → Params
seeded s = record { mu = s.mu; amp = s.amp; theta1 = s.theta1; theta2 = s.theta2 }

unfoldable pub refine_seed_candidates : ℕ → Row → Row → Float → Option SeedCandidate → Option Start
refine_seed_candidates n samples ring_phi centered_var None = None
refine_seed_candidates n samples ring_phi centered_var (Some s) = Some (start n samples ring_phi (seeded s) centered_var)

-- ---- robust.rs: robust_grid_fit
abbrev pub centered_of : ℕ → Row → Float → Row
centered_of n samples mean = tab (λ i. at samples i ⊖ mean) n

unfoldable pub squares : ℕ → Row → Float
squares n centered = iter (λ i s. s ⊕ at centered i ⊗ at centered i) nought n

-- `search` is the best seed of the centred samples and their sum of squares
unfoldable pub grid_fit_by : (Row → Float → Option SeedCandidate) → ℕ → Row → Row → Float → Float → Option Start
grid_fit_by search n samples ring_phi mean centered_var =
    let centered = centered_of n samples mean in
    let centered_ss = squares n centered in
    cond (lt centered_var (lit 0x3586_37bd) || flat centered_ss) None (refine_seed_candidates n samples ring_phi centered_var (search centered centered_ss))

-- under the feature `std` a ring whose angles are a table's has its seed from the table, by robust_grid_fit_cached; without tables this is the Rust without
-- `std`, and with one table, of RING5's angles, the Rust with it
unfoldable pub grid_seed : List Table → Option ℕ → ℕ → Row → Float → Row → Float → Option SeedCandidate
grid_seed tables None n ring_phi mean centered centered_ss = best_seed n (sines n ring_phi) (cosines n ring_phi) centered centered_ss mean
grid_seed tables (Some t) n ring_phi mean centered centered_ss = best_cached n centered centered_ss mean (table_at tables t).models

unfoldable pub robust_grid_fit : List Table → ℕ → Row → Row → Float → Float → Option Start
robust_grid_fit tables n samples ring_phi mean centered_var =
    grid_fit_by (grid_seed tables (first_table n tables ring_phi) n ring_phi mean) n samples ring_phi mean centered_var

-- ---- robust.rs: fit_ring
-- the two axes lie PI/4 on either side of the sector's midpoint; 3 * FRAC_PI_4
abbrev pub first_seed : Harmonic → Float → Params
first_seed h mean = record { mu = mean; amp = h.mag; theta1 = h.theta ⊕ quarter_pi; theta2 = h.theta ⊕ lit 0x4040_0000 ⊗ quarter_pi }

unfoldable pub ring : List Table → ℕ → Row → Row → Ring
ring tables n samples ring_phi =
    let mean = mean_of n samples in
    let centered_var = variance_of n samples mean in
    let seed = first_seed (second_harmonic n samples ring_phi mean) mean in
    let primary = start n samples ring_phi seed centered_var in
    cond (fit_is_suspicious primary.fit) (chosen primary (robust_grid_fit tables n samples ring_phi mean centered_var)) (single primary)

unfoldable pub fit_ring : List Table → ℕ → Row → Row → RustFit
fit_ring tables n samples ring_phi = (ring tables n samples ring_phi).answered.fit

-- the sum of squares that the answered rms was made of
abbrev pub sum_of : Float → Source → Float
sum_of dev (of_pass end) = end.last.ssr
sum_of dev (of_seed seed) = dev

unfoldable pub ring_sum : List Table → ℕ → Row → Row → Float
ring_sum tables n samples ring_phi = sum_of (deviations n samples (mean_of n samples)) (ring tables n samples ring_phi).answered.source
