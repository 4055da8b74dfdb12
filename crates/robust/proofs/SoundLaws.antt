-- Every ring fit is sound and keeps the bill, for any number of samples and any values: its starts are sound, a seed of the grid is held by f32, and
-- one or two starts are made. Assumes nothing.
use Rattle.std.specs.Prelude.{◌≡◌, refl, Bool, cond, ◌&&◌, ◌||◌, ◌⊎◌, List, [], ◌∷◌, ℕ, ◌+◌, ◌/◌, ◌≤◌, T, Option, Some, None, Float}
use Rattle.std.proofs.Math.Bool.{true, false}
use Rattle.std.proofs.Common.{inl, inr}
use native.Mathlib.Omega.{arith}
use Rattle.std.specs.Float.Ieee.{binary32, lt, fits}
use Rattle.std.specs.Float.Ieee.Scale.{finite}
use Rattle.std.specs.Float.Ieee.Fits.{add-fits, mul-fits, div-fits}
use Rattle.floats.specs.Ops.{◌⊖◌, ◌⊗◌, ◌⊘◌, lit, quarter_pi}
use Rattle.floats.specs.Rows.{Row, count}
use Rattle.floats.specs.FiniteLaws.{of_true}
use Rattle.floats.specs.Library.{to_radians}
use Rattle.loops.proofs.IterLaws.{iter_keeps, range_keeps}
use Rattle.geometry.specs.Geometry.{valid_pair}
use Rattle.solver.specs.Solver.{sines, cosines}
use Rattle.solver_record.specs.Record.{without_mean}
use Rattle.solver_record.specs.FitLaws.{ParamsHeld, Sound}
use Rattle.solver.proofs.SoundLaws.{start_sound, start_most}
use Rattle.solver_record.specs.declared.Params.{Params}
use Rattle.seed.specs.Seed.{robust_grid_step_deg, flat, kept, seed_from, scored_from, scored, score_seed_pair, pair_sums, insert_seed_candidate}
use Rattle.seed.specs.Seed.{second_harmonic, harmonic}
use Rattle.seed.specs.declared.Sums.{Sums}
use Rattle.seed.specs.declared.SeedCandidate.{SeedCandidate}
use Rattle.robust_lanes.specs.Lanes.{inserted}
use Rattle.robust_grid.specs.Grid.{grid_angle, grid_row, pair_at, pairs_from, all_pairs, tries, best_of, best_seed}
use Rattle.seed_models.specs.Models.{SeedModel, Table, table_at, first_table, score_cached_seed_model, best_from, best_cached}
use Rattle.seed_models.specs.HeldLaws.{All, AnglesHeld, TablesHeld, table_held}
use Rattle.robust_choice.specs.declared.RingFit.{RingFit}
use Rattle.robust.specs.Robust as R
use Rattle.robust_choice.specs.Choice.{Start, Ring, single, is_lower, chosen}
use Rattle.robust_choice.specs.Record.{ring_fit_of}
use Rattle.robust.specs.Record.{record_ring}

-- ---- a seed that f32 holds and whose mean is finite, or none
abbrev Held : SeedCandidate → Type 0
Held s = ParamsHeld (R.seeded s) × T (finite s.mu)

abbrev SeedHeld : Option SeedCandidate → Type 0
SeedHeld None = 0 ≤ 0
SeedHeld (Some s) = Held s

kept_held : (s : SeedCandidate) → ParamsHeld (R.seeded s) → SeedHeld (kept s)
unfolding kept
kept_held s h = go (finite s.rms) (finite s.amp) (finite s.mu) refl
  where
    go : (a b c : Bool) → finite s.mu ≡ c → SeedHeld (cond (a && (b && c)) (Some s) None)
    go true true true e = (h, of_true e)
    go true true false e = omega arith
    go true false c e = omega arith
    go false b c e = omega arith

from_held : (n css mean num q_mean denom theta1 theta2 : Float) → T (fits binary32 theta1) → T (fits binary32 theta2)
    → SeedHeld (seed_from n css mean num q_mean denom theta1 theta2)
unfolding seed_from
from_held n css mean num q_mean denom theta1 theta2 one two = kept_held _ (record { amp = div-fits binary32 num denom; one = one; two = two })

scored_held : (n css mean : Float) (s : Sums) (a b : ℕ) → SeedHeld (scored n css mean s (grid_angle a) (grid_angle b))
unfolding scored scored_from
scored_held n css mean s a b =
    let q_mean = s.q_sum ⊘ n in
    let denom = s.q2_sum ⊖ s.q_sum ⊗ q_mean in
    let step = to_radians robust_grid_step_deg in
    go (flat denom) _ (from_held n css mean s.num q_mean denom _ _ (mul-fits binary32 (count a) step) (mul-fits binary32 (count b) step))
  where
    go : (f : Bool) (x : Option SeedCandidate) → SeedHeld x → SeedHeld (cond f None x)
    go true x h = omega arith
    go false x h = h

insert_held : (top : Option SeedCandidate) (c : SeedCandidate) → SeedHeld top → Held c → SeedHeld (insert_seed_candidate top c)
unfolding insert_seed_candidate
insert_held None c h g = g
insert_held (Some s) c h g = go (lt c.rms s.rms)
  where
    go : (b : Bool) → SeedHeld (cond b (Some c) (Some s))
    go true = g
    go false = h

inserted_held : (top s : Option SeedCandidate) → SeedHeld top → SeedHeld s → SeedHeld (inserted top s)
unfolding inserted
inserted_held top None h g = h
inserted_held top (Some c) h g = insert_held top c h g

module _ (score : ℕ → ℕ → Option SeedCandidate) (sound : (a b : ℕ) → SeedHeld (score a b)) where
  pair_held : (a b : ℕ) (top : Option SeedCandidate) → SeedHeld top → SeedHeld (pair_at (tries score) a b top)
  unfolding pair_at
  pair_held a b top h = go (valid_pair (grid_angle a) (grid_angle b))
    where
      go : (v : Bool) → SeedHeld (cond v (inserted top (score a b)) top)
      go true = inserted_held top (score a b) h (sound a b)
      go false = h

  pairs_held : (a : ℕ) (top : Option SeedCandidate) → SeedHeld top → SeedHeld (pairs_from (tries score) a top)
  unfolding pairs_from
  pairs_held a top h = range_keeps SeedHeld (pair_at (tries score) a) top (a + 1) 23 h (λ b x g. pair_held a b x g)

  best_held : SeedHeld (best_of score)
  unfolding best_of all_pairs
  best_held = iter_keeps SeedHeld (pairs_from (tries score)) None 23 (omega arith) (λ a x g. pairs_held a x g)

seed_held : (n : ℕ) (sphi cphi centered : Row) (centered_ss mean : Float) → SeedHeld (best_seed n sphi cphi centered centered_ss mean)
unfolding best_seed score_seed_pair
seed_held n sphi cphi centered centered_ss mean =
    best_held _ (λ a b. scored_held (count n) centered_ss mean (pair_sums n centered (grid_row n sphi cphi a) (grid_row n sphi cphi b)) a b)

-- the same of a table's models
cached_held : (score : SeedModel → Option SeedCandidate) (top : Option SeedCandidate) (models : List SeedModel)
    → ((m : SeedModel) → AnglesHeld m → SeedHeld (score m)) → SeedHeld top → All AnglesHeld models → SeedHeld (best_from score top models)
unfolding best_from
cached_held score top [] sound h all = h
cached_held score top (m ∷ models) sound h all =
    cached_held score (inserted top (score m)) models sound (inserted_held top (score m) h (sound m all.0)) all.1

grid_held : (tables : List Table) (w : Option ℕ) (n : ℕ) (ring_phi : Row) (mean : Float) (centered : Row) (centered_ss : Float) → TablesHeld tables
    → SeedHeld (R.grid_seed tables w n ring_phi mean centered centered_ss)
unfolding R.grid_seed best_cached score_cached_seed_model
grid_held tables None n ring_phi mean centered centered_ss h = seed_held n (sines n ring_phi) (cosines n ring_phi) centered centered_ss mean
grid_held tables (Some t) n ring_phi mean centered centered_ss h =
    cached_held _ None (table_at tables t).models (λ m a. from_held _ _ _ _ _ _ _ _ a.0 a.1) (omega arith) (table_held tables t h)

-- a first seed has the mean of the samples, and one of the grid a mean that is finite
abbrev pub MeanHeld : Float → Params → Type 0
MeanHeld mean seed = (seed.mu ≡ mean) ⊎ T (finite seed.mu)

-- ---- what every start from a held seed has, the answered start has, and the second too
module _ (P : Start → Type 0) where
  abbrev Each : Option Start → Type 0
  Each None = 0 ≤ 0
  Each (Some s) = P s

  chosen_each : (f : Start) (o : Option Start) → P f → Each o → P (chosen f o).answered
  unfolding chosen
  chosen_each f None h k = h
  chosen_each f (Some g) h k = go (is_lower g.fit f.fit)
    where
      go : (b : Bool) → P (cond b g f)
      go true = k
      go false = h

  module _ (tables : List Table) (held : TablesHeld tables) (n : ℕ) (samples ring_phi : Row) where
    abbrev mean : Float
    mean = R.mean_of n samples

    abbrev centered_var : Float
    centered_var = R.variance_of n samples mean

    abbrev primary : Start
    primary = R.start n samples ring_phi (R.first_seed (second_harmonic n samples ring_phi mean) mean) centered_var

    module _ (all : (seed : Params) → ParamsHeld seed → MeanHeld mean seed → P (R.start n samples ring_phi seed centered_var)) where
      primary_each : P primary
      unfolding second_harmonic harmonic
      primary_each =
          let h = second_harmonic n samples ring_phi mean in
          let one = add-fits binary32 h.theta quarter_pi in
          let two = add-fits binary32 h.theta (lit 0x4040_0000 ⊗ quarter_pi) in
          all (R.first_seed h mean) (record { amp = div-fits binary32 _ (count (n / 2)); one = one; two = two }) (inl refl)

      refined_each : (s : Option SeedCandidate) → SeedHeld s → Each (R.refine_seed_candidates n samples ring_phi centered_var s)
      unfolding R.refine_seed_candidates
      refined_each None h = omega arith
      refined_each (Some s) h = all (R.seeded s) h.0 (inr h.1)

      grid_each : Each (R.robust_grid_fit tables n samples ring_phi mean centered_var)
      unfolding R.robust_grid_fit R.grid_fit_by
      grid_each =
          let centered = R.centered_of n samples mean in
          let centered_ss = R.squares n centered in
          let seed = grid_held tables (first_table n tables ring_phi) n ring_phi mean centered centered_ss held in
          go (lt centered_var (lit 0x3586_37bd) || flat centered_ss) _ (refined_each _ seed)
        where
          go : (b : Bool) (o : Option Start) → Each o → Each (cond b None o)
          go true o h = omega arith
          go false o h = h

      pub ring_each : P (R.ring tables n samples ring_phi).answered
      unfolding R.ring
      ring_each = go (R.fit_is_suspicious primary.fit) _ (chosen_each primary _ primary_each grid_each)
        where
          go : (b : Bool) (x : Ring) → P x.answered → P (cond b x (single primary)).answered
          go true x h = h
          go false x h = primary_each

-- ---- the bill
pub record Billed (r : RingFit) : Type 0 where
  pub some : 1 ≤ r.starts
  pub most : r.starts ≤ 2
  pub first : r.first ≤ 6
  pub second : r.second ≤ 6
  pub alone : r.starts ≡ 1 → r.second ≡ 0

abbrev Few : Start → Type 0
Few s = s.updates ≤ 6

single_billed : (f : Start) → Few f → Billed (ring_fit_of (single f))
single_billed f h = record { some = omega arith; most = omega arith; first = h; second = omega arith; alone = λ e. refl }

chosen_billed : (f : Start) (o : Option Start) → Few f → Each Few o → Billed (ring_fit_of (chosen f o))
unfolding chosen
chosen_billed f None h k = single_billed f h
chosen_billed f (Some g) h k = record { some = omega arith; most = omega arith; first = h; second = k; alone = λ e. absurd (two e) }
  where
    two : ◌≡◌ {A = ℕ} 2 1 → ⊥
    two e = omega arith

pub record SoundRing (r : RingFit) : Type 0 where
  pub fit : Sound (without_mean r.fit)
  pub bill : Billed r

-- for every number of samples and all values, non-numbers included
module _ (tables : List Table) (held : TablesHeld tables) (n : ℕ) (samples ring_phi : Row) where
  few : (seed : Params) → ParamsHeld seed → MeanHeld (R.mean_of n samples) seed
      → Few (R.start n samples ring_phi seed (R.variance_of n samples (R.mean_of n samples)))
  unfolding R.start
  few seed h m = start_most n samples ring_phi seed _

  ring_billed : Billed (ring_fit_of (R.ring tables n samples ring_phi))
  unfolding R.ring
  ring_billed =
      let one = primary_each Few tables held n samples ring_phi few in
      let two = grid_each Few tables held n samples ring_phi few in
      let f = primary Few tables held n samples ring_phi in
      let o = R.robust_grid_fit tables n samples ring_phi (mean Few tables held n samples ring_phi) (centered_var Few tables held n samples ring_phi) in
      go (R.fit_is_suspicious f.fit) (chosen f o) (single f) (chosen_billed f o one two) (single_billed f one)
    where
      go : (b : Bool) (x y : Ring) → Billed (ring_fit_of x) → Billed (ring_fit_of y) → Billed (ring_fit_of (cond b x y))
      go true x y h k = h
      go false x y h k = k

  pub ring_sound : SoundRing (record_ring tables n samples ring_phi)
  unfolding record_ring R.start
  ring_sound =
      record { fit = ring_each (λ s. Sound s.fit) tables held n samples ring_phi (λ seed h m. start_sound n samples ring_phi seed _ h); bill = ring_billed }
