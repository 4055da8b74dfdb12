-- What the code's own steps come to: constants as they are derived, a refused start that is never suspicious, the starts of a seed and of the grid, and the
-- whole fit. Assumes nothing.
use Rattle.std.specs.Prelude.{◌≡◌, Bool, cond, not, ◌||◌, List, [], ℕ, ◌<◌, length, Option, Some, None, Float}
use Rattle.std.proofs.Math.Path.{refl, sym, ap}
use Rattle.std.proofs.Common.{◌∙◌, subst}
use Rattle.std.proofs.Math.Bool.{true, false}
use Rattle.std.proofs.lemmas.Bool.{false≢true}
use Rattle.std.specs.Float.Ieee.{lt, mul, of_bits}
use Rattle.std.specs.Float.Ieee.Scale.{finite}
use Rattle.floats.specs.Ops.{lit}
use Rattle.floats.specs.Rows.{Row}
use Rattle.floats.specs.Library.{to_radians}
use Rattle.loops.proofs.TabLaws.{tab_length, tab_at}
use Rattle.solver_record.specs.Fit.{degenerate, degenerate_fit}
use Rattle.solver_record.specs.Record.{without_mean, degenerate_record, refused}
use Rattle.solver.specs.Solver.{sines, cosines, updates}
use Rattle.solver.specs.Record.{start_from, record_with_seed}
use Rattle.solver.specs.Buffers.{Prepared}
use Rattle.solver.proofs.SolverLaws.{whole_prepared}
use Rattle.solver_record.specs.declared.Params.{Params}
use Rattle.solver_record.specs.declared.Started.{Started}
use Rattle.seed.specs.Seed.{flat, second_harmonic}
use Rattle.seed.specs.declared.SeedCandidate.{SeedCandidate}
use Rattle.robust_grid.specs.Grid.{best_seed}
use Rattle.seed_models.specs.Models.{Table, table_at, best_cached, first_from, first_table}
use Rattle.seed_models.specs.Words.{ring_samples, held_in, table_part, table_in, tables_in}
use Rattle.robust.specs.declared.First.{First}
use Rattle.robust_choice.specs.declared.RingFit.{RingFit}
use Rattle.robust.specs.Robust as R
use Rattle.robust.specs.Record.{record_ring}
use Rattle.robust.proofs.RecordLaws.{start_is}
use Rattle.robust_choice.specs.Choice.{Start}
use Rattle.robust_choice.specs.Parts.{started_of, second_of, alone_of, chosen_of}
use Rattle.robust_choice.specs.ChoiceLaws.{alone_is, chosen_is}
use Rattle.robust.specs.Parts.{first_of, no_grid, CenteredIn, cached_seed, direct_seed}

-- ---- the literals of the code
pub min_rad_is : R.robust_sep_trigger_min_rad ≡ lit 0x3f91_361e
unfolding to_radians mul of_bits
min_rad_is = refl

pub max_rad_is : R.robust_sep_trigger_max_rad ≡ lit 0x4000_74cc
unfolding to_radians mul of_bits
max_rad_is = refl

-- ---- a refused start has the amplitude 0, which is below the floor: it is never suspicious
pub degenerate_calm : (centered_var : Float) → R.fit_is_suspicious (degenerate_fit centered_var) ≡ false
unfolding R.fit_is_suspicious degenerate_fit lt of_bits
degenerate_calm centered_var = go (not (finite (degenerate_fit centered_var).rms))
  where
    go : (b : Bool) → cond (b || true) false (R.triggered (degenerate_fit centered_var)) ≡ false
    go true = refl
    go false = refl

pub refused_calm : {P : Type 0} (s : Started) (centered_var mean : Float) → s ≡ refused centered_var mean
    → R.fit_is_suspicious (without_mean s.fit) ≡ true → P
unfolding degenerate_record
refused_calm s centered_var mean e t =
    absurd (false≢true (sym (degenerate_calm centered_var) ∙ sym (ap (λ (x : Started). R.fit_is_suspicious (without_mean x.fit)) e) ∙ t))

-- ---- a start, where it is refused and where the sines and cosines are at hand
module _ (n : ℕ) (samples ring_phi : Row) (seed : Params) (centered_var : Float) where
  pub start_refused : {b : Bool} {s : Started} → b ≡ degenerate seed.amp centered_var → b ≡ true → s ≡ refused centered_var seed.mu
      → s ≡ record_with_seed n samples ring_phi seed centered_var
  unfolding record_with_seed
  start_refused d t e = rw (← d, t) e

  pub start_made : (sphi cphi : Row) {b : Bool} {s : Started} → b ≡ degenerate seed.amp centered_var → b ≡ false → length ring_phi ≡ n
      → Prepared ring_phi sphi cphi → s ≡ start_from n (updates n samples sphi cphi seed) → s ≡ record_with_seed n samples ring_phi seed centered_var
  unfolding record_with_seed
  start_made sphi cphi d t l p h = rw (← d, t) (h ∙ whole_prepared n samples ring_phi sphi cphi seed p l)

-- ---- the one seed's start
module _ (n : ℕ) (samples ring_phi : Row) (centered_var : Float) (top : Option SeedCandidate) where
  pub refined_missing : top ≡ None → None ≡ second_of (R.refine_seed_candidates n samples ring_phi centered_var top)
  unfolding R.refine_seed_candidates
  refined_missing e = rw e refl

  pub refined_made : (s : SeedCandidate) (f : Started) → top ≡ Some s → f ≡ record_with_seed n samples ring_phi (R.seeded s) centered_var
      → Some f ≡ second_of (R.refine_seed_candidates n samples ring_phi centered_var top)
  unfolding R.refine_seed_candidates
  refined_made s f e h = rw e (ap Some (h ∙ start_is n samples ring_phi (R.seeded s) centered_var))

-- ---- the grid's start: refused by the variance or the sum of squares, or made
-- the two tests that leave the grid
pub low_none : (n : ℕ) (samples : Row) (mean centered_var : Float) → lt centered_var (lit 0x3586_37bd) ≡ true → no_grid n samples mean centered_var ≡ true
low_none n samples mean centered_var e = rw e

module _ (n : ℕ) (samples : Row) (mean centered_var : Float) (centered : Row) (s : Float) (ec : centered ≡ R.centered_of n samples mean)
    (es : s ≡ R.squares (length centered) centered) where
  pub sum_is : s ≡ R.squares n (R.centered_of n samples mean)
  sum_is = es ∙ ap (λ (k : ℕ). R.squares k centered) (ap length ec ∙ tab_length _ n) ∙ ap (R.squares n) ec

  pub flat_none : {b : Bool} → b ≡ flat s → b ≡ true → no_grid n samples mean centered_var ≡ true
  flat_none eb et = rw (← sum_is, ← eb, et) (either (lt centered_var (lit 0x3586_37bd)))
    where
      either : (x : Bool) → (x || true) ≡ true
      either true = refl
      either false = refl

  pub some_grid : {b : Bool} → lt centered_var (lit 0x3586_37bd) ≡ false → b ≡ flat s → b ≡ false → no_grid n samples mean centered_var ≡ false
  some_grid el eb et = rw (← sum_is, el, ← eb, et)

-- what was told of them, where the case is known
module _ (n : ℕ) (samples : Row) (mean centered_var : Float) (centered : Row) (r : Option Float) where
  pub none_centered : r ≡ None → CenteredIn n samples mean centered_var centered r → no_grid n samples mean centered_var ≡ true
  none_centered e h = subst (CenteredIn n samples mean centered_var centered) e h

  pub sum_centered : (s : Float) → r ≡ Some s → CenteredIn n samples mean centered_var centered r → CenteredIn n samples mean centered_var centered (Some s)
  sum_centered s e h = subst (CenteredIn n samples mean centered_var centered) e h

module _ (search : Row → Float → Option SeedCandidate) (n : ℕ) (samples ring_phi : Row) (mean centered_var : Float) where
  pub grid_missing : no_grid n samples mean centered_var ≡ true → None ≡ second_of (R.grid_fit_by search n samples ring_phi mean centered_var)
  unfolding R.grid_fit_by
  grid_missing e = rw e refl

  pub grid_made : (top : Option SeedCandidate) {r : Option Started} → no_grid n samples mean centered_var ≡ false
      → top ≡ search (R.centered_of n samples mean) (R.squares n (R.centered_of n samples mean))
      → r ≡ second_of (R.refine_seed_candidates n samples ring_phi centered_var top)
      → r ≡ second_of (R.grid_fit_by search n samples ring_phi mean centered_var)
  unfolding R.grid_fit_by
  grid_made top e et er = rw e (er ∙ ap (λ (x : Option SeedCandidate). second_of (R.refine_seed_candidates n samples ring_phi centered_var x)) et)

-- without tables the seed is the grid's, from the buffer
module _ (n : ℕ) (samples ring_phi : Row) (mean centered_var : Float) where
  pub direct_is : R.robust_grid_fit [] n samples ring_phi mean centered_var ≡ R.grid_fit_by (direct_seed n ring_phi mean) n samples ring_phi mean centered_var
  unfolding R.robust_grid_fit R.grid_seed first_table first_from
  direct_is = refl

  pub direct_seed_lem : (sphi cphi centered : Row) (s : Float) (top : Option SeedCandidate) → length ring_phi ≡ n
      → sphi ≡ sines (length ring_phi) ring_phi → cphi ≡ cosines (length ring_phi) ring_phi
      → centered ≡ R.centered_of n samples mean → s ≡ R.squares n (R.centered_of n samples mean)
      → top ≡ best_seed n sphi cphi centered s mean
      → top ≡ direct_seed n ring_phi mean (R.centered_of n samples mean) (R.squares n (R.centered_of n samples mean))
  direct_seed_lem sphi cphi centered s top el es_ ec_ ec es eh =
      let e_s : sphi ≡ sines n ring_phi = es_ ∙ ap (λ (k : ℕ). sines k ring_phi) el in
      let e_c : cphi ≡ cosines n ring_phi = ec_ ∙ ap (λ (k : ℕ). cosines k ring_phi) el in
      rw (← es, ← ec, ← e_s, ← e_c) eh

-- with the tables of a caller's words: none is near, or the seed is that of the first that is
module _ (words samples ring_phi : Row) (mean centered_var : Float) (w : Option ℕ) (n : length samples ≡ ring_samples)
    (first : w ≡ first_table ring_samples (tables_in words) ring_phi) where
  abbrev fit : List Table → Option Start
  fit tables = R.robust_grid_fit tables (length samples) samples ring_phi mean centered_var

  pub none_near : w ≡ None → fit [] ≡ fit (tables_in words)
  unfolding R.robust_grid_fit R.grid_seed first_table first_from
  none_near e = rw (n, ← first, e) refl

  pub one_near : (t : ℕ) → w ≡ Some t → t < held_in words
      → R.grid_fit_by (cached_seed (table_part words t) mean) ring_samples samples ring_phi mean centered_var ≡ fit (tables_in words)
  unfolding R.robust_grid_fit R.grid_seed
  one_near t e l =
      let found : table_at (tables_in words) t ≡ table_in words t = unfold tables_in in tab_at (table_in words) _ (held_in words) t l in
      let by : Table → Option Start =
      λ x. R.grid_fit_by (λ centered s. best_cached ring_samples centered s mean x.models) ring_samples samples ring_phi mean centered_var in
      let told : by (table_at (tables_in words) t) ≡ fit (tables_in words) = rw (n, ← first, e) refl in
      sym (ap by found) ∙ told

-- ---- the whole fit: the first start is not suspicious, or is followed by the grid's
module _ (tables : List Table) (n : ℕ) (samples ring_phi : Row) (f : First) (r : RingFit) (e : f ≡ first_of n samples ring_phi) where
  abbrev mean : Float
  mean = R.mean_of n samples

  abbrev centered_var : Float
  centered_var = R.variance_of n samples mean

  abbrev primary : Start
  primary = R.start n samples ring_phi (R.first_seed (second_harmonic n samples ring_phi mean) mean) centered_var

  -- the code's first start is the definition's
  first_is : f.primary ≡ started_of primary
  first_is = ap (λ (x : First). x.primary) e ∙ start_is n samples ring_phi _ centered_var

  pub ring_alone : R.fit_is_suspicious (without_mean f.primary.fit) ≡ false → r ≡ alone_of f.primary → r ≡ record_ring tables n samples ring_phi
  unfolding record_ring R.ring
  ring_alone t a =
      let calm : R.fit_is_suspicious primary.fit ≡ false = ap (λ (x : Started). R.fit_is_suspicious (without_mean x.fit)) (sym first_is) ∙ t in
      rw calm (a ∙ ap alone_of first_is ∙ alone_is primary)

  pub ring_chosen : R.fit_is_suspicious (without_mean f.primary.fit) ≡ true
      → r ≡ chosen_of f.primary (second_of (R.robust_grid_fit tables n samples ring_phi f.mean f.centered_var)) → r ≡ record_ring tables n samples ring_phi
  unfolding record_ring R.ring
  ring_chosen t c =
      let due : R.fit_is_suspicious primary.fit ≡ true = ap (λ (x : Started). R.fit_is_suspicious (without_mean x.fit)) (sym first_is) ∙ t in
      let second : First → Option Started = λ x. second_of (R.robust_grid_fit tables n samples ring_phi x.mean x.centered_var) in
      rw due (
      c ∙ ap (λ (x : Started). chosen_of x (second f)) first_is
      ∙ ap (λ (x : First). chosen_of (started_of primary) (second x)) e ∙ chosen_is primary _
      )
