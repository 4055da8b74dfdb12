-- Demand 2 with the mean kept: without it the answer of a ring is the Rust's, and the mean is the mu that the Rust drops in the start that it answers,
-- with which the last pass was made. Assumes nothing.
use Rattle.std.specs.Prelude.{◌≡◌, Bool, cond, List, ℕ, ◌≤◌, Float}
use Rattle.std.proofs.Math.Path.{refl, ap}
use Rattle.std.proofs.Common.{◌∙◌}
use Rattle.std.proofs.Math.Bool.{true, false}
use native.Mathlib.Omega.{arith}
use Rattle.floats.specs.Rows.{Row}
use Rattle.solver_record.specs.Fit.{degenerate}
use Rattle.solver_record.specs.Record.{with_mean, without_mean}
use Rattle.solver.specs.Solver.{Final, updates, sines, cosines, fit_with_seed}
use Rattle.solver.specs.Record.{record_with_seed}
use Rattle.solver.proofs.RecordLaws.{start_kept}
use Rattle.solver.proofs.SoundLaws.{Own, updates_own}
use Rattle.solver_record.specs.declared.Params.{Params}
use Rattle.solver_record.specs.declared.Started.{Started}
use Rattle.solver_record.specs.declared.TwoAxisFit.{TwoAxisFit}
use Rattle.seed_models.specs.Models.{Table}
use Rattle.seed_models.specs.HeldLaws.{TablesHeld}
use Rattle.robust_choice.specs.Choice.{Source, of_pass, of_seed}
use Rattle.robust_choice.specs.Record.{mean_from}
use Rattle.robust_choice.specs.Parts.{started_of}
use Rattle.robust.specs.Robust.{start, mean_of, variance_of, ring, fit_ring}
use Rattle.robust.specs.Record.{record_ring}
use Rattle.robust.proofs.SoundLaws.{ring_each}

-- ---- for every number of samples and all values
module _ (tables : List Table) (n : ℕ) (samples ring_phi : Row) where
  pub ring_rust : without_mean (record_ring tables n samples ring_phi).fit ≡ fit_ring tables n samples ring_phi
  unfolding record_ring fit_ring
  ring_rust = refl

  pub ring_dropped : (record_ring tables n samples ring_phi).fit.mean ≡ mean_from (ring tables n samples ring_phi).answered.source
  unfolding record_ring
  ring_dropped = refl

-- ---- the sums that the answer is made of are those of a pass at the parameters whose mu is the mean
module _ (n : ℕ) (samples ring_phi : Row) where
  abbrev pub OwnPass : Source → Type 0
  OwnPass (of_pass end) = Own n samples (sines n ring_phi) (cosines n ring_phi) end
  OwnPass (of_seed seed) = 0 ≤ 0

  start_own : (seed : Params) (centered_var : Float) → OwnPass (start n samples ring_phi seed centered_var).source
  unfolding start
  start_own seed centered_var = go (degenerate seed.amp centered_var)
    where
      go : (b : Bool) → OwnPass (cond b (of_seed seed) (of_pass (updates n samples (sines n ring_phi) (cosines n ring_phi) seed)))
      go true = omega arith
      go false = updates_own n samples (sines n ring_phi) (cosines n ring_phi) seed

  pub ring_own : (tables : List Table) → TablesHeld tables → OwnPass (ring tables n samples ring_phi).answered.source
  ring_own tables held =
      ring_each (λ s. OwnPass s.source) tables held n samples ring_phi (λ seed h m. start_own seed (variance_of n samples (mean_of n samples)))

-- ---- the code's start is the definition's, without what that was made of
picked : (b : Bool) (seed : Params) (end : Final) → cond b seed.mu end.p.mu ≡ mean_from (cond b (of_seed seed) (of_pass end))
picked true seed end = refl
picked false seed end = refl

module _ (n : ℕ) (samples ring_phi : Row) (seed : Params) (centered_var : Float) where
  pub start_is : record_with_seed n samples ring_phi seed centered_var ≡ started_of (start n samples ring_phi seed centered_var)
  unfolding start
  start_is =
      let s = record_with_seed n samples ring_phi seed centered_var in
      let with-fit : TwoAxisFit → Started = λ f. record { fit = f; standing = s.standing; updates = s.updates } in
      let mean = picked (degenerate seed.amp centered_var) seed _ in
      ap with-fit (start_kept n samples ring_phi seed centered_var ∙ ap (with_mean (fit_with_seed n samples ring_phi seed centered_var)) mean)
