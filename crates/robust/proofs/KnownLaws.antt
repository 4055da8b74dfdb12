-- The errors in an answer's words and their standing are those of one start, the answered one: of its last pass's matrix and sum, the errors in the
-- order of the axes; or, where it is degenerate, PI and not known. For a choice between two starts takes the whole start. Assumes nothing.
use Rattle.std.specs.Prelude.{◌≡◌, Bool, true, cond, List, ℕ, Float}
use Rattle.std.proofs.Math.Path.{refl}
use Rattle.std.proofs.Math.Bool.{false}
use Rattle.floats.specs.Ops.{pi}
use Rattle.floats.specs.Rows.{Row}
use Rattle.solver_errors.specs.StdErrors.{axis_std_errors, unfounded, standing}
use Rattle.solver_errors.specs.declared.Standing.{Standing}
use Rattle.solver_record.specs.Fit.{RustFit, axes_of, degenerate, degenerate_fit}
use Rattle.solver_record.specs.Record.{without_mean, refused}
use Rattle.solver_record.specs.FitLaws.{ErrorsOf, finished_errors}
use Rattle.solver.specs.Solver.{Final, sines, cosines, updates, finished_at, fit_with_seed}
use Rattle.solver.specs.Record.{start_from, record_with_seed}
use Rattle.solver_record.specs.declared.Params.{Params}
use Rattle.seed_models.specs.Models.{Table}
use Rattle.seed_models.specs.HeldLaws.{TablesHeld}
use Rattle.robust_choice.specs.Choice.{Source, of_pass, of_seed, Start}
use Rattle.robust.specs.Robust.{start, mean_of, variance_of, ring}
use Rattle.robust.specs.Record.{record_ring}
use Rattle.robust.proofs.SoundLaws.{ring_each}

abbrev pub StandsOn : ℕ → Source → RustFit → Standing → Type 0
StandsOn n (of_seed seed) f s = (f.fit_std_error_theta1 ≡ pi) × (f.fit_std_error_theta2 ≡ pi) × (s ≡ unfounded)
StandsOn n (of_pass end) f s =
    let l = end.last in ErrorsOf (axes_of end.p) (axis_std_errors l.m l.ssr n) f × (s ≡ standing l.m l.ssr n)

start_stands : (n : ℕ) (samples ring_phi : Row) (seed : Params) (centered_var : Float)
    → let s = start n samples ring_phi seed centered_var in StandsOn n s.source s.fit s.standing
unfolding start fit_with_seed record_with_seed
start_stands n samples ring_phi seed centered_var = go (degenerate seed.amp centered_var)
  where
    end : Final
    end = updates n samples (sines n ring_phi) (cosines n ring_phi) seed

    go : (b : Bool) → StandsOn n (cond b (of_seed seed) (of_pass end)) (cond b (degenerate_fit centered_var) (finished_at n end))
        (cond b (refused centered_var seed.mu) (start_from n end)).standing
    go true = unfold degenerate_fit in (refl, refl, refl)
    go false = (finished_errors n end.p end.last.m end.last.ssr, refl)

-- for every number of samples and all values
pub ring_stands : (tables : List Table) → TablesHeld tables → (n : ℕ) (samples ring_phi : Row)
    → let r = record_ring tables n samples ring_phi in StandsOn n (ring tables n samples ring_phi).answered.source (without_mean r.fit) r.standing
unfolding record_ring
ring_stands tables held n samples ring_phi =
    ring_each (λ (s : Start). StandsOn n s.source s.fit s.standing) tables held n samples ring_phi
    (λ seed h m. start_stands n samples ring_phi seed (variance_of n samples (mean_of n samples)))
