-- Demand 2 with the mean kept: without it a start's fit is the Rust's, and the mean is the mu that the Rust drops. For both ways of a start make the
-- Rust's fit and put the mean beside it. Assumes nothing.
use Rattle.std.specs.Prelude.{◌≡◌, Bool, cond, ℕ, Float}
use Rattle.std.proofs.Math.Path.{refl}
use Rattle.std.proofs.Common.{ap}
use Rattle.std.proofs.Math.Bool.{true, false}
use Rattle.floats.specs.Rows.{Row}
use Rattle.solver_record.specs.Fit.{degenerate, degenerate_fit}
use Rattle.solver_record.specs.Record.{with_mean, without_mean, degenerate_record, refused}
use Rattle.solver_record.specs.declared.Params.{Params}
use Rattle.solver_record.specs.declared.TwoAxisFit.{TwoAxisFit}
use Rattle.solver.specs.Solver.{Final, updates, sines, cosines, finished_at, fit_with_seed}
use Rattle.solver.specs.Record.{start_from, record_with_seed}

-- for every seed and all values
module _ (n : ℕ) (samples ring_phi : Row) (seed : Params) (centered_var : Float) where
  abbrev end : Final
  end = updates n samples (sines n ring_phi) (cosines n ring_phi) seed

  -- the final parameters' mu, or the seed's of a degenerate start
  abbrev dropped : Float
  dropped = cond (degenerate seed.amp centered_var) seed.mu end.p.mu

  pub start_kept : (record_with_seed n samples ring_phi seed centered_var).fit ≡ with_mean (fit_with_seed n samples ring_phi seed centered_var) dropped
  unfolding record_with_seed fit_with_seed degenerate_record
  start_kept = go (degenerate seed.amp centered_var)
    where
      go : (b : Bool) → (cond b (refused centered_var seed.mu) (start_from n end)).fit ≡
          with_mean (cond b (degenerate_fit centered_var) (finished_at n end)) (cond b seed.mu end.p.mu)
      go true = refl
      go false = refl

  pub start_rust : without_mean (record_with_seed n samples ring_phi seed centered_var).fit ≡ fit_with_seed n samples ring_phi seed centered_var
  start_rust = ap without_mean start_kept

  pub start_mean : (record_with_seed n samples ring_phi seed centered_var).fit.mean ≡ dropped
  start_mean = ap (λ (f : TwoAxisFit). f.mean) start_kept
