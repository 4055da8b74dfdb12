-- The fit record: the Rust's six fields and the mean, which solver.rs drops by `let _ = mu`. A start has beside it what the Rust does not say: the standing
-- of its errors and the number of its updates. A definition with the mean has the Rust's name with Record for Fit. Definitions only.
use Rattle.std.specs.Prelude.{ℕ, Float}
use Rattle.solver_elimination.specs.Solve.{Matrix}
use Rattle.solver_errors.specs.StdErrors.{unfounded, standing}
use Rattle.solver_record.specs.declared.Params.{Params}
use Rattle.solver_record.specs.declared.TwoAxisFit.{TwoAxisFit}
use Rattle.solver_record.specs.declared.Started.{Started}
use Rattle.solver_record.specs.Fit.{RustFit, degenerate_fit, finished}

-- the Rust's fit with a mean, and the projection that drops it
abbrev pub with_mean : RustFit → Float → TwoAxisFit
with_mean f mean =
    record {
      amp = f.amp;
      theta1 = f.theta1;
      theta2 = f.theta2;
      fit_std_error_theta1 = f.fit_std_error_theta1;
      fit_std_error_theta2 = f.fit_std_error_theta2;
      rms = f.rms;
      mean = mean;
    }

abbrev pub without_mean : TwoAxisFit → RustFit
without_mean f =
    record {
      amp = f.amp;
      theta1 = f.theta1;
      theta2 = f.theta2;
      fit_std_error_theta1 = f.fit_std_error_theta1;
      fit_std_error_theta2 = f.fit_std_error_theta2;
      rms = f.rms;
    }

unfoldable pub degenerate_record : Float → Float → TwoAxisFit
degenerate_record centered_var mean = with_mean (degenerate_fit centered_var) mean

-- a start that is degenerate
abbrev pub refused : Float → Float → Started
refused centered_var mean = record { fit = degenerate_record centered_var mean; standing = unfounded; updates = 0 }

-- any other: the fit at the final parameters p, whose mu is its mean
abbrev pub start_of : ℕ → Params → Matrix → Float → ℕ → Started
start_of n p m ssr k = record { fit = with_mean (finished n p m ssr) p.mu; standing = standing m ssr n; updates = k }
