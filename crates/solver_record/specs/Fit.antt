-- What a start answers, as the Rust has it: ring_fit/solver.rs, degenerate_fit and the end of fit_with_seed. Definitions only.
-- `n` is the number of samples. The record of ours, which keeps the mean, is Record.antt.
use Rattle.std.specs.Prelude.{Bool, cond, not, ◌||◌, ℕ, Float}
use Rattle.std.specs.Float.{binary32}
use Rattle.std.specs.Float.Ieee.{lt}
use Rattle.std.specs.Float.Ieee.Scale.{finite}
use Rattle.floats.specs.Ops.{◌⊘◌, lit, nought, pi, half_pi}
use Rattle.floats.specs.Library.{abs, max, sqrt}
use Rattle.floats.specs.Rows.{count}
use Rattle.solver_elimination.specs.Solve.{Matrix}
use Rattle.solver_errors.specs.StdErrors.{axis_std_errors}
use Rattle.solver_errors.specs.declared.Errors.{Errors}
use Rattle.solver_axes.specs.Canonical.{canonicalize_tracking_swap}
use Rattle.solver_axes.specs.declared.Axes.{Axes}
use Rattle.solver_record.specs.declared.Params.{Params}

-- solver.rs has these as bare numbers: 1e-4 and 1e-6, below which a start is degenerate
abbrev pub min_amp_seed : Float
min_amp_seed = lit 0x38d1_b717

abbrev pub min_centered_var : Float
min_centered_var = lit 0x3586_37bd

-- ---- mod.rs: TwoAxisFit, of six fields
pub record RustFit : Type 0 where
  pub amp : Float
  pub theta1 : Float
  pub theta2 : Float
  pub fit_std_error_theta1 : Float
  pub fit_std_error_theta2 : Float
  pub rms : Float

-- ---- solver.rs: degenerate_fit
unfoldable pub degenerate_fit : Float → RustFit
degenerate_fit centered_var =
    record {
      amp = nought;
      theta1 = nought;
      theta2 = half_pi;
      fit_std_error_theta1 = pi;
      fit_std_error_theta2 = pi;
      rms = sqrt binary32 (max centered_var nought);
    }

-- solver.rs: fit_with_seed refuses such a start
unfoldable pub degenerate : Float → Float → Bool
degenerate amp centered_var = not (finite amp) || (lt (abs amp) min_amp_seed || lt centered_var min_centered_var)

-- the errors follow their axes where these were exchanged
unfoldable pub assembled : Axes → Errors → Float → RustFit
assembled a e rms =
    record {
      amp = a.amp;
      theta1 = a.theta1;
      theta2 = a.theta2;
      fit_std_error_theta1 = cond a.swapped e.error2 e.error1;
      fit_std_error_theta2 = cond a.swapped e.error1 e.error2;
      rms = rms;
    }

-- the fit at the final parameters p, with the matrix and the sum of squares of the last pass
unfoldable pub finished : ℕ → Params → Matrix → Float → RustFit
finished n p m ssr =
    let e = axis_std_errors m ssr n in
    let rms = sqrt binary32 (ssr ⊘ count n) in
    let a = canonicalize_tracking_swap p.theta1 p.theta2 p.amp in
    assembled a e rms

-- its axes, and whether they were exchanged
abbrev pub axes_of : Params → Axes
axes_of p = canonicalize_tracking_swap p.theta1 p.theta2 p.amp
