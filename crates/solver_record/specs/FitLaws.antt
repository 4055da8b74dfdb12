-- A fit is sound, whatever went in: its axes and errors lie in their ranges and its amplitude is NaN or not below zero. Its errors are those of its matrix.
-- Without the mean the record of a degenerate start is the Rust's. Assumes nothing.
use Rattle.std.specs.Prelude.{◌≡◌, refl, Bool, true, false, cond, ◌||◌, ℕ, T}
use Rattle.std.specs.Float.Ieee.{Float, lt, le, eq, fits, is_nan, of_bits}
use Rattle.std.specs.Float.{binary32}
use Rattle.floats.specs.Ops.{nought, pi, tau}
use Rattle.solver_elimination.specs.Solve.{Matrix}
use Rattle.solver_errors.specs.StdErrors.{axis_std_errors}
use Rattle.solver_errors.proofs.StdErrorsLaws.{Bounded, errors_bounded}
use Rattle.solver_errors.specs.declared.Errors.{Errors}
use Rattle.solver_axes.specs.Canonical.{canonicalize_tracking_swap, CanonicalRange}
use Rattle.solver_axes.proofs.CanonicalLaws.{canonical_range}
use Rattle.solver_axes.specs.declared.Axes.{Axes}
use Rattle.solver_record.specs.declared.Params.{Params}
use Rattle.solver_record.specs.Fit.{RustFit, degenerate_fit, assembled, finished, axes_of}
use Rattle.solver_record.specs.Record.{without_mean, degenerate_record}

-- ---- parameters that an f32 holds
pub record ParamsHeld (p : Params) : Type 0 where
  pub amp : T (fits binary32 p.amp)
  pub one : T (fits binary32 p.theta1)
  pub two : T (fits binary32 p.theta2)

-- ---- a sound fit
pub record Sound (f : RustFit) : Type 0 where
  pub low : T (le nought f.theta1)
  pub first : T (lt f.theta1 pi)
  pub order : T (le f.theta1 f.theta2)
  pub second : T (lt f.theta2 tau)
  pub low1 : T (le nought f.fit_std_error_theta1)
  pub high1 : T (le f.fit_std_error_theta1 pi)
  pub low2 : T (le nought f.fit_std_error_theta2)
  pub high2 : T (le f.fit_std_error_theta2 pi)
  pub size : T (is_nan f.amp || le nought f.amp)

assembled_sound : (a : Axes) (e : Errors) (rms : Float) → CanonicalRange a.theta1 a.theta2 a.amp → Bounded e → Sound (assembled a e rms)
assembled_sound a e rms r b = unfold assembled in go a.swapped
  where
    given : Float → Float → RustFit
    given e1 e2 =
        record {
          amp = a.amp;
          theta1 = a.theta1;
          theta2 = a.theta2;
          fit_std_error_theta1 = e1;
          fit_std_error_theta2 = e2;
          rms = rms;
        }

    with_errors : (e1 e2 : Float) → T (le nought e1) → T (le e1 pi) → T (le nought e2) → T (le e2 pi) → Sound (given e1 e2)
    with_errors e1 e2 l1 h1 l2 h2 =
        record { low = r.low; first = r.first; order = r.order; second = r.second; low1 = l1; high1 = h1; low2 = l2; high2 = h2; size = r.size }

    go : (w : Bool) → Sound (given (cond w e.error2 e.error1) (cond w e.error1 e.error2))
    go true = with_errors e.error2 e.error1 b.low2 b.high2 b.low1 b.high1
    go false = with_errors e.error1 e.error2 b.low1 b.high1 b.low2 b.high2

pub finished_sound : (n : ℕ) (p : Params) (m : Matrix) (ssr : Float) → ParamsHeld p → Sound (finished n p m ssr)
unfolding finished
finished_sound n p m ssr h =
    assembled_sound (canonicalize_tracking_swap p.theta1 p.theta2 p.amp) (axis_std_errors m ssr n) _
    (canonical_range p.theta1 p.theta2 p.amp h.one h.two h.amp) (errors_bounded m ssr n)

pub degenerate_sound : (centered_var : Float) → Sound (degenerate_fit centered_var)
unfolding degenerate_fit le lt eq is_nan of_bits
degenerate_sound centered_var = record { low = tt; first = tt; order = tt; second = tt; low1 = tt; high1 = tt; low2 = tt; high2 = tt; size = tt }

-- ---- the amplitude and the two axes of a fit, and their errors, which are exchanged exactly where the axes are
pub record ErrorsOf (a : Axes) (e : Errors) (f : RustFit) : Type 0 where
  pub amp : f.amp ≡ a.amp
  pub axis1 : f.theta1 ≡ a.theta1
  pub axis2 : f.theta2 ≡ a.theta2
  pub first : f.fit_std_error_theta1 ≡ cond a.swapped e.error2 e.error1
  pub second : f.fit_std_error_theta2 ≡ cond a.swapped e.error1 e.error2

pub finished_errors : (n : ℕ) (p : Params) (m : Matrix) (ssr : Float) → ErrorsOf (axes_of p) (axis_std_errors m ssr n) (finished n p m ssr)
unfolding finished assembled
finished_errors n p m ssr = record { amp = refl; axis1 = refl; axis2 = refl; first = refl; second = refl }

-- ---- demand 2
pub degenerate_rust : (centered_var mean : Float) → without_mean (degenerate_record centered_var mean) ≡ degenerate_fit centered_var
unfolding degenerate_record
degenerate_rust centered_var mean = refl
