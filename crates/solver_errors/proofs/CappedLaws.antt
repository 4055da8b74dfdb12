-- A known error is the lesser of a root and PI, and the root is a number, since the variance and the entry are finite and the variance is not below
-- zero: so an error of PI is what the root was cut to, or was itself. Assumes nothing.
use Rattle.std.specs.Prelude.{refl, ℕ, ◌-◌, ◌^◌, ◌≤◌, T, Float}
use Rattle.std.proofs.Common.{arith}
use Rattle.std.specs.Float.{binary32}
use Rattle.std.specs.Float.Ieee.{fits}
use Rattle.std.specs.Float.Ieee.Scale.{finite}
use Rattle.std.proofs.lemmas.Bool.{lt-leb}
use Rattle.floats.specs.Ops.{◌⊗◌, nought}
use Rattle.floats.specs.Library.{max}
use Rattle.floats.specs.Rows.{at}
use Rattle.floats.specs.SquareSumLaws.{Upright}
use Rattle.floats.specs.UprightLaws.{FiniteUpright, mul_upright, share_upright, max_upright, max_finite}
use Rattle.floats.specs.RootRangeLaws.{capped_above}
use Rattle.solver_elimination.specs.Solve.{Matrix}
use Rattle.solver_errors.specs.StdErrors.{axis_error, both_errors, axis_std_errors}
use Rattle.solver_errors.specs.Known.{KnownErrors, residual_var, Estimated}

estimated : (v c : Float) → FiniteUpright v → T (finite c) → Estimated v c (axis_error v c)
unfolding axis_error
estimated v c w q =
    record {
      word = refl;
      capped = capped_above (v ⊗ max c nought) (mul_upright binary32 v (max c nought) w.size (max_finite c q) w.sign (max_upright c));
    }

-- both errors, of a residual sum that is not below zero
pub known_estimated :
    (m : Matrix) (ssr : Float) (n : ℕ) → T (fits binary32 ssr) → Upright ssr → n ≤ 2 ^ 24 → (k : KnownErrors m ssr n) →
    let e = axis_std_errors m ssr n in
    let v = residual_var ssr n in
    Estimated v (at k.first.solution 2) e.error1 × Estimated v (at k.second.solution 3) e.error2
unfolding axis_std_errors both_errors
known_estimated m ssr n p h few k =
    let s = k.samples in
    let w = share_upright binary32 ssr (n - 4) p k.sum h (omega (arith, s)) (omega (arith, few)) in
    rw (lt-leb n 4 s, k.first.solved, k.second.solved) (estimated _ _ w k.first.value, estimated _ _ w k.second.value)
