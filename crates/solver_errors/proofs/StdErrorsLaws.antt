-- Errors lie from 0 to PI for every matrix, since each is capped; and they are known exactly if what is asked of them holds, case by case. Assumes nothing.
use Rattle.std.specs.Prelude.{◌≡◌, Bool, cond, ◌&&◌, ℕ, ◌-◌, pos, Option, Some, None}
use Rattle.std.proofs.Math.Path.{refl}
use Rattle.std.proofs.Math.Bool.{true, false}
use Rattle.std.proofs.lemmas.Bool.{false≢true, lt-leb}
use Rattle.std.proofs.Math.Dec.{T, leb, nleb→lt}
use lib.Ieee.{Float, binary32, le, of_int}
use Rattle.std.specs.Float.Ieee.Bits.{is_true}
use Rattle.std.specs.Float.Ieee.Scale.{finite}
use Rattle.floats.specs.Ops.{◌⊗◌, ◌⊘◌, nought, pi}
use Rattle.floats.specs.Library.{max}
use Rattle.floats.specs.Rows.{Row, at}
use Rattle.floats.specs.RootRangeLaws.{capped_root, pi_between}
use Rattle.solver_elimination.specs.Solve.{Matrix, solve4x4, unit2, unit3}
use Rattle.solver_elimination.specs.Wide.{sides}
use Rattle.solver_errors.specs.declared.Errors.{Errors}
use Rattle.solver_errors.specs.StdErrors.{axis_error, unknown, both_errors, axis_std_errors, unfounded, both_standing, standing_by, standing}
use Rattle.solver_errors.specs.Parts.{both_estimated, estimate_by}
use Rattle.solver_errors.specs.Known.{FiniteAt, KnownErrors}

-- ---- what one elimination gives for both
pub estimate_by_lem : (ssr v : Float) (s t : Option Row) → both_estimated ssr v s t ≡ estimate_by ssr v (sides s t)
unfolding both_errors both_standing sides
estimate_by_lem ssr v None t = refl
estimate_by_lem ssr v (Some x) None = refl
estimate_by_lem ssr v (Some x) (Some y) = refl

-- ---- ranges
pub record Bounded (e : Errors) : Type 0 where
  pub low1 : T (le nought e.error1)
  pub high1 : T (le e.error1 pi)
  pub low2 : T (le nought e.error2)
  pub high2 : T (le e.error2 pi)

both_bounded : (v : Float) (s t : Option Row) → Bounded (both_errors v s t)
unfolding both_errors axis_error
both_bounded v None t = let p = pi_between in record { low1 = p.0; high1 = p.1; low2 = p.0; high2 = p.1 }
both_bounded v (Some x) None = let p = pi_between in record { low1 = p.0; high1 = p.1; low2 = p.0; high2 = p.1 }
both_bounded v (Some x) (Some y) =
    let p = capped_root (v ⊗ max (at x 2) nought) (lib.Ieee.Fits.mul-fits binary32 v (max (at x 2) nought)) in
    let q = capped_root (v ⊗ max (at y 3) nought) (lib.Ieee.Fits.mul-fits binary32 v (max (at y 3) nought)) in
    record { low1 = p.0; high1 = p.1; low2 = q.0; high2 = q.1 }

pub errors_bounded : (m : Matrix) (ssr : Float) (n : ℕ) → Bounded (axis_std_errors m ssr n)
unfolding axis_std_errors
errors_bounded m ssr n = go (leb n 4)
  where
    both : Errors
    both = both_errors (ssr ⊘ of_int binary32 (pos (n - 4))) (solve4x4 m unit2) (solve4x4 m unit3)

    go : (b : Bool) → Bounded (cond b unknown both)
    go true = let p = pi_between in record { low1 = p.0; high1 = p.1; low2 = p.0; high2 = p.1 }
    go false = both_bounded (ssr ⊘ of_int binary32 (pos (n - 4))) (solve4x4 m unit2) (solve4x4 m unit3)

-- ---- known
module _ (ssr : Float) where
  both_known : (s t : Option Row) → (both_standing ssr s t).known ≡ true → T (finite ssr) × FiniteAt 2 s × FiniteAt 3 t
  unfolding both_standing standing_by
  both_known None t e = absurd (false≢true e)
  both_known (Some x) None e = absurd (false≢true e)
  both_known (Some x) (Some y) e =
      let h = three (finite ssr) (finite (at x 2)) (finite (at y 3)) e in
      (h.0, record { solution = x; solved = refl; value = h.1 }, record { solution = y; solved = refl; value = h.2 })
    where
      three : (a b c : Bool) → (a && (b && c)) ≡ true → T a × T b × T c
      three true true true e = (tt, tt, tt)
      three true true false e = absurd (false≢true e)
      three true false c e = absurd (false≢true e)
      three false b c e = absurd (false≢true e)

  known_both : (s t : Option Row) → T (finite ssr) → FiniteAt 2 s → FiniteAt 3 t → (both_standing ssr s t).known ≡ true
  unfolding both_standing standing_by
  known_both s t h u v =
      rw (u.solved, v.solved, is_true (finite ssr) h, is_true (finite (at u.solution 2)) u.value, is_true (finite (at v.solution 3)) v.value)

-- Errors are known exactly if that holds.
module _ (m : Matrix) (ssr : Float) (n : ℕ) where
  pub known_only : (standing m ssr n).known ≡ true → KnownErrors m ssr n
  unfolding standing
  known_only = go (leb n 4) refl
    where
      go : (b : Bool) → leb n 4 ≡ b → (cond b unfounded (both_standing ssr (solve4x4 m unit2) (solve4x4 m unit3))).known ≡ true → KnownErrors m ssr n
      go true p e = absurd (false≢true e)
      go false p e =
          let h = both_known ssr (solve4x4 m unit2) (solve4x4 m unit3) e in
          record { samples = nleb→lt n 4 (rw p tt); sum = h.0; first = h.1; second = h.2 }

  pub known_if : KnownErrors m ssr n → (standing m ssr n).known ≡ true
  unfolding standing
  known_if k = rw (lt-leb n 4 k.samples) (known_both ssr (solve4x4 m unit2) (solve4x4 m unit3) k.sum k.first k.second)
