-- A column with a usable pivot is one turn more, and one without ends the elimination whatever follows. Assumes nothing.
use Rattle.std.specs.Prelude.{◌≡◌, refl, true, false, ℕ, ◌+◌, ◌-◌, ◌<◌, Float, length}
use Rattle.std.proofs.Common.{arith}
use Rattle.std.specs.Float.{nan}
use Rattle.std.specs.Float.Ieee.{eq}
use mathlib.Core.List.{zip_with}
use Rattle.floats.specs.Ops.{◌⊖◌, ◌⊗◌, nought}
use Rattle.floats.specs.Rows.{Row, at}
use Rattle.loops.proofs.TabLaws.{tab_self}
use Rattle.loops.specs.Loops.{iter, tab}
use Rattle.loops.proofs.IterLaws.{iter_next, iter_stuck}
use Rattle.solver_elimination.specs.Solve.{Matrix, Elim, gone, going, column, stopped, columned, reduced}

pub reduced_by :
    (r p : Row) (f : Float) (n : ℕ) → length r ≡ n → length p ≡ n → eq f nought ≡ false →
    zip_with (λ rv pv. rv ⊖ f ⊗ pv) (tab (at r) n) (tab (at p) n) ≡ reduced r p f
unfolding reduced
reduced_by r p f n lr lp e = rw (e, tab_self r nan n lr, tab_self p nan n lp)

pub goes_on : (s : Elim) (i : ℕ) (m : Matrix) → going m ≡ iter column s i → stopped m i ≡ false → going (columned m i) ≡ iter column s (i + 1)
goes_on s i m e t = rw (iter_next, ← e, t)

pub stops_at : (s : Elim) (i : ℕ) (m : Matrix) → i < 4 → going m ≡ iter column s i → stopped m i ≡ true → gone ≡ iter column s 4
stops_at s i m h e f =
    let next : iter column s (i + 1) ≡ gone = rw (iter_next, ← e, f) in
    let z : 4 ≡ (i + 1) + (3 - i) = omega arith in
    rw (z, iter_stuck column s gone (i + 1) (3 - i) (λ _. refl) next)
