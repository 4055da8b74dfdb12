-- The test is the definition's, and so is the range. Assumes nothing.
use mathlib.Core.Path.{◌≡◌}
use lib.Dec.{T}
use lib.Ieee.{Float, binary32, fits}
use Rattle.solver_axes.specs.Canonical as C
use Rattle.solver_axes.proofs.CanonicalLaws.{wrap_to_tau_range}
use borrow.Author.Rules.{rules}
use Rattle.solver_axes.proofs.wrap_to_tau.Goals as goal

ranged : (x r : Float) → T (fits binary32 x) → r ≡ C.wrap_to_tau x → (r ≡ C.wrap_to_tau x) × C.WrappedTau x r
ranged x r p e = (e, rw e (wrap_to_tau_range x p))

pub returns-then-is_finite : goal.returns-then-is_finite
unfolding C.wrap_to_tau
returns-then-is_finite c =
    let h = ranged c.args.x _ (search rules) (rw (← c.rem_euclid_tau-r.ensures, ← c.is_finite.ensures, c.if-is_finite.true)) in
    record { value = h.0; wrapped_tau = h.1 }

pub returns : goal.returns
unfolding C.wrap_to_tau
returns c =
    let h = ranged c.args.x _ (search rules) (rw (← c.rem_euclid_tau-r.ensures, ← c.is_finite.ensures, c.if-is_finite.false)) in
    record { value = h.0; wrapped_tau = h.1 }
