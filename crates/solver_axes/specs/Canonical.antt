-- The canonical axes: ring_fit/solver.rs, wrap_to_tau and canonicalize_tracking_swap. Definitions only.
use Rattle.std.specs.Prelude.{◌≡◌, Bool, cond, not, ◌||◌, T, Float}
use Rattle.std.specs.Float.{binary32}
use Rattle.std.specs.Float.Ieee.{neg, lt, le, is_nan}
use Rattle.std.specs.Float.Ieee.Scale.{finite}
use Rattle.floats.specs.Ops.{◌⊕◌, ◌⊖◌, nought, pi, tau}
use Rattle.floats.specs.Library.{rem_euclid}
use Rattle.solver_axes.specs.declared.Axes.{Axes}

-- solver.rs: wrap_to_tau. What is not finite becomes 0.
unfoldable pub wrap_to_tau : Float → Float
wrap_to_tau x = let r = rem_euclid binary32 x tau in cond (finite r) r nought

-- (y - x) modulo TAU
unfoldable pub arc : Float → Float → Float
arc x y = rem_euclid binary32 (y ⊖ x) tau

-- axis 1 brought below PI, and axis 2 the arc d further on
unfoldable pub placed : Float → Float → Float → Bool → Axes
placed t d a w = let t1 = rem_euclid binary32 t pi in record { theta1 = t1; theta2 = t1 ⊕ d; amp = a; swapped = w }

-- both axes are wrapped already, and the amplitude is not negative: where the arc is at least PI the axes are exchanged
unfoldable pub axes_settled : Float → Float → Float → Axes
axes_settled t1 t2 a = let w = le pi (arc t1 t2) in placed (cond w t2 t1) (cond w (arc t2 t1) (arc t1 t2)) a w

-- solver.rs: canonicalize_tracking_swap; canonicalize is the same without the last field
unfoldable pub canonicalize_tracking_swap : Float → Float → Float → Axes
canonicalize_tracking_swap t1 t2 a =
    let n = lt a nought in
    axes_settled (cond n (wrap_to_tau (wrap_to_tau t1 ⊕ pi)) (wrap_to_tau t1)) (wrap_to_tau t2) (cond n (neg a) a)

-- What the contracts say of ranges, beside their equations.
-- r is x wrapped by TAU: from 0 to TAU, TAU itself included, for every x, and 0 where x is NaN or an infinity
pub record WrappedTau (x r : Float) : Type 0 where
  pub low : T (le nought r)
  pub high : T (le r tau)
  pub wild : T (not (finite x)) → r ≡ nought

-- canonical axes and their amplitude, for every input, NaN included: 0 ≤ theta1 < PI, theta1 ≤ theta2 < TAU, the amplitude NaN or not below zero
pub record CanonicalRange (theta1 theta2 amp : Float) : Type 0 where
  pub low : T (le nought theta1)
  pub first : T (lt theta1 pi)
  pub order : T (le theta1 theta2)
  pub second : T (lt theta2 tau)
  pub size : T (is_nan amp || le nought amp)
