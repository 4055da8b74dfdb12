-- The test on the amplitude is the definition's, and so is the range. Assumes nothing.
use mathlib.Core.Path.{◌≡◌}
use lib.Dec.{T}
use lib.Ieee.{Float, binary32, fits}
use Rattle.solver_axes.specs.declared.Axes.{Axes}
use Rattle.solver_axes.specs.Canonical as C
use Rattle.solver_axes.proofs.CanonicalLaws.{canonical_range}
use borrow.Author.Rules.{rules}
use Rattle.solver_axes.proofs.canonicalize_tracking_swap.Goals as goal

module _ (t1 t2 a : Float) (r : Axes) (p : T (fits binary32 t1)) (q : T (fits binary32 t2)) (z : T (fits binary32 a)) where
  ranged : r ≡ C.canonicalize_tracking_swap t1 t2 a → (r ≡ C.canonicalize_tracking_swap t1 t2 a) × C.CanonicalRange r.theta1 r.theta2 r.amp
  ranged e = (e, rw e (canonical_range t1 t2 a p q z))

pub returns-then-amp : goal.returns-then-amp
unfolding C.canonicalize_tracking_swap
returns-then-amp c =
    let one = c.wrap_to_tau-t1.ensures.value in
    let two = c.wrap_to_tau-t2.ensures.value in
    let turned = c.wrap_to_tau.ensures.value in
    let h = ranged c.args.theta1 c.args.theta2 c.args.amp _ (search rules) (search rules) (search rules)
    (rw (c.if-amp.true, ← one, ← two, ← turned) c.axes_settled.ensures) in
    record { value = h.0; canonical_range = h.1 }

pub returns : goal.returns
unfolding C.canonicalize_tracking_swap
returns c =
    let one = c.wrap_to_tau-t1.ensures.value in
    let two = c.wrap_to_tau-t2.ensures.value in
    let h = ranged c.args.theta1 c.args.theta2 c.args.amp _ (search rules) (search rules) (search rules)
    (rw (c.if-amp.false, ← one, ← two) c.axes_settled-2.ensures) in
    record { value = h.0; canonical_range = h.1 }
