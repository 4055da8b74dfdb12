-- The number of pixels, the lengths, and then the values. Assumes nothing.
use Rattle.std.proofs.Common.{◌≡◌, refl, ◌∙◌, true, ℕ, eqb, eq-eqb, ne_eqb, lt-ltb, le-ltb}
use Rattle.std.proofs.lemmas.Result.{err_from_is_err_and}
use Rattle.checked.specs.Checked as C
use Rattle.checked.specs.CheckedLaws.{disk_refused, disk_passed}
use Rattle.checked.proofs.fit_disk.Goals as goal
use Rattle.checked.proofs.fit_disk.Goals.{then-n-eq0-via-then-n-eq0, then-n-eq0-via-else-n-eq0+then-n-gt-MAX_TANH_PIXELS}
use Rattle.checked.proofs.fit_disk.Goals.{then-ys-n-via-then-ys-n, then-ys-n-via-else-ys-n+then-vals_centered-n}
use Rattle.checked.proofs.fit_disk.Goals.{then-ys-n-via-else-ys-n+else-vals_centered-n+then-grad_angles-n}
use Rattle.checked.proofs.fit_disk.Goals.{then-ys-n-via-else-ys-n+else-vals_centered-n+else-grad_angles-n+then-grad_weights-n}

xs_same : (n : ℕ) → eqb n n ≡ true
xs_same n = eq-eqb n n refl

-- no pixel, or too many
pub returns-then-n-eq0 : goal.returns-then-n-eq0
unfolding C.checked_disk
returns-then-n-eq0 c =
    elim c.then-n-eq0.branch [
      | then-n-eq0-via-then-n-eq0 w ↦ rw (eq-eqb _ _ w.if-n-eq0.true)
      | then-n-eq0-via-else-n-eq0+then-n-gt-MAX_TANH_PIXELS w ↦ rw (ne_eqb _ _ w.if-n-eq0.false, lt-ltb _ _ w.if-n-gt-MAX_TANH_PIXELS.true)
    ]

-- the first length that differs is that of ys, the values, the angles or the weights
pub returns-then-ys-n : goal.returns-then-ys-n
unfolding C.checked_disk C.same_lengths
returns-then-ys-n c =
    let some = ne_eqb _ _ c.if-n-eq0.false in
    let few = le-ltb _ _ c.if-n-gt-MAX_TANH_PIXELS.false in
    elim c.then-ys-n.branch [
      | then-ys-n-via-then-ys-n w ↦ rw (some, few, xs_same _, ne_eqb _ _ w.if-ys-n.true)
      | then-ys-n-via-else-ys-n+then-vals_centered-n w ↦
          rw (some, few, xs_same _, eq-eqb _ _ w.if-ys-n.false, ne_eqb _ _ w.if-vals_centered-n.true)
      | then-ys-n-via-else-ys-n+else-vals_centered-n+then-grad_angles-n w ↦
          rw (some, few, xs_same _, eq-eqb _ _ w.if-ys-n.false, eq-eqb _ _ w.if-vals_centered-n.false, ne_eqb _ _ w.if-grad_angles-n.true)
      | then-ys-n-via-else-ys-n+else-vals_centered-n+else-grad_angles-n+then-grad_weights-n w ↦
          rw (
            some,
            few,
            xs_same _,
            eq-eqb _ _ w.if-ys-n.false,
            eq-eqb _ _ w.if-vals_centered-n.false,
            eq-eqb _ _ w.if-grad_angles-n.false,
            ne_eqb _ _ w.if-grad_weights-n.true,
          )
    ]

pub returns-in_err-check_disk_values : goal.returns-in_err-check_disk_values
unfolding C.checked_disk C.same_lengths
returns-in_err-check_disk_values c =
    let p = err_from_is_err_and c.from_residual.result c.from_residual.ensures.1 in
    rw (
      p.1,
      p.2,
      ne_eqb _ _ c.if-n-eq0.false,
      le-ltb _ _ c.if-n-gt-MAX_TANH_PIXELS.false,
      xs_same _,
      eq-eqb _ _ c.if-ys-n.false,
      eq-eqb _ _ c.if-vals_centered-n.false,
      eq-eqb _ _ c.if-grad_angles-n.false,
      eq-eqb _ _ c.if-grad_weights-n.false,
    ) (disk_refused _ _ _ _ _ c.in_err-check_disk_values.ensures)

pub returns : goal.returns
unfolding C.checked_disk C.same_lengths
returns c =
    rw (
      ne_eqb _ _ c.if-n-eq0.false,
      le-ltb _ _ c.if-n-gt-MAX_TANH_PIXELS.false,
      xs_same _,
      eq-eqb _ _ c.if-ys-n.false,
      eq-eqb _ _ c.if-vals_centered-n.false,
      eq-eqb _ _ c.if-grad_angles-n.false,
      eq-eqb _ _ c.if-grad_weights-n.false,
    ) (c.disk_fitted.ensures ∙ disk_passed _ _ _ _ _ c.in_ok-check_disk_values.ensures)
