-- Both lengths, and then the values. Assumes nothing.
use Rattle.std.proofs.Common.{sym, ◌∙◌, eq-eqb, ne_eqb}
use Rattle.std.proofs.lemmas.Result.{err_from_is_err_and}
use Rattle.checked.specs.CheckedLaws.{ring_unsized, ring_places, ring_tested}
use Rattle.checked.proofs.check_ring.Goals as goal
use Rattle.checked.proofs.check_ring.Goals.{then-samples-n-via-then-samples-n, then-samples-n-via-else-samples-n+then-angles-n}

-- the first length is another, or the second is
pub returns-then-samples-n : goal.returns-then-samples-n
returns-then-samples-n c =
    λ tables. ring_unsized tables c.args.n c.args.samples.now c.args.angles.now
    (elim c.then-samples-n.branch [
      | then-samples-n-via-then-samples-n w ↦ rw (ne_eqb _ _ w.if-samples-n.true)
      | then-samples-n-via-else-samples-n+then-angles-n w ↦ rw (eq-eqb _ _ w.if-samples-n.false, ne_eqb _ _ w.if-angles-n.true)
    ])

pub returns-in_err-check_values : goal.returns-in_err-check_values
returns-in_err-check_values c =
    let a = c.args in
    let p = err_from_is_err_and c.from_residual.result c.from_residual.ensures.1 in
    let q = rw (← c.in_err-check_values.ensures) at (ring_places a.n a.samples.now a.angles.now c.if-samples-n.false) in
    rw (p.1, p.2) (ring_tested a.n a.samples.now a.angles.now c.if-samples-n.false c.if-angles-n.false _ (sym q))

pub returns : goal.returns
returns c =
    let a = c.args in
    let q = rw (← c.in_ok-check_values.ensures) at (ring_places a.n a.samples.now a.angles.now c.if-samples-n.false) in
    ring_tested a.n a.samples.now a.angles.now c.if-samples-n.false c.if-angles-n.false _ (c.check_values-2.ensures ∙ sym q)
