-- Within the divisor the remainder is the dividend, and one failed test sends the rest to `rem_far`. Assumes nothing.
use Rattle.std.proofs.Common.{◌*◌, ◌^◌, ◌+◌, ◌≡◌, true, mul-pos, pow_pos, le_refl, lit<}
use Rattle.std.specs.Float.{binary32}
use Rattle.floats.specs.FiniteLaws.{of_true}
use Rattle.remainders.specs.RemainderLaws.{M, modulus, rem_within, steps_rep, turn_val, too_low_lem, within, within_if}
use Rattle.remainders.proofs.rem_by.Goals as goal
use Rattle.remainders.proofs.rem_by.Goals.{else-d-x-via-then-d-x+else-x-d, else-d-x-via-else-d-x}

pub returns-then-x-d : goal.returns-then-x-d
returns-then-x-d g c =
    let q = g.row.Q in
    let x = c.args.x in
    let near : within (modulus q) x ≡ true = rw (← c.divisor-d.ensures) (within_if x c.divisor-d.result c.if-d-x.true c.if-x-d.true) in
    rem_within binary32 x (modulus q) (M * 2 ^ (127 + q)) (mul-pos (lit< tt) (pow_pos (127 + q))) (of_true c.well_formed.0.1) (turn_val q c.requires)
    (steps_rep M q (le_refl M) c.requires) near

-- one of the two tests failed
pub rem_far-requires-clause-x_value : goal.rem_far-requires-clause-x_value
rem_far-requires-clause-x_value g c = elim c.else-d-x.branch [
  | else-d-x-via-then-d-x+else-x-d w ↦ rw (← c.divisor-d.ensures) (within_if c.args.x c.divisor-d.result w.if-d-x.true w.if-x-d.false)
  | else-d-x-via-else-d-x w ↦ rw (← c.divisor-d.ensures) (too_low_lem c.args.x c.divisor-d.result w.if-d-x.false)
]
