-- A t of log + 1 digits moved up by 23 - log places has 24 digits, and what the shift has moved up, the exponent takes back. Assumes nothing.
use Rattle.std.proofs.Common.{◌≡◌, sym, ap, ◌∙◌, ℕ, ◌+◌, ◌-◌, ◌*◌, ◌%◌, ◌^◌, ◌<◌, ◌≤◌, arith, subst, lit<, one-mul, le_trans}
use Rattle.std.proofs.Common.{lt_of_lt_of_le, lt_of_le_of_lt, mod-eq_of_lt, mul-le-mul_right, mul-lt-mul_of_pos_right, pow_pos, pow-add, le_of_eq}
use Rattle.std.specs.Float.{binary32}
use Rattle.floats.specs.RootLaws.{few_shifts, shift_more, shift_back}
use Rattle.floats.specs.Library.{root_units}
use Rattle.roots.proofs.root_small.Goals as goal

-- t has log + 1 digits, the top one set
few : (t log : ℕ) → 2 ^ log ≤ t → t < 8388608 → log < 23
few t log l h = few_shifts 1 (2 ^ log) log (lit< tt) (sym (one-mul (2 ^ log))) (lt_of_le_of_lt l h)

least : (t log : ℕ) → 2 ^ log ≤ t → log ≤ 23 → 8388608 ≤ t * 2 ^ (23 - log)
least t log l h =
    let whole : log + (23 - log) ≡ 23 = omega arith in
    le_trans (le_of_eq (sym (ap (λ (z : ℕ). 2 ^ z) whole) ∙ pow-add 2 log (23 - log))) (mul-le-mul_right (2 ^ (23 - log)) l)

most : (t log : ℕ) → t < 2 * 2 ^ log → log ≤ 23 → t * 2 ^ (23 - log) < 16777216
most t log l h =
    let whole : log + 1 + (23 - log) ≡ 24 = omega arith in
    let next : 2 * 2 ^ log ≡ 2 ^ (log + 1) = omega (arith, shift_more 1 (2 ^ log) log (sym (one-mul (2 ^ log)))) in
    lt_of_lt_of_le (mul-lt-mul_of_pos_right (subst (λ (z : ℕ). t < z) next l) (pow_pos (23 - log)))
    (le_of_eq (sym (pow-add 2 (log + 1) (23 - log)) ∙ ap (λ (z : ℕ). 2 ^ z) whole))

-- the shift drops nothing
held : (m : ℕ) → m < 16777216 → m % 18446744073709551616 ≡ m
held m h = mod-eq_of_lt (omega (arith, h))

pub overflow_sub-i : goal.overflow_sub-i
overflow_sub-i c = omega (arith, few c.args.t c.ilog2.result c.ilog2.ensures.power_le c.requires.t_bound)

pub root_parts-requires-clause-bound : goal.root_parts-requires-clause-bound
root_parts-requires-clause-bound c =
    let t = c.args.t in
    let log = c.ilog2.result in
    let h : log ≤ 23 = omega (arith, few t log c.ilog2.ensures.power_le c.requires.t_bound) in
    let m = most t log c.ilog2.ensures.next_power_gt h in
    subst (λ (z : ℕ). 8388608 ≤ z) (sym (held (t * 2 ^ (23 - log)) m)) (least t log c.ilog2.ensures.power_le h)

pub root_parts-requires-clause-m_bound : goal.root_parts-requires-clause-m_bound
root_parts-requires-clause-m_bound c =
    let t = c.args.t in
    let log = c.ilog2.result in
    let h : log ≤ 23 = omega (arith, few t log c.ilog2.ensures.power_le c.requires.t_bound) in
    let m = most t log c.ilog2.ensures.next_power_gt h in
    subst (λ (z : ℕ). z < 16777216) (sym (held (t * 2 ^ (23 - log)) m)) m

pub returns : goal.returns
returns c =
    let t = c.args.t in
    let log = c.ilog2.result in
    let h : log ≤ 23 = omega (arith, few t log c.ilog2.ensures.power_le c.requires.t_bound) in
    let m = most t log c.ilog2.ensures.next_power_gt h in
    c.root_parts.ensures ∙ ap (root_units binary32) (shift_back t _ (23 - log) (omega arith) (held (t * 2 ^ (23 - log)) m))
