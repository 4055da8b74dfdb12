-- Multiples dropped on the way are multiples of the whole, so each turn keeps the remainder, and 24 digits moved up by fewer than 32 places fit.
-- Assumes nothing.
use Rattle.std.proofs.Common.{◌≡◌, ◌∙◌, ◌*◌, ◌+◌, ◌-◌, ◌%◌, ◌^◌, ◌<◌, ◌≤◌, ℕ, ap, arith, lit<, le_of_lt, lt_of_le_of_lt, mod-eq_of_lt, mul-le-mul, pow_mono}
use Rattle.remainders.specs.RemainderLaws.{M, mod_part}
use Rattle.remainders.proofs.reduced.Goals as goal

-- a turn takes 32 places of those that are left
turned : (n k i : ℕ) → 32 * (i + 1) ≤ k → n * 2 ^ 32 % M * 2 ^ (k - 32 * (i + 1)) % M ≡ n * 2 ^ (k - 32 * i) % M
turned n k i h =
    let less : k - 32 * (i + 1) ≡ k - 32 * i - 32 = omega arith in
    ap (λ (z : ℕ). n * 2 ^ 32 % M * 2 ^ z % M) less ∙ mod_part n 32 (k - 32 * i) M (omega arith)

pub loop-init : goal.loop-init
loop-init c = (c.requires, ap (λ (z : ℕ). c.args.m * 2 ^ z % M) (omega arith))

pub loop-preserved : goal.loop-preserved
loop-preserved c =
    let l = c.loop in
    (omega arith, turned l.n c.args.k l.counter (omega arith) ∙ l.invariant.1)

pub returns : goal.returns
returns c =
    let l = c.loop in
    let k = c.args.k in
    let left : k % 32 ≡ k - 32 * l.counter = omega arith in
    let few : k % 32 ≤ 32 = omega arith in
    let fits : l.n * 2 ^ (k % 32) < 18446744073709551616 = lt_of_le_of_lt (mul-le-mul (le_of_lt l.invariant.0) (pow_mono few)) (lit< tt) in
    ap (λ (z : ℕ). z % M) (mod-eq_of_lt fits) ∙ ap (λ (z : ℕ). l.n * 2 ^ z % M) left ∙ l.invariant.1
