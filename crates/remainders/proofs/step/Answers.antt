-- A step is 2 ^ -22 for PI and 2 ^ -21 for TAU, 2 ^ 127 and 2 ^ 128 units. Assumes nothing.
use Rattle.std.proofs.Common.{ℕ, ◌+◌, ◌^◌, ◌≡◌, refl, sym, subst, Bool, false, arith, negsuc}
use Rattle.std.specs.Float.Ieee.{Float, fin, binary32, of_bits}
use Rattle.floats.specs.Ops.{lit, minus}
use Rattle.floats.specs.UnitLaws.{Val, neg_val}
use Rattle.remainders.proofs.step.Goals as goal

pi_step : lit 0x3480_0000 ≡ fin false 1 (negsuc 21)
unfolding of_bits
pi_step = refl

tau_step : lit 0x3500_0000 ≡ fin false 1 (negsuc 20)
unfolding of_bits
tau_step = refl

pi_val : Val binary32 (lit 0x3480_0000) false (2 ^ 127)
pi_val = subst (λ (z : Float). Val binary32 z false (2 ^ 127)) (sym pi_step) (refl, refl)

tau_val : Val binary32 (lit 0x3500_0000) false (2 ^ 128)
tau_val = subst (λ (z : Float). Val binary32 z false (2 ^ 128)) (sym tau_step) (refl, refl)

-- the sign and the divisor, as the tests found them
found : (r : Float) {s t : Bool} {p q : ℕ} → s ≡ t → p ≡ q → Val binary32 r t (2 ^ (127 + q)) → Val binary32 r s (2 ^ (127 + p))
found r {s} {t} {p} {q} e h v =
    subst (λ (z : Bool). Val binary32 r z (2 ^ (127 + p))) (sym e) (subst (λ (z : ℕ). Val binary32 r t (2 ^ (127 + z))) (sym h) v)

pub returns-then-x : goal.returns-then-x
returns-then-x c = found (minus 0x3480_0000) c.if-x.true c.if-q-eq0.true (neg_val binary32 (lit 0x3480_0000) false (2 ^ 127) pi_val)

pub returns-then-q-eq0 : goal.returns-then-q-eq0
returns-then-q-eq0 c = found (lit 0x3480_0000) c.if-x.false c.if-q-eq0.true pi_val

pub returns-then-x-2 : goal.returns-then-x-2
returns-then-x-2 c =
    found (minus 0x3500_0000) {q = 1} c.if-x-2.true (omega arith) (neg_val binary32 (lit 0x3500_0000) false (2 ^ 128) tau_val)

pub returns : goal.returns
returns c = found (lit 0x3500_0000) {q = 1} c.if-x-2.false (omega arith) tau_val
