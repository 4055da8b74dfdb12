-- A value from the divisor on is a whole number of steps that its pattern shows, and the steps that are left make the remainder exactly. Assumes nothing.
use Rattle.std.proofs.Common.{◌≡◌, sym, ◌∙◌, true, false, T, arith}
use Rattle.std.specs.Float.Ieee.{Float, binary32, ne, eq, sub}
use Rattle.std.specs.Float.Ieee.Scale.{finite}
use borrow.Author.Tests.{not-true, not-false}
use Rattle.floats.specs.FiniteLaws.{finite_test, of_true, finite_number}
use Rattle.remainders.specs.RemainderLaws.{rem_wild, far_field, far_rem, modulus}
use Rattle.remainders.proofs.rem_far.Goals as goal

-- the test of x - x
wild : (x : Float) → ne (sub binary32 x x) (sub binary32 x x) ≡ true → finite x ≡ false
unfolding ne
wild x e = sym (finite_test binary32 x) ∙ not-true (eq (sub binary32 x x) (sub binary32 x x)) e

tame : (x : Float) → ne (sub binary32 x x) (sub binary32 x x) ≡ false → T (finite x)
unfolding ne
tame x e = of_true (sym (finite_test binary32 x) ∙ not-false (eq (sub binary32 x x) (sub binary32 x x)) e)

pub returns-then-d : goal.returns-then-d
returns-then-d c = rem_wild binary32 c.args.x (modulus c.args.q) (wild c.args.x c.if-d.true)

pub float_to_bits-b : goal.float_to_bits-b
float_to_bits-b c = finite_number c.args.x (tame c.args.x c.if-d.false)

pub overflow_sub-k : goal.overflow_sub-k
overflow_sub-k c =
    omega (
      arith,
      far_field c.args.x c.args.q c.requires.q_bound (of_true c.well_formed.0.1) (tame c.args.x c.if-d.false) c.requires.x_value,
    )

pub overflow_sub-k-2 : goal.overflow_sub-k-2
overflow_sub-k-2 c =
    omega (
      arith,
      far_field c.args.x c.args.q c.requires.q_bound (of_true c.well_formed.0.1) (tame c.args.x c.if-d.false) c.requires.x_value,
    )

pub returns : goal.returns
returns c =
    far_rem c.args.x c.args.q c.requires.q_bound (of_true c.well_formed.0.1) (tame c.args.x c.if-d.false) c.requires.x_value
    c.step.result c.reduced.result c.step.ensures c.reduced.ensures
