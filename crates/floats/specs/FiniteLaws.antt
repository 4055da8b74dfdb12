-- x - x equals itself exactly where x is finite: how a program tests for that without reading bits. Zero as its bit pattern. Assumes nothing.
use Rattle.std.specs.Prelude.{◌≡◌, ℕ, suc, ◌+◌, ◌-◌, ◌*◌, ◌^◌, ◌<◌, Bool, true, false, not, ◌&&◌, T, ℤ, pos, ◌==◌, Float}
use Rattle.std.proofs.Math.Path.{refl}
use Rattle.std.proofs.Common.{sym, ap, ◌∙◌, subst, le_refl, zero-mul, mul-pos, pow_pos}
use Rattle.std.proofs.Math.Nat.{sub_self}
use Rattle.std.proofs.Math.Dec.{eqb_refl}
use Rattle.std.specs.Float.{nan, inf, fin, Format, binary32, binary64}
use Rattle.std.specs.Float.Ieee.{prec, emax, low, up, down, round, add, sub, neg, eq, of_bits, is_nan}
use Rattle.std.specs.Float.Ieee.Fits.{down_pos}
use Rattle.std.specs.Float.Ieee.Bits.{is_true}
use Rattle.std.specs.Float.Ieee.Exact.{HasValue, round_exact}
use Rattle.std.specs.Float.Ieee.Scale.{finite}
use Rattle.floats.specs.NonNegLaws.{sum_pn_ge, sum_np_eq}

pub zero32 : of_bits binary32 0 ≡ fin false 0 (pos 0)
unfolding of_bits
zero32 = refl

pub zero64 : of_bits binary64 0 ≡ fin false 0 (pos 0)
unfolding of_bits
zero64 = refl

-- a zero of either format is the same value
pub nought64 : of_bits binary64 0 ≡ of_bits binary32 0
nought64 = zero64 ∙ sym zero32

eq_self : (x : Float) → T (finite x) → eq x x ≡ true
unfolding eq
eq_self nan t = absurd t
eq_self (inf s) t = absurd t
eq_self (fin true m e) t = ap (λ (z : Bool). z && true) (is_true (m * up e * down e == m * up e * down e) (eqb_refl (m * up e * down e)))
eq_self (fin false m e) t = ap (λ (z : Bool). z && true) (is_true (m * up e * down e == m * up e * down e) (eqb_refl (m * up e * down e)))

has_finite : (x : Float) (s : Bool) (a c : ℕ) → HasValue x s a c → T (finite x)
has_finite nan s a c v = absurd v
has_finite (inf t) s a c v = absurd v
has_finite (fin t m e) s a c v = tt

nothing : (f : Format) (n c : ℕ) → 0 < c → n ≡ 0 → T (finite (round f false n c))
nothing f n c C e =
    has_finite (round f false n c) false n c
    (round_exact f false n c 0 0 C (pow_pos (prec f)) (pow_pos (low f + suc (emax f))) (ap (λ (z : ℕ). z * 2 ^ low f) e ∙ zero-mul (2 ^ low f) ∙
    sym (zero-mul c)))

differ : (f : Format) (s : Bool) (m : ℕ) (e : ℤ) → sub f (fin s m e) (fin s m e) ≡ round f false (m * up e * down e - m * up e * down e) (down e * down e)
unfolding sub add neg
differ f true m e = sum_np_eq f (m * up e * down e) (m * up e * down e) (down e * down e) refl
differ f false m e = sum_pn_ge f (m * up e * down e) (m * up e * down e) (down e * down e) (le_refl (m * up e * down e))

pub finite_test : (f : Format) (x : Float) → eq (sub f x x) (sub f x x) ≡ finite x
finite_test f nan = unfold eq sub in refl
finite_test f (inf true) = unfold eq sub in refl
finite_test f (inf false) = unfold eq sub in refl
finite_test f (fin s m e) =
    ap (λ (z : Float). eq z z) (differ f s m e)
    ∙ eq_self (round f false (m * up e * down e - m * up e * down e) (down e * down e))
    (nothing f (m * up e * down e - m * up e * down e) (down e * down e) (mul-pos (down_pos e) (down_pos e)) (sub_self (m * up e * down e)))

-- what is finite is a number
pub finite_number : (x : Float) → T (finite x) → T (not (is_nan x))
unfolding is_nan
finite_number nan t = t
finite_number (inf s) t = tt
finite_number (fin s m e) t = tt

-- ---- for the proofs of code
pub of_true : {b : Bool} → b ≡ true → T b
of_true {b} e = subst T (sym e) tt
