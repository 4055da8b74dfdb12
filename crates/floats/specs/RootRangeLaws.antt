-- A square root is a NaN or not below zero, and one that is capped by `min` with PI lies from 0 to PI, whatever went in. Assumes nothing.
use Rattle.std.specs.Prelude.{◌≡◌, ℕ, zero, suc, ◌+◌, ◌*◌, ◌/◌, ◌^◌, ◌≤◌, Bool, true, false, cond, not, ◌&&◌, ◌||◌, T, ℤ, pos, ◌==◌, nat_lt, refl}
use Rattle.std.proofs.Common.{sym, ap, ◌∙◌, subst, inl, inr, zero-le, le_trans, le_of_eq, eq-or-lt_of_le, zero-mul, true≢false, arith, lt→ltb}
use lib.Ieee.{Float, nan, inf, fin, Format, binary32, up, down, units, odd, lt, le, eq, fits, below, level, low, prec, emax, of_bits, is_nan}
use Rattle.std.specs.Float.Ieee.Fits.{eq→eqb, and_i}
use Rattle.floats.specs.Ops.{nought, pi}
use Rattle.floats.specs.Library.{sqrt, root_units, min, negative, before}
use Rattle.floats.specs.UnitLaws.{le_val}
use Rattle.floats.specs.NonNegLaws.{or_l, or_r}
use Rattle.floats.specs.RootLaws.{root_shape, sqrt_fits}
use Rattle.floats.specs.RankLaws.{le_no_nan}
use Rattle.floats.specs.MaxMinLaws.{min_above, min_right}
use Rattle.floats.specs.RemLaws.{nought_is}
use Rattle.floats.specs.SquareSumLaws.{Upright}

abbrev zero0 : Float
zero0 = fin false 0 (pos 0)

-- ---- a root is a NaN or not below zero
of_le : (a b : ℕ) → a ≤ b → T (nat_lt a b || (a == b && true))
of_le a b h =
    elim (eq-or-lt_of_le h) [
      | inl e ↦ or_r (nat_lt a b) (a == b && true) (and_i (a == b) true (eq→eqb e) tt)
      | inr l ↦ or_l (nat_lt a b) (a == b && true)
          (lt→ltb a b l)
    ]

clear_above : (m : ℕ) (e : ℤ) → T (le zero0 (fin false m e))
unfolding le
clear_above m e = of_le (0 * 1 * down e) (m * up e * 1) (le_trans (le_of_eq (zero-mul (down e))) zero-le)

odd_above : (d q k l : ℕ) → T (le zero0 (odd d false q k l))
odd_above d zero k l = unfold odd in clear_above 0 (pos 0)
odd_above d (suc q) k l = unfold odd in
    clear_above (suc q / 2 ^ lib.Count.count_trailing_zeros d (suc q)) (lib.Ieee.minus (k + lib.Count.count_trailing_zeros d (suc q)) l)

units_above : (f : Format) (q k : ℕ) → T (le zero0 (units f false q k))
unfolding units
units_above f q k = go (nat_lt (q * 2 ^ k) (2 ^ (low f + suc (emax f))))
  where
    go : (b : Bool) → T (le zero0 (cond b (odd (suc (prec f)) false q k (low f)) (inf false)))
    go true = odd_above (suc (prec f)) q k (low f)
    go false = unfold le in tt

zero_above : (s : Bool) (e : ℤ) → T (le zero0 (fin s zero e))
zero_above s e =
    subst T (sym (le_val binary32 zero0 (fin s zero e) false 0 s 0 (refl, refl) (
      refl,
      ap (λ (z : ℕ). z * 2 ^ 149) (zero-mul (up e)) ∙
          sym (zero-mul (down e)),
    ))) (go s)
  where
    go : (s : Bool) → T (below false 0 s 0 || level false 0 s 0)
    go true = tt
    go false = tt

root_above_zero : (N : ℕ) → T (le zero0 (root_units binary32 N))
root_above_zero N = let s = root_shape binary32 N in subst (λ (y : Float). T (le zero0 y)) (sym s.2) (units_above binary32 s.0 s.1)

pub sqrt_above : (x : Float) → T (not (is_nan (sqrt binary32 x))) → T (le zero0 (sqrt binary32 x))
unfolding sqrt
sqrt_above nan n = absurd (unfold is_nan in n)
sqrt_above (inf true) n = absurd (unfold is_nan in n)
sqrt_above (inf false) n = unfold le in tt
sqrt_above (fin s zero e) n = zero_above s e
sqrt_above (fin true (suc m) e) n = absurd (unfold is_nan in n)
sqrt_above (fin false (suc m) e) n = root_above_zero (suc m * up e * 2 ^ 149 / down e * 2 ^ 149)

-- of what is not below zero it is a number
sqrt_number : (x : Float) → Upright x → T (not (is_nan (sqrt binary32 x)))
unfolding sqrt
sqrt_number nan h = absurd h
sqrt_number (inf true) h = absurd (true≢false h)
sqrt_number (inf false) h = unfold is_nan in tt
sqrt_number (fin s zero e) h = unfold is_nan in tt
sqrt_number (fin true (suc m) e) h = absurd (never (h tt))
  where
    never : suc m ≡ 0 → ⊥
    never z = omega arith
sqrt_number (fin false (suc m) e) h =
    let N = suc m * up e * 2 ^ 149 / down e * 2 ^ 149 in (le_no_nan zero0 (root_units binary32 N) (root_above_zero N)).1

pub pi_between : T (le nought pi) × T (le pi pi)
unfolding le lt lib.Ieee.eq of_bits
pi_between = (tt, tt)

-- `v.sqrt().min(PI)`: from 0 to PI for every v, a NaN included
pub capped_root : (v : Float) → T (fits binary32 v) → T (le nought (min (sqrt binary32 v) pi)) × T (le (min (sqrt binary32 v) pi) pi)
capped_root v p =
    let q : T (fits binary32 pi) = lib.Ieee.Bits.of_bits-fits binary32 0x40490fdb in
    let n = le_no_nan nought pi pi_between.0 in (
      min_above nought (sqrt binary32 v) pi (λ t. subst (λ (z : Float). T (le z (sqrt binary32 v))) (sym nought_is) (sqrt_above v t)) pi_between.0,
      min_right binary32 (sqrt binary32 v) pi (sqrt_fits binary32 v p) q n.1,
    )

-- where it is PI the root itself was PI or more
pub capped_above : (x : Float) → Upright x → min (sqrt binary32 x) pi ≡ pi → T (le pi (sqrt binary32 x))
unfolding min
capped_above x h = go (is_nan r) (is_nan pi) (before pi r) (sqrt_number x h) earlier
  where
    r : Float
    r = sqrt binary32 x

    or_and : (a b c : Bool) → T (a || (b && c)) → T (a || b)
    or_and true b c t = tt
    or_and false true c t = tt
    or_and false false c t = t

    earlier : T (before pi r) → T (le pi r)
    earlier t = unfold before le in or_and (lt pi r) (eq pi r) (negative pi && not (negative r)) t

    go : (a b c : Bool) → T (not a) → (T c → T (le pi r)) → cond a pi (cond b r (cond c pi r)) ≡ pi → T (le pi r)
    go true b c n k e = absurd n
    go false true c n k e = subst (λ (z : Float). T (le pi z)) (sym e) pi_between.1
    go false false true n k e = k tt
    go false false false n k e = subst (λ (z : Float). T (le pi z)) (sym e) pi_between.1
