-- `floor`, and the saturating cast of a float to an unsigned integer of 64 bits after it: the cast alone gives the same number, since it drops the
-- fraction and takes what is below zero to 0.
-- And the bin of an angle: ((angle / PI) * HIST_BINS as f32).floor() as usize % HIST_BINS. Assumes nothing.
use Rattle.std.specs.Prelude.{◌≡◌, ℕ, zero, suc, ◌+◌, ◌-◌, ◌*◌, ◌/◌, ◌%◌, ◌^◌, ◌≤◌, min, Bool, true, false, cond, not, ◌&&◌, T, ltb, ℤ, pos, negsuc, nat_eq}
use Rattle.std.specs.Prelude.{nat_le, nat_lt}
use Rattle.std.proofs.Math.Path.{refl}
use Rattle.std.proofs.Common.{sym, ap, ◌∙◌, subst, zero-le, le_trans, le_of_lt, le_of_eq, mul-one, mul-pos, zero-lt-suc, mul-div_cancel, div-le_self}
use Rattle.std.proofs.Common.{le-div_iff_mul-le, arith, true≢false, ltb→lt, nltb→le, pow_pos, lt-ltb}
use Rattle.std.proofs.lemmas.Bool.{false≢true}
use lib.Ieee.{Float, nan, inf, fin, Format, binary32, prec, up, down, round, lt, fits, to_unsigned}
use lib.Ieee.Fits.{down_pos, and_l, and_r, mul-fits}
use Rattle.std.specs.Float.Ieee.Exact.{HasValue}
use Rattle.std.specs.Float.Ieee.Back.{round_whole}
use Rattle.floats.specs.Ops.{◌⊗◌, ◌⊘◌, pi}
use Rattle.floats.specs.Rows.{count}
use Rattle.floats.specs.Library.{hist_bins, bin, floor, to_index}
use Rattle.floats.specs.UnitLaws.{pos_plus, plus_pos}

cast_of_value : (x : Float) (n : ℕ) → HasValue x false n 1 → to_index x ≡ min n (2 ^ 64 - 1)
unfolding to_unsigned
cast_of_value nan n v = absurd v
cast_of_value (inf s) n v = absurd v
cast_of_value (fin s m e) n v =
    ap (λ (b : Bool). cond b 0 (min (m * up e / down e) (2 ^ 64 - 1))) v.0
    ∙ ap (λ (z : ℕ). min z (2 ^ 64 - 1)) (ap (λ (z : ℕ). z / down e) (sym (mul-one (m * up e)) ∙ v.1) ∙ mul-div_cancel n (down_pos e))

below_zero : (f : Format) (n : ℕ) → to_index (round f true n 1) ≡ 0
below_zero f n =
    ap to_index (lib.Ieee.Fits.round_is f true n 1) ∙
    go (lib.Ieee.Order.kept (prec f) (n * 2 ^ lib.Ieee.low f) 1) (lib.Ieee.Order.drop (prec f) (n * 2 ^ lib.Ieee.low f) 1)
  where
    odd_none : (d q k l : ℕ) → to_index (lib.Ieee.odd d true q k l) ≡ 0
    odd_none d zero k l = unfold to_unsigned lib.Ieee.odd in refl
    odd_none d (suc q) k l = unfold to_unsigned lib.Ieee.odd in refl

    pick : (b : Bool) (x y : Float) → to_index x ≡ 0 → to_index y ≡ 0 → to_index (cond b x y) ≡ 0
    pick true x y p q = p
    pick false x y p q = q

    inf_none : to_index (inf true) ≡ 0
    inf_none = unfold to_unsigned in refl

    go : (q k : ℕ) → to_index (lib.Ieee.units f true q k) ≡ 0
    go q k =
        unfold lib.Ieee.units in
        pick (nat_lt (q * 2 ^ k) (2 ^ (lib.Ieee.low f + suc (lib.Ieee.emax f)))) (lib.Ieee.odd (suc (prec f)) true q k (lib.Ieee.low f)) (inf true)
        (odd_none (suc (prec f)) q k (lib.Ieee.low f)) inf_none

few : (f : Format) (s : Bool) (m : ℕ) (e : ℤ) → T (fits f (fin s m e)) → m ≤ 2 ^ prec f
unfolding fits
few f s zero e t = zero-le
few f s (suc m) e t =
    let a = nat_eq (suc m % 2) 1 in
    let b = ltb (suc m) (2 ^ prec f) in
    let c = nat_le (down e) (2 ^ lib.Ieee.low f) in
    let d = ltb (suc m * up e) (2 ^ suc (lib.Ieee.emax f) * down e) in
    le_of_lt (ltb→lt (suc m) (2 ^ prec f) (and_r a b (and_l (a && b) c (and_l (a && b && c) d t))))

pub floor_cast : (f : Format) (x : Float) → T (fits f x) → to_index (floor f x) ≡ to_index x
unfolding floor
floor_cast f nan p = refl
floor_cast f (inf s) p = refl
floor_cast f (fin true m (pos k)) p = refl
floor_cast f (fin false m (pos k)) p = refl
floor_cast f (fin true m (negsuc k)) p = below_zero f ((m + (2 ^ suc k - 1)) / 2 ^ suc k) ∙ unfold to_unsigned in refl
floor_cast f (fin false m (negsuc k)) p =
    cast_of_value (round f false (m / 2 ^ suc k) 1) (m / 2 ^ suc k)
    (round_whole f false (m / 2 ^ suc k) (le_trans (div-le_self m (2 ^ suc k)) (few f false m (negsuc k) p)))
    ∙ unfold to_unsigned in (ap (λ (z : ℕ). min (z / 2 ^ suc k) (2 ^ 64 - 1)) (sym (mul-one m)))

-- ---- at the ends of the range
-- not above -1: a NaN, or below zero
pub cast_low : (x : Float) → lt (fin true 1 (pos 0)) x ≡ false → to_index x ≡ 0
unfolding to_unsigned lt
cast_low nan h = refl
cast_low (inf true) h = refl
cast_low (inf false) h = absurd (true≢false h)
cast_low (fin true m e) h = refl
cast_low (fin false m e) h =
    let u = 1 * 1 * down e in
    let v = m * up e * 1 in
    absurd (true≢false (sym (lt-ltb 0 (u + v) (pos_plus u v (mul-pos (zero-lt-suc 0) (down_pos e)))) ∙ h))

-- above -1 and not below 2 ^ 64
pub cast_high : (x : Float) → lt (fin true 1 (pos 0)) x ≡ true → lt x (fin false 1 (pos 64)) ≡ false → to_index x ≡ 2 ^ 64 - 1
unfolding to_unsigned lt
cast_high nan a b = absurd (false≢true a)
cast_high (inf true) a b = absurd (false≢true a)
cast_high (inf false) a b = refl
cast_high (fin true m e) a b =
    let u = m * up e * 1 in
    let v = 1 * 2 ^ 64 * down e in
    absurd (true≢false (sym (lt-ltb 0 (u + v) (plus_pos u v (mul-pos (pow_pos 64) (down_pos e)))) ∙ b))
cast_high (fin false m e) a b =
    let g : 2 ^ 64 * down e ≤ m * up e = le_trans (nltb→le (m * up e * 1) (2 ^ 64 * down e) (subst (λ (t : Bool). T (not t)) (sym b) tt))
    (le_of_eq (mul-one (m * up e))) in
    cap (m * up e / down e) ((le-div_iff_mul-le (down_pos e)).1 g)
  where
    cap : (n : ℕ) → 2 ^ 64 ≤ n → min n (2 ^ 64 - 1) ≡ 2 ^ 64 - 1
    cap n h = omega arith

pub bin_is : (a : Float) → bin a ≡ to_index (a ⊘ pi ⊗ count hist_bins) % hist_bins
unfolding bin
bin_is a = ap (λ (n : ℕ). n % hist_bins) (floor_cast binary32 (a ⊘ pi ⊗ count hist_bins) (mul-fits binary32 (a ⊘ pi) (count hist_bins)))
