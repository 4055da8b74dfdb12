-- Sine and cosine of a finite x, exp of a finite x not above 0, and atan2 of two numbers are numbers: every step of theirs is bounded, so neither an
-- infinity nor a NaN arises before the last clamp. Assumes nothing.
use Rattle.std.specs.Prelude.{◌≡◌, ◌⊎◌, Bool, cond, not, ◌||◌, ℕ, zero, suc, ◌+◌, ◌-◌, ◌*◌, ◌%◌, ◌^◌, ◌≤◌, ◌<◌, T, ltb}
use Rattle.std.proofs.Math.Path.{refl}
use Rattle.std.proofs.Common.{sym, ap, subst, ◌∙◌, inl, inr, le_trans, le_of_lt, le_of_eq, mod-lt, mul-div_cancel, mul-le-mul_right}
use Rattle.std.proofs.Common.{le_of_mul-le-mul_right, arith, ltb→lt, nltb→le, pow-add, pow_pos, pow_mono}
use Rattle.std.proofs.Math.Bool.{true, false}
use Rattle.std.proofs.Math.Nat.{mul-mod_left}
use Rattle.std.proofs.Math.Dec.{lit<, lit≤}
use lib.Ieee.{Float, nan, inf, fin, binary32, unlike, div, rem, neg, lt, eq, le, below, fits, is_nan, of_bits, to_bits}
use Rattle.std.specs.Float.Ieee.Fits.{add-fits, sub-fits, neg-fits, cond-fits}
use Rattle.std.specs.Float.Ieee.Scale.{finite}
use Rattle.elementary.specs.declared.SinCos.{SinCos}
use Rattle.floats.specs.Ops.{◌⊕◌, ◌⊖◌, ◌⊗◌, lit, minus, nought, one, pi, tau, half_pi}
use Rattle.floats.specs.UnitLaws.{Val, lt_val, neg_val}
use Rattle.floats.specs.NonNegLaws.{NonNeg, plus_nn, lt_is, le_of}
use Rattle.floats.specs.RoundingLaws.{Counted, counted, rep_of, rep_step}
use Rattle.floats.specs.PatternLaws.{read_high, write}
use Rattle.floats.specs.RemLaws.{W, tau_val, tau_rep, nought_val, rem_exact}
use Rattle.elementary.specs.Elementary.{raised, above, unit, scale, whole, big_r, big_m, exp_rest, exp_least, sin_rest, cos_rest, quadrant, sin_cos_near, turn}
use Rattle.elementary.specs.Elementary.{sin_cos}
use Rattle.elementary.specs.Elementary.{left, ratio, atan_rest, size, signed, octant}
use Rattle.elementary.specs.SelectLaws.{clamped_number}
use Rattle.floats.specs.WithinLaws.{Within, within_more}
use Rattle.elementary.specs.SizeLaws.{L, add_in, sub_in, mul_in, neg_in, cond_in, constant, Near, near, off, div_in, tests_in}
use Rattle.elementary.specs.SizeLaws.{mul_number, within_number}

-- ---- constants in units
abbrev big_r_units : ℕ
big_r_units = 12582912 * 2 ^ 149

big_r_val : Val binary32 big_r false big_r_units
unfolding of_bits
big_r_val = (refl, refl)

-- to the nearest whole number: what is at most 64 in size stays so
whole_in : {x : Float} → Within binary32 (2 ^ 155) x → Within binary32 (2 ^ 155) (whole x)
unfolding whole lib.Ieee.size
whole_in h =
    off big_r big_r_units (2 ^ 155) big_r_val (lit< tt) (12582848, 149, lit< tt, refl, lit< tt) (12582976, 149, lit< tt, refl, lit< tt)
    (near big_r big_r_units (2 ^ 155) big_r_val (lit< tt) (12582848, 149, lit< tt, refl, lit< tt) (12582976, 149, lit< tt, refl, lit< tt) h) tt

-- ---- sine and cosine
sin_rest_in : {r l : Float} → Within binary32 (2 ^ 158) r → Within binary32 (2 ^ 161) l → Within binary32 (2 ^ 220) (sin_rest r l)
unfolding sin_rest lib.Ieee.size of_bits neg fits
sin_rest_in hr hl =
    let hz = mul_in (2 ^ 167) hr hr tt in
    let h3 = mul_in (2 ^ 167) hz (constant L (lit 0x394c_a3e5) tt) tt in
    let h2 = add_in (2 ^ 168) (constant L (minus 0x3c08_83a6) tt) h3 tt in
    let h1 = add_in (2 ^ 187) (constant L (lit 0x3e2a_aaa3) tt) (mul_in (2 ^ 186) hz h2 tt) tt in
    sub_in (2 ^ 220) hr (add_in (2 ^ 219) (mul_in (2 ^ 218) (mul_in (2 ^ 176) hr hz tt) h1 tt) hl tt) tt

cos_rest_in : {r l : Float} → Within binary32 (2 ^ 158) r → Within binary32 (2 ^ 161) l → Within binary32 (2 ^ 232) (cos_rest r l)
unfolding cos_rest lib.Ieee.size of_bits neg fits
cos_rest_in hr hl =
    let hz = mul_in (2 ^ 167) hr hr tt in
    let hy = mul_in (2 ^ 167) (constant L (lit 0x3f00_0000) tt) hz tt in
    let hw = sub_in (2 ^ 168) (constant L one tt) hy tt in
    let h3 = mul_in (2 ^ 167) hz (constant L (lit 0x37cc_fe13) tt) tt in
    let h2 = add_in (2 ^ 168) (constant L (minus 0x3ab6_063b) tt) h3 tt in
    let h1 = add_in (2 ^ 187) (constant L (lit 0x3d2a_aaa5) tt) (mul_in (2 ^ 186) hz h2 tt) tt in
    let hp = add_in (2 ^ 229) (mul_in (2 ^ 223) (mul_in (2 ^ 185) hz hz tt) h1 tt) (mul_in (2 ^ 170) hr hl tt) tt in
    add_in (2 ^ 232) hw (add_in (2 ^ 230) (sub_in (2 ^ 170) (sub_in (2 ^ 169) (constant L one tt) hw tt) hy tt) hp tt) tt

pub unit_number : (y : Float) → T (not (is_nan y)) → T (not (is_nan (unit y)))
unfolding unit is_nan neg of_bits
unit_number y n = clamped_number y one (minus 0x3f80_0000) n tt tt

pub record Numbers (r : SinCos) : Type 0 where
  pub s : T (not (is_nan r.s))
  pub c : T (not (is_nan r.c))

quadrant_numbers : {k sr cr : Float} → Within binary32 (2 ^ 155) k → Within binary32 (2 ^ 220) sr → Within binary32 (2 ^ 232) cr → Numbers (quadrant k sr cr)
unfolding quadrant lib.Ieee.size of_bits fits
quadrant_numbers hk hs hc =
    let hm = whole_in (mul_in (2 ^ 155) hk (constant L (lit 0x3f00_0000) tt) tt) in
    let he = sub_in (2 ^ 157) (add_in (2 ^ 156) hm hm tt) hk tt in
    let hn = whole_in (mul_in (2 ^ 155) hm (constant L (lit 0x3f00_0000) tt) tt) in
    let hp = sub_in (2 ^ 157) hm (add_in (2 ^ 156) hn hn tt) tt in
    let pp = mul_in (2 ^ 165) hp hp tt in
    let ha = sub_in (2 ^ 168) (sub_in (2 ^ 167) (constant L one tt) (add_in (2 ^ 166) pp pp tt) tt) (mul_in (2 ^ 165) he he tt) tt in
    record {
      s = unit_number _ (within_number (sub_in (2 ^ 241) (mul_in (2 ^ 240) ha hs tt) (mul_in (2 ^ 240) he hc tt) tt));
      c = unit_number _ (within_number (add_in (2 ^ 253) (mul_in (2 ^ 252) ha hc tt) (mul_in (2 ^ 252) he hs tt) tt));
    }

sin_cos_near_numbers : {x : Float} → Within binary32 (2 ^ 155) x → Numbers (sin_cos_near x)
unfolding sin_cos_near lib.Ieee.size of_bits fits
sin_cos_near_numbers hx =
    let hk = whole_in (mul_in (2 ^ 155) hx (constant L (lit 0x3f22_f983) tt) tt) in
    let hh = sub_in (2 ^ 157) hx (mul_in (2 ^ 156) hk (constant (2 ^ 150) (lit 0x3fc9_0fc0) tt) tt) tt in
    let hg = mul_in (2 ^ 155) hk (constant L (lit 0x3655_1100) tt) tt in
    let hr = sub_in (2 ^ 158) hh hg tt in
    let hl = add_in (2 ^ 161) (sub_in (2 ^ 160) hg (sub_in (2 ^ 159) hh hr tt) tt) (mul_in (2 ^ 155) hk (constant L (lit 0x2c34_611a) tt) tt) tt in
    quadrant_numbers hk (sin_rest_in hr hl) (cos_rest_in hr hl)

-- what `turn` leaves is at most 64 in size
top_val : Val binary32 (lit 0x4280_0000) false (2 ^ 155)
unfolding of_bits
top_val = (refl, refl)

bottom_val : Val binary32 (minus 0x4280_0000) true (2 ^ 155)
unfolding of_bits neg
bottom_val = (refl, refl)

turn_in : (x : Float) → T (fits binary32 x) → T (finite x) → Within binary32 (2 ^ 155) (turn x)
unfolding turn
turn_in x p q =
    go (lt (lit 0x4280_0000) x) (lt x (minus 0x4280_0000))
    (λ e g. tests_in (2 ^ 155) (minus 0x4280_0000) (lit 0x4280_0000) x (2 ^ 155) (2 ^ 155) bottom_val top_val (lit≤ tt) (lit≤ tt) p q e g)
  where
    reduced : Within binary32 (2 ^ 155) (rem binary32 x tau)
    reduced =
        let c = counted binary32 x p q in
        record {
          sign = c.sign;
          count = c.count % W;
          val = rem_exact binary32 x tau c.count W (lit< tt) tau_val tau_rep c.sign c.val c.rep;
          most = le_trans (le_of_lt (mod-lt c.count (lit< tt))) (lit≤ tt);
        }

    go : (a b : Bool) → (b ≡ false → a ≡ false → Within binary32 (2 ^ 155) x) → Within binary32 (2 ^ 155) (cond (a || b) (rem binary32 x tau) x)
    go true b h = reduced
    go false true h = reduced
    go false false h = h refl refl

pub sin_cos_numbers : (x : Float) → T (fits binary32 x) → T (finite x) → Numbers (sin_cos x)
unfolding sin_cos
sin_cos_numbers x p q = sin_cos_near_numbers (turn_in x p q)

-- ---- exp
-- an exponent's field below the infinity's, alone: a power of two
power_in : (d : ℕ) → d ≤ 254 → Within binary32 (2 ^ 276) (of_bits binary32 (d * 8388608))
power_in zero h = constant (2 ^ 276) (of_bits binary32 0) (unfold of_bits fits in tt)
power_in (suc x) h =
    let b = suc x * 8388608 in
    let e : b % 8388608 ≡ 0 = mul-mod_left (suc x) 8388608 in
    record {
      sign = false;
      count = (8388608 + b % 8388608) * 2 ^ x;
      val = read_high binary32 b x (under_top (suc x) h) (mul-div_cancel (suc x) (lit< tt)) (less (suc x) h);
      most = le_trans (le_of_eq (ap (λ (z : ℕ). (8388608 + z) * 2 ^ x) e ∙ sym (pow-add 2 23 x))) (pow_mono (room x h));
    }
  where
    under_top : (d : ℕ) → d ≤ 254 → d * 8388608 < 2147483648
    under_top d h = omega arith

    less : (d : ℕ) → d ≤ 254 → d < 255
    less d h = omega arith

    room : (x : ℕ) → suc x ≤ 254 → 23 + x ≤ 276
    room x h = omega arith

-- from R to R + 255 the format holds whole numbers only, and the low byte of the pattern is what lies above R
pub byte_of_lem : (lo hi : ℕ) (u : Float) (c : ℕ) → T (fits binary32 u) → Val binary32 u false c → 12582912 ≤ lo → hi ≤ 12583167 → lo * 2 ^ 149 ≤ c →
    c ≤ hi * 2 ^ 149
    → (lo - 12582912 ≤ to_bits binary32 u % 256) × (to_bits binary32 u % 256 ≤ hi - 12582912)
byte_of_lem lo hi u c p v a b g h =
    let r = rep_step binary32 149 c (rep_of binary32 u false c p v) (le_trans (mul-le-mul_right (2 ^ 149) (big lo a)) g) in
    let m = r.0 in
    let l : lo ≤ m = le_of_mul-le-mul_right (le_trans g (le_of_eq r.1)) (pow_pos 149) in
    let k : m ≤ hi = le_of_mul-le-mul_right (le_trans (le_of_eq (sym r.1)) h) (pow_pos 149) in
    let e : to_bits binary32 u ≡ 149 * 8388608 + m = write binary32 u m 149 (least m lo a l) (most m hi b k)
    (subst (λ (z : ℕ). Val binary32 u false z) r.1 v) in
    subst (λ (z : ℕ). (lo - 12582912 ≤ z % 256) × (z % 256 ≤ hi - 12582912)) (sym e) (above_low m lo hi a b l k, below_high m lo hi a b l k)
  where
    big : (lo : ℕ) → 12582912 ≤ lo → 8388608 ≤ lo
    big lo a = omega arith

    least : (m lo : ℕ) → 12582912 ≤ lo → lo ≤ m → 8388608 ≤ m
    least m lo a l = omega arith

    most : (m hi : ℕ) → hi ≤ 12583167 → m ≤ hi → m < 16777216
    most m hi b k = omega arith

    above_low : (m lo hi : ℕ) → 12582912 ≤ lo → hi ≤ 12583167 → lo ≤ m → m ≤ hi → lo - 12582912 ≤ (149 * 8388608 + m) % 256
    above_low m lo hi a b l k = omega arith

    below_high : (m lo hi : ℕ) → 12582912 ≤ lo → hi ≤ 12583167 → lo ≤ m → m ≤ hi → (149 * 8388608 + m) % 256 ≤ hi - 12582912
    below_high m lo hi a b l k = omega arith

-- M and what is at most 127 away from it, in units: there the byte is at most 254
abbrev pub big_m_units : ℕ
big_m_units = 12583039 * 2 ^ 149

abbrev reach : ℕ
reach = 127 * 2 ^ 149

pub big_m_val : Val binary32 big_m false big_m_units
unfolding of_bits
big_m_val = (refl, refl)

scale_in : {u : Float} → T (fits binary32 u) → Near big_m_units reach u → Within binary32 (2 ^ 276) (scale u)
unfolding scale
scale_in {u} p h = power_in (to_bits binary32 u % 256) (byte_of_lem 12582912 12583166 u h.count p h.val (lit≤ tt) (lit≤ tt) h.low h.high).1

exp_rest_in : {h l : Float} → Within binary32 (2 ^ 157) h → Within binary32 (2 ^ 156) l → Within binary32 (2 ^ 210) (exp_rest h l)
unfolding exp_rest lib.Ieee.size of_bits fits
exp_rest_in hh hl =
    let hr = sub_in (2 ^ 158) hh hl tt in
    let h4 = add_in (2 ^ 159) (constant L (lit 0x3c09_1d81) tt) (mul_in (2 ^ 158) hr (constant L (lit 0x3ab5_112b) tt) tt) tt in
    let h3 = add_in (2 ^ 169) (constant L (lit 0x3d2a_ac7c) tt) (mul_in (2 ^ 168) hr h4 tt) tt in
    let h2 = add_in (2 ^ 179) (constant L (lit 0x3e2a_aa48) tt) (mul_in (2 ^ 178) hr h3 tt) tt in
    let h1 = add_in (2 ^ 189) (constant L (lit 0x3eff_fffe) tt) (mul_in (2 ^ 188) hr h2 tt) tt in
    let hq = sub_in (2 ^ 208) (mul_in (2 ^ 207) (mul_in (2 ^ 167) hr hr tt) h1 tt) hl tt in
    add_in (2 ^ 210) (constant L one tt) (add_in (2 ^ 209) hh hq tt) tt

-- what is clamped at the end of exp
abbrev pub exp_wide : Float → Float
exp_wide x =
    let z = raised x exp_least in
    let t = z ⊗ lit 0x3fb8_aa3b ⊕ big_m in
    let k = t ⊖ big_m in
    exp_rest (z ⊖ k ⊗ lit 0x3f31_7200) (k ⊗ lit 0x35bf_be8e) ⊗ scale (above t big_r)

-- -expLeast in units
abbrev least_units : ℕ
least_units = 11447375 * 2 ^ 132

least_val : Val binary32 exp_least true least_units
unfolding of_bits neg
least_val = (refl, refl)

cut_in : (x : Float) → T (fits binary32 x) → T (finite x) → lt nought x ≡ false → Within binary32 least_units (raised x exp_least)
cut_in x p q g = go (lt x exp_least) (λ e. tests_in least_units exp_least nought x least_units 0 least_val nought_val (lit≤ tt) (lit≤ tt) p q e g)
  where
    go : (b : Bool) → (b ≡ false → Within binary32 least_units x) → Within binary32 least_units (cond b exp_least x)
    go true h = record { sign = true; count = least_units; val = least_val; most = lit≤ tt }
    go false h = h refl

-- the sum with M, the whole number that is left, and the power of two
module _ (v : Float) (h : Within binary32 reach v) where
  sum_near : Near big_m_units reach (v ⊕ big_m)
  sum_near = near big_m big_m_units reach big_m_val (lit< tt) (12582912, 149, lit< tt, refl, lit< tt) (12583166, 149, lit< tt, refl, lit< tt) h

  whole_part_in : Within binary32 reach ((v ⊕ big_m) ⊖ big_m)
  unfolding lib.Ieee.size
  whole_part_in = off big_m big_m_units reach big_m_val (lit< tt) (12582912, 149, lit< tt, refl, lit< tt) (12583166, 149, lit< tt, refl, lit< tt) sum_near tt

  power_of_in : Within binary32 (2 ^ 276) (scale (above (v ⊕ big_m) big_r))
  power_of_in =
      scale_in (cond-fits binary32 (lt big_r (v ⊕ big_m)) (v ⊕ big_m) big_r (add-fits binary32 v big_m) (unfold fits of_bits in tt))
      (either (lt big_r (v ⊕ big_m)))
    where
      either : (b : Bool) → Near big_m_units reach (cond b (v ⊕ big_m) big_r)
      either true = sum_near
      either false = record { count = big_r_units; val = big_r_val; low = lit≤ tt; high = lit≤ tt }

pub exp_number : (x : Float) → T (fits binary32 x) → T (finite x) → lt nought x ≡ false → T (not (is_nan (exp_wide x)))
unfolding lib.Ieee.size of_bits fits
exp_number x p q g =
    let hz = cut_in x p q g in
    let hv = mul_in reach hz (constant (12102203 * 2 ^ 126) (lit 0x3fb8_aa3b) tt) tt in
    let hk = whole_part_in (raised x exp_least ⊗ lit 0x3fb8_aa3b) hv in
    let hh = sub_in (2 ^ 157) hz (mul_in (2 ^ 156) hk (constant L (lit 0x3f31_7200) tt) tt) tt in
    let hl = mul_in (2 ^ 156) hk (constant L (lit 0x35bf_be8e) tt) tt in
    mul_number (exp_rest_in hh hl) (power_of_in (raised x exp_least ⊗ lit 0x3fb8_aa3b) hv)

-- ---- atan2
-- a size: the infinity, or a finite value not below zero
abbrev Plain : Float → Type 0
Plain x = (x ≡ inf false) ⊎ ((a : ℕ) × NonNeg binary32 x a)

size_plain : (x : Float) → T (fits binary32 x) → T (not (is_nan x)) → Plain (size x)
size_plain nan p n = absurd (unfold is_nan in n)
size_plain (inf true) p n = inl (unfold size lt neg of_bits in refl)
size_plain (inf false) p n = inl (unfold size lt neg of_bits in refl)
size_plain (fin s m e) p n =
    inr (unfold size in go (lt x nought) c.sign c.val (lt_val binary32 x nought c.sign c.count false 0 c.val nought_val))
  where
    x : Float
    x = fin s m e

    c : Counted binary32 x
    c = counted binary32 x p tt

    none : (a : ℕ) → a + 0 ≤ 0 → a ≡ 0
    none a h = omega arith

    never : (a : ℕ) → a < 0 → ⊥
    never a h = omega arith

    go : (b t : Bool) → Val binary32 x t c.count → b ≡ below t c.count false 0 → (a : ℕ) × NonNeg binary32 (cond b (neg x) x) a
    go true true v g = (c.count, plus_nn binary32 (neg x) c.count (neg_val binary32 x true c.count v) c.rep)
    go true false v g = absurd (never c.count (ltb→lt c.count 0 (subst T g tt)))
    go false true v g =
        let z : c.count ≡ 0 = none c.count (nltb→le 0 (c.count + 0) (subst (λ (y : Bool). T (not y)) g tt)) in
        (c.count, record { sign = true; val = v; none = λ t. z; rep = c.rep })
    go false false v g = (c.count, plus_nn binary32 x c.count v c.rep)

-- by an infinity: a zero
over_infinity : (x : Float) (a : ℕ) → NonNeg binary32 x a → Within binary32 L (div binary32 x (inf false))
over_infinity x a h = go x h.val
  where
    go : (x : Float) → Val binary32 x h.sign a → Within binary32 L (div binary32 x (inf false))
    go nan v = absurd v
    go (inf s) v = absurd v
    go (fin s m e) v = unfold div in record { sign = unlike s false; count = 0; val = (refl, refl); most = lit≤ tt }

-- and the comparisons of a finite value with it
beside_infinity : (x : Float) (a : ℕ) → NonNeg binary32 x a → (eq (inf false) x ≡ false) × (eq x (inf false) ≡ false) × (lt x (inf false) ≡ true) ×
    (lt (inf false) x ≡ false)
beside_infinity x a h = go x h.val
  where
    go : (x : Float) → Val binary32 x h.sign a → (eq (inf false) x ≡ false) × (eq x (inf false) ≡ false) × (lt x (inf false) ≡ true) ×
        (lt (inf false) x ≡ false)
    go nan v = absurd v
    go (inf s) v = absurd v
    go (fin s m e) v = unfold eq lt in (refl, refl, refl, refl)

ratio_in : (y x : Float) → Plain y → Plain x → Within binary32 L (ratio y x)
unfolding ratio
ratio_in y x (inl e) (inl g) = rw (e, g) (unfold eq of_bits fits in constant L one tt)
ratio_in y x (inl e) (inr (a, h)) = let f = beside_infinity x a h in rw (e, f.0, f.2) (over_infinity x a h)
ratio_in y x (inr (b, k)) (inl g) = let f = beside_infinity y b k in rw (g, f.1, f.3) (over_infinity y b k)
ratio_in y x (inr (b, k)) (inr (a, h)) = go (eq y x) (lt x y) refl (lt_is binary32 x y a b h k)
  where
    ends : (c : Bool) → Within binary32 L (cond c nought one)
    ends c = cond_in c (constant L nought (unfold of_bits fits in tt)) (constant L one (unfold of_bits fits in tt))

    parts : b ≤ a → T (lt y x || eq y x)
    parts l = unfold le in le_of binary32 y x b a k h l

    -- not above and not equal: below
    strict : (p q : Bool) → p ≡ ltb b a → q ≡ false → T (p || q) → b < a
    strict true q e g t = ltb→lt b a (subst T e tt)
    strict false true e g t = absurd (subst T g tt)
    strict false false e g t = absurd t

    go : (p q : Bool) → eq y x ≡ p → q ≡ ltb a b → Within binary32 L (cond p (cond (eq x nought) nought one) (cond q (div binary32 x y) (div binary32 y x)))
    go true q e g = ends (eq x nought)
    go false true e g = div_in x y a b h.sign k.sign h.val k.val (ltb→lt a b (subst T g tt))
    go false false e g =
        let l : b ≤ a = nltb→le a b (subst (λ (z : Bool). T (not z)) g tt) in
        div_in y x b a k.sign h.sign k.val h.val (strict (lt y x) (eq y x) (lt_is binary32 y x b a k h) e (parts l))

atan_rest_in : {t : Float} → Within binary32 L t → Within binary32 (2 ^ 158) (atan_rest t)
unfolding atan_rest lib.Ieee.size of_bits neg fits
atan_rest_in ht =
    let hz = mul_in L ht ht tt in
    let h8 = add_in (2 ^ 150) (constant L (minus 0x3c87_d534) tt) (mul_in L hz (constant L (lit 0x3b42_f161) tt) tt) tt in
    let h7 = add_in (2 ^ 151) (constant L (lit 0x3d32_652f) tt) (mul_in (2 ^ 150) hz h8 tt) tt in
    let h6 = add_in (2 ^ 152) (constant L (minus 0x3d9b_4010) tt) (mul_in (2 ^ 151) hz h7 tt) tt in
    let h5 = add_in (2 ^ 153) (constant L (lit 0x3dda_b468) tt) (mul_in (2 ^ 152) hz h6 tt) tt in
    let h4 = add_in (2 ^ 154) (constant L (minus 0x3e11_8db4) tt) (mul_in (2 ^ 153) hz h5 tt) tt in
    let h3 = add_in (2 ^ 155) (constant L (lit 0x3e4c_bd6d) tt) (mul_in (2 ^ 154) hz h4 tt) tt in
    let hw = add_in (2 ^ 156) (constant L (minus 0x3eaa_aa72) tt) (mul_in (2 ^ 155) hz h3 tt) tt in
    add_in (2 ^ 158) ht (mul_in (2 ^ 157) (mul_in L ht hz tt) hw tt) tt

signed_in : {n : ℕ} {b : Float} (below : Bool) → Within binary32 n b → Within binary32 n (signed b below)
unfolding signed
signed_in below h = cond_in below (neg_in h) h

octant_in : {c : Float} (steep back : Bool) → Within binary32 (2 ^ 158) c → Within binary32 (2 ^ 160) (octant c steep back)
unfolding octant lib.Ieee.size of_bits fits
octant_in steep back h =
    cond_in steep (sub_in (2 ^ 160) (constant (2 ^ 151) half_pi tt) (add_in (2 ^ 159) h (constant L (lit 0x333b_bd2e) tt) tt) tt)
    (cond_in back (add_in (2 ^ 160) (constant (2 ^ 151) pi tt) (sub_in (2 ^ 159) h (constant L (lit 0x33bb_bd2e) tt) tt) tt)
    (within_more (2 ^ 160) (lit≤ tt) h))

-- what is clamped at the end of atan2
abbrev pub atan_wide : Float → Float → Float
atan_wide y x = signed (octant (signed (atan_rest (ratio (size y) (size x))) (left x)) (lt (size x) (size y)) (left x)) (left y)

pub atan2_number : (y x : Float) → T (fits binary32 y) → T (fits binary32 x) → T (not (is_nan y)) → T (not (is_nan x)) → T (not (is_nan (atan_wide y x)))
atan2_number y x p q n m =
    within_number (signed_in (left y)
    (octant_in (lt (size x) (size y)) (left x) (signed_in (left x) (atan_rest_in (ratio_in (size y) (size x) (size_plain y p n) (size_plain x q m))))))

-- and it fits: an operation's result, a constant, or its negative
pub wide_fits : (y x : Float) → T (fits binary32 (atan_wide y x))
wide_fits y x = signed_fits (octant c (lt (size x) (size y)) (left x)) (left y) (octant_fits (lt (size x) (size y)) (left x))
  where
    b : Float
    b = atan_rest (ratio (size y) (size x))

    c : Float
    c = signed b (left x)

    signed_fits : (z : Float) (s : Bool) → T (fits binary32 z) → T (fits binary32 (signed z s))
    signed_fits z s h = unfold signed in cond-fits binary32 s (neg z) z (neg-fits binary32 z h) h

    rest_fits : T (fits binary32 b)
    rest_fits = unfold atan_rest in add-fits binary32 _ _

    octant_fits : (steep back : Bool) → T (fits binary32 (octant c steep back))
    octant_fits true back = unfold octant in sub-fits binary32 _ _
    octant_fits false true = unfold octant in add-fits binary32 _ _
    octant_fits false false = unfold octant in signed_fits b (left x) rest_fits
