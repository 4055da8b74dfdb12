-- The five elementary functions, each fixed by exact steps: the port's sin, cos, tanh, exp and atan2, in the place of Rust's libm. Definitions only.
-- One rounding an operator, in the order of the parentheses; a constant is its bit pattern. docs/PERFORMANCE.md has the measured errors.
-- The polynomials have the least greatest error of their degree on what the reduction leaves: tools/coefficients.py works each constant out again.
use Rattle.std.specs.Prelude.{Bool, cond, ◌||◌, ◌*◌, ◌%◌, Float}
use Rattle.std.specs.Float.{binary32}
use Rattle.std.specs.Float.Ieee.{rem, neg, lt, eq, of_bits, to_bits}
use Rattle.elementary.specs.declared.SinCos.{SinCos}
use Rattle.elementary.specs.declared.TwoSinCos.{TwoSinCos}
use Rattle.floats.specs.Ops.{◌⊕◌, ◌⊖◌, ◌⊗◌, ◌⊘◌, lit, minus, nought, one, pi, tau, half_pi}

-- ---- selects, each one instruction of the machine
-- x, but top where x is above it; x, but bottom where x is below it: a NaN passes
abbrev pub capped : Float → Float → Float
capped x top = cond (lt top x) top x

abbrev pub raised : Float → Float → Float
raised x bottom = cond (lt x bottom) bottom x

-- x where it is above bottom, else bottom; x where it is below top, else top: a NaN becomes the end
abbrev pub above : Float → Float → Float
above x bottom = cond (lt bottom x) x bottom

abbrev pub under : Float → Float → Float
under x top = cond (lt x top) x top

-- y, brought between -1 and 1
unfoldable pub unit : Float → Float
unit y = raised (capped y one) (minus 0x3f80_0000)

-- 2 ^ (low byte of t's pattern - 127)
unfoldable pub scale : Float → Float
scale t = of_bits binary32 (to_bits binary32 t % 256 * 8388608)

-- R = 1.5 * 2 ^ 23: adding it and taking it off rounds to a whole number. M is R + 127, so that the low byte of a sum's pattern is an exponent's field.
abbrev pub big_r : Float
big_r = lit 0x4b40_0000

abbrev pub big_m : Float
big_m = lit 0x4b40_007f

unfoldable pub whole : Float → Float
whole v = (v ⊕ big_r) ⊖ big_r

-- ---- tanh (c + r) = T + (1 - T * T) * tanh r / (1 + T * tanh r), with c = k * ln 2 / 2, so that T = (2 ^ k - 1) / (2 ^ k + 1); l is -T
-- tanh r / (1 + T * tanh r) is r / (1 + q)
unfoldable pub tanh_rest : Float → Float → Float
tanh_rest l r =
    let z = r ⊗ r in
    let q = z ⊗ (lit 0x3eaa_aa7a ⊕ z ⊗ minus 0x3cb5_1554) ⊖ l ⊗ r in
    r ⊖ (r ⊗ q ⊕ nought) ⊘ (one ⊕ q)

unfoldable pub tanh : Float → Float
unfolding unit scale tanh_rest
tanh x =
    let a = raised (capped x (lit 0x4114_0000)) (minus 0x4114_0000) in
    let t = x ⊗ lit 0x4030_0000 ⊕ big_m in
    let v = under (above t (lit 0x4b40_0068)) (lit 0x4b40_0096) in
    let r = a ⊖ (v ⊖ big_m) ⊗ lit 0x3eb1_7218 in
    let s = scale v in
    let l = (one ⊖ s) ⊘ (one ⊕ s) in
    unit ((one ⊖ l ⊗ l) ⊗ tanh_rest l r ⊖ l)

-- ---- exp of an x not above 0, or NaN: 2 ^ k * e ^ (h - l), with ln 2 in two parts; 0 where the result would be subnormal
unfoldable pub exp_rest : Float → Float → Float
exp_rest h l =
    let r = h ⊖ l in
    let e = lit 0x3eff_fffe ⊕ r ⊗ (lit 0x3e2a_aa48 ⊕ r ⊗ (lit 0x3d2a_ac7c ⊕ r ⊗ (lit 0x3c09_1d81 ⊕ r ⊗ lit 0x3ab5_112b))) in
    one ⊕ (h ⊕ ((r ⊗ r) ⊗ e ⊖ l))

-- the least f32 whose exp is a normal number
abbrev pub exp_least : Float
exp_least = minus 0x42ae_ac4f

unfoldable pub exp_neg : Float → Float
unfolding scale exp_rest
exp_neg x =
    let z = raised x exp_least in
    let t = z ⊗ lit 0x3fb8_aa3b ⊕ big_m in
    let u = above t big_r in
    let k = t ⊖ big_m in
    let p = exp_rest (z ⊖ k ⊗ lit 0x3f31_7200) (k ⊗ lit 0x35bf_be8e) in
    let w = raised (capped (p ⊗ scale u) one) nought in
    cond (lt x exp_least) nought w

unfoldable pub exp : Float → Float
unfolding exp_neg
exp x = cond (lt nought x) (one ⊘ exp_neg (neg x)) (exp_neg x)

-- ---- sin and cos: k quarter turns are taken off, PI/2 being cut into three parts; the angle left is r - l
unfoldable pub sin_rest : Float → Float → Float
sin_rest r l =
    let z = r ⊗ r in
    r ⊖ ((r ⊗ z) ⊗ (lit 0x3e2a_aaa3 ⊕ z ⊗ (minus 0x3c08_83a6 ⊕ z ⊗ lit 0x394c_a3e5)) ⊕ l)

unfoldable pub cos_rest : Float → Float → Float
cos_rest r l =
    let z = r ⊗ r in
    let y = lit 0x3f00_0000 ⊗ z in
    let w = one ⊖ y in
    w ⊕ (((one ⊖ w) ⊖ y) ⊕ ((z ⊗ z) ⊗ (lit 0x3d2a_aaa5 ⊕ z ⊗ (minus 0x3ab6_063b ⊕ z ⊗ lit 0x37cc_fe13)) ⊕ r ⊗ l))

-- which quadrant: of e and a one is 0 and the other 1 or -1
unfoldable pub quadrant : Float → Float → Float → SinCos
unfolding whole unit
quadrant k sr cr =
    let m = whole (k ⊗ lit 0x3f00_0000) in
    let e = (m ⊕ m) ⊖ k in
    let n = whole (m ⊗ lit 0x3f00_0000) in
    let p = m ⊖ (n ⊕ n) in
    let a = (one ⊖ (p ⊗ p ⊕ p ⊗ p)) ⊖ e ⊗ e in
    record { s = unit (a ⊗ sr ⊖ e ⊗ cr); c = unit (a ⊗ cr ⊕ e ⊗ sr) }

-- of an x up to 64 in size
unfoldable pub sin_cos_near : Float → SinCos
unfolding whole sin_rest cos_rest quadrant
sin_cos_near x =
    let k = whole (x ⊗ lit 0x3f22_f983) in
    let h = x ⊖ k ⊗ lit 0x3fc9_0fc0 in
    let g = k ⊗ lit 0x3655_1100 in
    let r = h ⊖ g in
    let l = (g ⊖ (h ⊖ r)) ⊕ k ⊗ lit 0x2c34_611a in
    quadrant k (sin_rest r l) (cos_rest r l)

-- an angle above 64 in size is first reduced by TAU
unfoldable pub turn : Float → Float
turn x = cond (lt (lit 0x4280_0000) x || lt x (minus 0x4280_0000)) (rem binary32 x tau) x

unfoldable pub sin_cos : Float → SinCos
unfolding sin_cos_near turn
sin_cos x = sin_cos_near (turn x)

-- of two angles
unfoldable pub sin_cos_two : Float → Float → TwoSinCos
unfolding sin_cos
sin_cos_two x y = record { s1 = (sin_cos x).s; s2 = (sin_cos y).s; c1 = (sin_cos x).c; c2 = (sin_cos y).c }

unfoldable pub sin : Float → Float
unfolding sin_cos
sin x = (sin_cos x).s

unfoldable pub cos : Float → Float
unfolding sin_cos
cos x = (sin_cos x).c

-- ---- atan2
-- below zero, or -0
unfoldable pub left : Float → Bool
left x = lt x nought || lt (one ⊘ x) nought

-- the smaller over the larger of two sizes; 1 where they are equal, and 0 of two zeros
unfoldable pub ratio : Float → Float → Float
ratio ay ax = cond (eq ay ax) (cond (eq ax nought) nought one) (cond (lt ax ay) (ax ⊘ ay) (ay ⊘ ax))

-- the angle whose tangent is t, from 0 to 1
unfoldable pub atan_rest : Float → Float
atan_rest t =
    let z = t ⊗ t in
    let w8 = minus 0x3c87_d534 ⊕ z ⊗ lit 0x3b42_f161 in
    let w6 = minus 0x3d9b_4010 ⊕ z ⊗ (lit 0x3d32_652f ⊕ z ⊗ w8) in
    let w4 = minus 0x3e11_8db4 ⊕ z ⊗ (lit 0x3dda_b468 ⊕ z ⊗ w6) in
    let w = minus 0x3eaa_aa72 ⊕ z ⊗ (lit 0x3e4c_bd6d ⊕ z ⊗ w4) in
    t ⊕ (t ⊗ z) ⊗ w

unfoldable pub size : Float → Float
size x = cond (lt x nought) (neg x) x

unfoldable pub signed : Float → Bool → Float
signed b below = cond below (neg b) b

-- the angle's place: from the y axis where it is steep, from the -x axis where x is below zero; PI/2 and PI in two parts each
unfoldable pub octant : Float → Bool → Bool → Float
octant c steep back = cond steep (half_pi ⊖ (c ⊕ lit 0x333b_bd2e)) (cond back (pi ⊕ (c ⊖ lit 0x33bb_bd2e)) c)

unfoldable pub atan2 : Float → Float → Float
unfolding left ratio atan_rest size signed octant
atan2 y x =
    let ax = size x in
    let ay = size y in
    let b = atan_rest (ratio ay ax) in
    let d = octant (signed b (left x)) (lt ax ay) (left x) in
    raised (capped (signed d (left y)) pi) (minus 0x4049_0fdb)
