-- Bit patterns and units: what a pattern below the infinity's is worth (`read_low`, `read_high`), and which pattern a number of units has (`write`).
-- Assumes nothing.
use Rattle.std.specs.Prelude.{◌≡◌, ℕ, zero, suc, ◌+◌, ◌-◌, ◌*◌, ◌/◌, ◌%◌, ◌^◌, ◌<◌, ◌≤◌, Bool, true, false, cond, not, T, ◌==◌, is_nan, nat_le, nat_lt, Float}
use Rattle.std.proofs.Math.Path.{refl, ap}
use Rattle.std.proofs.Common.{sym, ◌∙◌, subst, arith, pow-add, pow_pos, pow_mono, shl_lt}
use native.Mathlib.Nat.{le_refl, le_trans, le_of_eq, lt_of_lt_of_le, lt_of_le_of_lt, lt_irrefl, lt_of_not-le, not-le_of_lt, le_antisymm, mul-one, zero-add}
use native.Mathlib.Nat.{mul-le-mul_right, mul-div_cancel, mod-eq_of_lt}
use lib.Dec.{ltb→lt, leb→le, eqb→eq, nltb→le}
use Rattle.std.proofs.Math.Pow.{pow-lt}
use Rattle.std.specs.Float.{nan, inf, fin, Format, binary32, binary64}
use Rattle.std.specs.Float.Ieee.{prec, low, up, down, size, odd, hid, ones, top, of_fields, of_bits, to_bits, fits, nan_bits, neg, emax, units}
use Rattle.std.specs.Float.Ieee.Fits.{down_pos, inf-fits, odd-fits, two, two-le_pos}
use Rattle.std.specs.Float.Ieee.Digits.{size-lt, size-le}
use Rattle.std.specs.Float.Ieee.Bits.{is_true, of_bits-to_bits, nan_bits_is, nan_bits_above}
use Rattle.std.proofs.Math.Arith.{le→nltb}
use Rattle.std.specs.Float.Ieee.Exact.{odd_sign}
use Rattle.floats.specs.UnitLaws.{Val, not_so}

-- ---- reading
plain : (f : Format) (b : ℕ) → b < top f → of_bits f b ≡ of_fields f false (b / hid f) (b % hid f)
unfolding of_bits
plain f b h =
    ap (λ (s : Bool). of_fields f s (b % top f / hid f) (b % hid f)) (not_so (nat_le (top f) b) (λ t. not-le_of_lt h (leb→le (top f) b t)))
    ∙ ap (λ (z : ℕ). of_fields f false (z / hid f) (b % hid f)) (mod-eq_of_lt h)

fields_low : (f : Format) (x t : ℕ) → x ≡ 0 → Val f (of_fields f false x t) false t
unfolding of_fields
fields_low f x t e =
    subst (λ (z : ℕ). Val f (of_fields f false z t) false t) (sym e)
    (subst (λ (z : ℕ). Val f (odd (prec f) false t 0 (low f)) false z) (mul-one t) (odd_sign (prec f) false t 0 (low f)))

fields_high : (f : Format) (x t : ℕ) → suc x < ones f → Val f (of_fields f false (suc x) t) false ((hid f + t) * 2 ^ x)
unfolding of_fields
fields_high f x t h =
    subst (λ (b : Bool). Val f (cond b (cond (t == 0) (inf false) nan) (odd (prec f) false (hid f + t) x (low f))) false ((hid f + t) * 2 ^ x))
    (sym (not_so (suc x == ones f) (λ u. lt_irrefl (ones f) (subst (λ (z : ℕ). z < ones f) (eqb→eq (suc x) (ones f) u) h))))
    (odd_sign (prec f) false (hid f + t) x (low f))

pub read_low : (f : Format) (b : ℕ) → b < top f → b / hid f ≡ 0 → Val f (of_bits f b) false (b % hid f)
read_low f b h e = subst (λ (z : Float). Val f z false (b % hid f)) (sym (plain f b h)) (fields_low f (b / hid f) (b % hid f) e)

pub read_high : (f : Format) (b x : ℕ) → b < top f → b / hid f ≡ suc x → suc x < ones f → Val f (of_bits f b) false ((hid f + b % hid f) * 2 ^ x)
read_high f b x h e l =
    subst (λ (z : Float). Val f z false ((hid f + b % hid f) * 2 ^ x)) (sym (plain f b h ∙ ap (λ (z : ℕ). of_fields f false z (b % hid f)) e))
    (fields_high f x (b % hid f) l)

-- ---- a number's digits
pub size_is : (n z : ℕ) → 2 ^ z ≤ n → n < 2 ^ suc z → size n ≡ suc z
size_is n z lo hi = le_antisymm (size-le n (suc z) hi) (lt_of_not-le (λ (g : size n ≤ z). not-le_of_lt (lt_of_lt_of_le (size-lt n) (pow_mono g)) lo))

-- ---- writing
pub write_val : (f : Format) (x : Float) (n : ℕ) → Val f x false n → to_bits f x ≡ (size n - prec f) * hid f + n / 2 ^ (size n - prec f)
unfolding to_bits
write_val f nan n v = absurd v
write_val f (inf s) n v = absurd v
write_val f (fin s m e) n v =
    let c : m * up e * 2 ^ low f / down e ≡ n = ap (λ (z : ℕ). z / down e) v.1 ∙ mul-div_cancel n (down_pos e) in
    ap (λ (z : ℕ). cond s (top f) 0 + (size z - prec f) * hid f + z / 2 ^ (size z - prec f)) c
    ∙ ap (λ (z : Bool). cond z (top f) 0 + (size n - prec f) * hid f + n / 2 ^ (size n - prec f)) v.0
    ∙ ap (λ (z : ℕ). z + n / 2 ^ (size n - prec f)) (zero-add ((size n - prec f) * hid f))

-- one number of units with a clear sign, one value
pub same_clear : (f : Format) (x y : Float) (n : ℕ) → T (fits f x) → T (fits f y) → Val f x false n → Val f y false n → x ≡ y
same_clear f x y n p q v w = sym (of_bits-to_bits f x p) ∙ ap (of_bits f) (write_val f x n v ∙ sym (write_val f y n w)) ∙ of_bits-to_bits f y q

-- q * 2 ^ k units, q with all its digits: the pattern is k fields on, plus q
full : (p k : ℕ) → 0 < p → suc (p - 1 + k) - p ≡ k
full p k h = omega arith

one_up : (p k : ℕ) → 0 < p → suc (p - 1 + k) ≡ p + k
one_up p k h = omega arith

pub write : (f : Format) (x : Float) (q k : ℕ) → hid f ≤ q → q < 2 ^ prec f → Val f x false (q * 2 ^ k) → to_bits f x ≡ k * hid f + q
write f x q k lo hi v =
    let n = q * 2 ^ k in
    let P : 0 < prec f = two-le_pos (prec f) (two f) in
    let a : 2 ^ (prec f - 1 + k) ≤ n = le_trans (le_of_eq (pow-add 2 (prec f - 1) k)) (mul-le-mul_right (2 ^ k) lo) in
    let b : n < 2 ^ suc (prec f - 1 + k) = subst (λ (z : ℕ). n < 2 ^ z) (sym (one_up (prec f) k P)) (shl_lt (prec f) k hi) in
    let z : size n - prec f ≡ k = ap (λ (y : ℕ). y - prec f) (size_is n (prec f - 1 + k) a b) ∙ full (prec f) k P in
    write_val f x n v ∙ ap (λ (y : ℕ). y * hid f + n / 2 ^ y) z ∙ ap (λ (y : ℕ). k * hid f + y) (mul-div_cancel q (pow_pos k))

-- fewer digits, and no factor: the pattern is q
pub write_small : (f : Format) (x : Float) (q : ℕ) → q < 2 ^ prec f → Val f x false q → to_bits f x ≡ q
write_small f x q h v =
    let z : size q - prec f ≡ 0 = none (size q) (prec f) (size-le q (prec f) h) in
    write_val f x q v ∙ ap (λ (y : ℕ). y * hid f + q / 2 ^ y) z ∙ ap (λ (y : ℕ). y + q / 1) (native.Mathlib.Nat.zero-mul (hid f)) ∙
    zero-add (q / 1) ∙ native.Mathlib.Nat.div-one q
  where
    none : (z p : ℕ) → z ≤ p → z - p ≡ 0
    none z p h = omega arith

-- one digit too many, at the next power of two: the same rule
pub write_carry : (f : Format) (x : Float) (q k : ℕ) → q ≡ 2 ^ prec f → Val f x false (q * 2 ^ k) → to_bits f x ≡ k * hid f + q
write_carry f x q k e v =
    let P : 0 < prec f = two-le_pos (prec f) (two f) in
    write f x (hid f) (suc k) (le_refl (hid f)) (half_lt f) (subst (λ (z : ℕ). Val f x false z) (ap (λ (z : ℕ). z * 2 ^ k) e ∙ turn f k) v)
    ∙ carry f k ∙ ap (λ (z : ℕ). k * hid f + z) (sym e)
  where
    half_lt : (f : Format) → hid f < 2 ^ prec f
    half_lt binary32 = lib.Dec.lit< tt
    half_lt binary64 = lib.Dec.lit< tt

    turn : (f : Format) (k : ℕ) → 2 ^ prec f * 2 ^ k ≡ hid f * 2 ^ suc k
    turn binary32 k = native.Mathlib.Nat.mul_assoc (2 ^ 23) 2 (2 ^ k) ∙ ap (λ (z : ℕ). 2 ^ 23 * z) (sym (native.Mathlib.Nat.pow-succ' 2 k))
    turn binary64 k = native.Mathlib.Nat.mul_assoc (2 ^ 52) 2 (2 ^ k) ∙ ap (λ (z : ℕ). 2 ^ 52 * z) (sym (native.Mathlib.Nat.pow-succ' 2 k))

    carry : (f : Format) (k : ℕ) → suc k * hid f + hid f ≡ k * hid f + 2 ^ prec f
    carry binary32 k = omega arith
    carry binary64 k = omega arith

-- ---- a pattern up to the infinity's is no NaN's
pub no_nan32 : (n : ℕ) → n ≤ 0x7f800000 → T (not (nan_bits binary32 n))
no_nan32 n h =
    subst (λ (b : Bool). T (not b)) (sym (nan_bits_above binary32 n))
    (le→nltb 0x7f800000 (n % 0x80000000) (le_trans (native.Mathlib.Nat.mod-le n 0x80000000) h))

-- ---- the sign's bit
fields_neg : (f : Format) (x t : ℕ) → of_fields f true x t ≡ neg (of_fields f false x t)
unfolding of_fields
fields_neg f zero t = odd_neg (prec f) t 0 (low f)
  where
    odd_neg : (d q k l : ℕ) → odd d true q k l ≡ neg (odd d false q k l)
    odd_neg d zero k l = unfold odd neg in refl
    odd_neg d (suc q) k l = unfold odd neg in refl
fields_neg f (suc x) t = go (suc x == ones f) (t == 0) (hid f + t)
  where
    go : (a b : Bool) (q : ℕ) → cond a (cond b (inf true) nan) (odd (prec f) true q x (low f)) ≡ neg
        (cond a (cond b (inf false) nan) (odd (prec f) false q x (low f)))
    go true true q = unfold neg in refl
    go true false q = unfold neg in refl
    go false b zero = unfold odd neg in refl
    go false b (suc q) = unfold odd neg in refl

pub pattern_neg : (f : Format) (b : ℕ) → b < top f → of_bits f (top f + b) ≡ neg (of_bits f b)
pattern_neg f b h = open_up ∙ fields_neg f (b / hid f) (b % hid f) ∙ ap neg (sym (plain f b h))
  where
    open_up : of_bits f (top f + b) ≡ of_fields f true (b / hid f) (b % hid f)
    open_up =
        unfold of_bits in (ap (λ (s : Bool). of_fields f s ((top f + b) % top f / hid f) ((top f + b) % hid f))
        (is_true (nat_le (top f) (top f + b)) (lib.Dec.le→leb (top f) (top f + b) (native.Mathlib.Nat.le-add_right (top f) b)))
        ∙ ap (λ (z : ℕ). of_fields f true (z / hid f) ((top f + b) % hid f)) (native.Mathlib.Nat.add-mod_left (top f) b ∙ mod-eq_of_lt h)
        ∙ ap (λ (z : ℕ). of_fields f true (b / hid f) z) (native.Mathlib.Nat.mul-add-mod_self_left (hid f) (suc (ones f)) b))

-- of a value that is no NaN, the pattern without its sign's bit is at most the infinity's
pub unsigned_le : (f : Format) (x : Float) → T (fits f x) → T (not (is_nan x)) → to_bits f x % top f ≤ ones f * hid f
unsigned_le f x p n =
    nltb→le (ones f * hid f) (to_bits f x % top f)
    (subst (λ (b : Bool). T (not b)) (sym (ap is_nan (of_bits-to_bits f x p)) ∙ sym (nan_bits_is f (to_bits f x)) ∙ nan_bits_above f (to_bits f x)) n)

-- ---- a number of units of no more digits than the format has is held, or is the infinity
pub units_fit : (f : Format) (q k : ℕ) → q ≤ 2 ^ prec f → T (fits f (units f false q k))
unfolding units
units_fit f q k h = go (nat_lt (q * 2 ^ k) (2 ^ (low f + suc (emax f)))) (ltb→lt (q * 2 ^ k) (2 ^ (low f + suc (emax f))))
  where
    go : (b : Bool) → (T b → q * 2 ^ k < 2 ^ (low f + suc (emax f))) → T (fits f (cond b (odd (suc (prec f)) false q k (low f)) (inf false)))
    go true l = odd-fits f (suc (prec f)) false q k (lt_of_le_of_lt h (pow-lt (le_refl (suc (prec f))))) h (l tt)
    go false l = inf-fits f false
