-- Sizes: `Within binary32 n x` says that x is a finite f32 of at most n units of 2 ^ -149. A sum, a difference or a product of two such values has a
-- bound that is computed from theirs, so a chain of steps with crude bounds below the infinity is finite, and no NaN arises in it. Assumes nothing.
use Rattle.std.specs.Prelude.{◌≡◌, refl, Bool, true, false, cond, not, ◌&&◌, ℕ, ◌+◌, ◌-◌, ◌*◌, ◌/◌, ◌^◌, ◌≤◌, ◌<◌, T, leb, ltb}
use Rattle.std.proofs.Common.{sym, ap, subst, ◌∙◌, inl, inr, le_trans, le_of_eq, le_of_lt, lt_of_le_of_lt, mul_comm, mul-pos, mul-le-mul, mul-div_cancel}
use Rattle.std.proofs.Common.{arith, leb→le, ltb→lt, nltb→le, lit<, pow_pos, ltb-false}
use lib.Ieee.{Float, nan, inf, fin, binary32, up, down, round, add, sub, mul, div, neg, lt, fits, is_nan}
use Rattle.std.specs.Float.Ieee.Fits.{and_l, and_r, down_pos}
use Rattle.std.specs.Float.Ieee.Scale.{overflow, finite, round_same}
use Rattle.floats.specs.UnitLaws.{Val, add_val, sub_val, neg_val, lt_val}
use Rattle.floats.specs.RoundingLaws.{R, Rep, val_unique, counted, round-R, R-upper, R-lower}
use Rattle.floats.specs.RankLaws.{Sized, sized_no_nan}
use Rattle.floats.specs.NarrowOrderLaws.{G, G-mono, fraction_sized}
use Rattle.floats.specs.NonNegLaws.{sum_same, sum_np_lt, sum_pn_ge, sum_pn_lt}
use Rattle.floats.specs.ProductLaws.{mul_val, mul_size, div_val}
use Rattle.floats.specs.FiniteLaws.{finite_number}
use Rattle.floats.specs.WithinLaws.{Within, within_finite, rounded_within, sum_rounded}

-- 1 in units
abbrev pub L : ℕ
L = 2 ^ 149

-- ---- one step: m units over c, rounded, stay below n and the infinity
abbrev pub StepBelow : ℕ → ℕ → ℕ → Type 0
StepBelow n c m = T (leb (G binary32 c m) n && ltb n (overflow binary32))

pub rounded_up :
    (n c m : ℕ) (s : Bool) (a : ℕ) (x : Float) → 0 < c → x ≡ round binary32 s a c → a ≤ m → G binary32 c m ≤ n → n < overflow binary32 →
    Within binary32 n x
rounded_up n c m s a x C e h g room =
    subst (λ (z : Float). Within binary32 n z) (sym e) (rounded_within binary32 s a c n (le_trans (G-mono binary32 c a m C h) g) room)

rounded_in : (n c m : ℕ) (s : Bool) (a : ℕ) (x : Float) → 0 < c → x ≡ round binary32 s a c → a ≤ m → StepBelow n c m → Within binary32 n x
rounded_in n c m s a x C e h t =
    rounded_up n c m s a x C e h (leb→le (G binary32 c m) n (and_l (leb (G binary32 c m) n) (ltb n (overflow binary32)) t))
    (ltb→lt n (overflow binary32) (and_r (leb (G binary32 c m) n) (ltb n (overflow binary32)) t))

both : (a b c d : ℕ) → a ≤ c → b ≤ d → a + b ≤ c + d
both a b c d h k = omega arith

module _ (n : ℕ) {a b : ℕ} {x y : Float} (h : Within binary32 a x) (k : Within binary32 b y) where
  pub add_in : StepBelow n L (a + b) → Within binary32 n (add binary32 x y)
  add_in t =
      let r = sum_rounded binary32 h.sign h.count k.sign k.count L in
      rounded_in n L (a + b) r.0 r.1 (add binary32 x y) (pow_pos 149)
      (add_val binary32 x y h.sign h.count k.sign k.count h.val k.val ∙ r.2)
      (le_trans r.3 (both h.count k.count a b h.most k.most)) t

  pub sub_in : StepBelow n L (a + b) → Within binary32 n (sub binary32 x y)
  sub_in t =
      let r = sum_rounded binary32 h.sign h.count (not k.sign) k.count L in
      rounded_in n L (a + b) r.0 r.1 (sub binary32 x y) (pow_pos 149)
      (sub_val binary32 x y h.sign h.count k.sign k.count h.val k.val ∙ r.2)
      (le_trans r.3 (both h.count k.count a b h.most k.most)) t

  pub mul_in : StepBelow n (L * L) (a * b) → Within binary32 n (mul binary32 x y)
  mul_in t =
      rounded_in n (L * L) (a * b) (lib.Ieee.unlike h.sign k.sign) (h.count * k.count) (mul binary32 x y) (mul-pos (pow_pos 149) (pow_pos 149))
      (mul_val binary32 x y h.sign h.count k.sign k.count h.val k.val) (mul-le-mul h.most k.most) t

pub neg_in : {n : ℕ} {x : Float} → Within binary32 n x → Within binary32 n (neg x)
neg_in {n} {x} h = record { sign = not h.sign; count = h.count; val = neg_val binary32 x h.sign h.count h.val; most = h.most }

pub cond_in : {n : ℕ} (b : Bool) {x y : Float} → Within binary32 n x → Within binary32 n y → Within binary32 n (cond b x y)
cond_in true h k = h
cond_in false h k = k

-- ---- a constant, by one computed test
abbrev pub units_of : Float → ℕ
units_of nan = 0
units_of (inf s) = 0
units_of (fin s m e) = m * up e * L / down e

pub constant : (n : ℕ) (x : Float) → T (fits binary32 x && finite x && leb (units_of x) n) → Within binary32 n x
constant n x t =
    let p = and_l (fits binary32 x) (finite x) (and_l (fits binary32 x && finite x) (leb (units_of x) n) t) in
    let q = and_r (fits binary32 x) (finite x) (and_l (fits binary32 x && finite x) (leb (units_of x) n) t) in
    let c = counted binary32 x p q in
    record {
      sign = c.sign;
      count = c.count;
      val = c.val;
      most =
          le_trans (le_of_eq (sym (same x c.sign c.count c.val))) (leb→le (units_of x) n (and_r (fits binary32 x && finite x) (leb (units_of x) n) t));
    }
  where
    same : (x : Float) (s : Bool) (c : ℕ) → Val binary32 x s c → units_of x ≡ c
    same nan s c v = absurd v
    same (inf u) s c v = absurd v
    same (fin u m e) s c v = ap (λ (z : ℕ). z / down e) v.1 ∙ mul-div_cancel c (down_pos e)

-- ---- a large b added and taken off again: the sum is near b, and what is left has the old bound
pub record Near (B n : ℕ) (t : Float) : Type 0 where
  pub count : ℕ
  pub val : Val binary32 t false count
  pub low : B - n ≤ count
  pub high : count ≤ B + n

module _ (b : Float) (B n : ℕ) (w : Val binary32 b false B) (l : n < B) (p : Rep binary32 (B - n)) (q : Rep binary32 (B + n)) where
  near_at_lem : (t : Float) (k : ℕ) → t ≡ round binary32 false k L → B - n ≤ k → k ≤ B + n → Near B n t
  near_at_lem t k e lo hi =
      let u = R-upper binary32 k (B + n) q hi in
      record {
        count = R binary32 k;
        val = subst (λ (z : Float). Val binary32 z false (R binary32 k)) (sym e) (round-R binary32 false k u.0);
        low = R-lower binary32 (B - n) k p lo u.0;
        high = u.1;
      }

  pub near : {x : Float} → Within binary32 n x → Near B n (add binary32 x b)
  near {x} h = go h.sign h.val
    where
      up_lo : (m n B : ℕ) → B - n ≤ m + B
      up_lo m n B = omega arith

      up_hi : (m n B : ℕ) → m ≤ n → m + B ≤ B + n
      up_hi m n B g = omega arith

      down_lo : (m n B : ℕ) → m ≤ n → B - n ≤ B - m
      down_lo m n B g = omega arith

      down_hi : (m n B : ℕ) → B - m ≤ B + n
      down_hi m n B = omega arith

      go : (s : Bool) → Val binary32 x s h.count → Near B n (add binary32 x b)
      go false v =
          near_at_lem (add binary32 x b) (h.count + B) (add_val binary32 x b false h.count false B v w ∙
          sum_same binary32 h.count B L false) (up_lo h.count n B) (up_hi h.count n B h.most)
      go true v =
          near_at_lem (add binary32 x b) (B - h.count) (add_val binary32 x b true h.count false B v w ∙
          sum_np_lt binary32 h.count B L (lt_of_le_of_lt h.most l)) (down_lo h.count n B h.most)
          (down_hi h.count n B)

  pub off : {t : Float} → Near B n t → StepBelow n L n → Within binary32 n (sub binary32 t b)
  off {t} h z = go (ltb h.count B) (ltb→lt h.count B) (nltb→le h.count B)
    where
      under : (c n B : ℕ) → B - n ≤ c → n < B → B - c ≤ n
      under c n B g k = omega arith

      over : (c n B : ℕ) → c ≤ B + n → c - B ≤ n
      over c n B g = omega arith

      go : (i : Bool) → (T i → h.count < B) → (T (not i) → B ≤ h.count) → Within binary32 n (sub binary32 t b)
      go true f g =
          rounded_in n L n true (B - h.count) (sub binary32 t b) (pow_pos 149) (sub_val binary32 t b false h.count false B h.val w ∙
          sum_pn_lt binary32 h.count B L (f tt))
          (under h.count n B h.low l) z
      go false f g =
          rounded_in n L n false (h.count - B) (sub binary32 t b) (pow_pos 149) (sub_val binary32 t b false h.count false B h.val w ∙
          sum_pn_ge binary32 h.count B L (g tt))
          (over h.count n B h.high) z

-- ---- a quotient of a smaller size by a larger one is at most 1
one_over_one : Val binary32 (round binary32 false 1 1) false L
unfolding round lib.Ieee.size lib.Ieee.units lib.Ieee.odd lib.Count.count_trailing_zeros
one_over_one = (refl, refl)

same_over_same : (b : ℕ) → 0 < b → G binary32 b b ≡ L
same_over_same b B = go (fraction_sized binary32 false b b)
  where
    v : Val binary32 (round binary32 false b b) false L
    v = subst (λ (z : Float). Val binary32 z false L) (sym (round_same binary32 false b b 1 1 B (lit< tt) (mul_comm b 1))) one_over_one

    go : Sized binary32 (round binary32 false b b) false (G binary32 b b) → G binary32 b b ≡ L
    go (inl w) = val_unique binary32 (round binary32 false b b) false (G binary32 b b) false L w.0 v
    go (inr w) = absurd (subst (λ (z : Float). Val binary32 z false L) w.0 v)

pub div_in : (x y : Float) (a b : ℕ) (s t : Bool) → Val binary32 x s a → Val binary32 y t b → a < b → Within binary32 L (div binary32 x y)
div_in x y a b s t v w h =
    let B : 0 < b = above_some a b h in
    rounded_up L b b (lib.Ieee.unlike s t) a (div binary32 x y) B (div_val binary32 x y s a t b B v w) (le_of_lt h) (le_of_eq (same_over_same b B)) (lit< tt)
  where
    above_some : (a b : ℕ) → a < b → 0 < b
    above_some a b h = omega arith

-- ---- two failed tests bound a finite value
pub tests_in : (n : ℕ) (bottom top x : Float) (a b : ℕ) → Val binary32 bottom true a → Val binary32 top false b → a ≤ n → b ≤ n →
    T (fits binary32 x) → T (finite x) → lt x bottom ≡ false → lt top x ≡ false → Within binary32 n x
tests_in n bottom top x a b v w A B p q e g =
    let c = counted binary32 x p q in record { sign = c.sign; count = c.count; val = c.val; most = go c.sign c.count c.val }
  where
    go : (s : Bool) (c : ℕ) → Val binary32 x s c → c ≤ n
    go true c u = le_trans (ltb-false a c (sym (lt_val binary32 x bottom true c true a u v) ∙ e)) A
    go false c u = le_trans (ltb-false b c (sym (lt_val binary32 top x false b false c w u) ∙ g)) B

-- ---- a last product may overflow: of two finite values no NaN comes
pub mul_number : {a b : ℕ} {x y : Float} → Within binary32 a x → Within binary32 b y → T (not (is_nan (mul binary32 x y)))
mul_number {a} {b} {x} {y} h k =
    sized_no_nan binary32 (mul binary32 x y) (lib.Ieee.unlike h.sign k.sign) (G binary32 (L * L) (h.count * k.count))
    (mul_size binary32 x y h.sign h.count k.sign k.count h.val k.val)

pub within_number : {n : ℕ} {x : Float} → Within binary32 n x → T (not (is_nan x))
within_number {n} {x} h = finite_number x (within_finite h)
