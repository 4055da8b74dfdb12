-- tanh of a number is a number. All steps but two quotients are bounded. The first divides by 1 + 2 ^ k, and its 47 values are computed. The second
-- divides by 1 + q:
-- where that is 0 the dividend is not, so the quotient is an infinity at worst; it is multiplied by 1 - l * l, which is never 0, so no NaN arises,
-- and the clamp makes it 1 or -1. Assumes nothing.
use Rattle.std.specs.Prelude.{◌≡◌, Bool, false, cond, not, ◌&&◌, ◌||◌, ℤ, ℕ, zero, suc, ◌+◌, ◌-◌, ◌*◌, ◌%◌, ◌^◌, ◌≤◌, ◌<◌, T, ltb, eqb}
use Rattle.std.proofs.Math.Path.{refl}
use Rattle.std.proofs.Common.{sym, ap, subst, ◌∙◌, inl, inr, true≢false, le_trans, le_of_eq, le_of_lt, lt_of_lt_of_le, lt_irrefl, zero-mul, one-mul}
use Rattle.std.proofs.Common.{mul-pos, mul-le-mul_right, eq-or-lt_of_le, arith, leb→le, ltb→lt, nltb→le, eqb→eq, lit≤, pow_pos}
use Rattle.std.proofs.Math.Bool.{true}
use Rattle.std.proofs.Math.Nat.{eq_of_mul-eq-mul_right}
use Rattle.std.proofs.Math.Dec.{leb, lit<}
use lib.Ieee.{Float, nan, inf, fin, binary32, up, down, unlike, round, sum, add, sub, mul, div, neg, lt, fits, is_nan, of_bits, to_bits}
use Rattle.std.specs.Float.Ieee.Fits.{and_l, and_r, down_pos, add-fits, cond-fits}
use Rattle.std.specs.Float.Ieee.Scale.{finite}
use Rattle.floats.specs.Ops.{◌⊕◌, ◌⊖◌, ◌⊗◌, ◌⊘◌, lit, minus, nought, one}
use Rattle.floats.specs.UnitLaws.{Val, add_val, lt_val}
use Rattle.floats.specs.RoundingLaws.{counted, val_unique}
use Rattle.floats.specs.RankLaws.{Sized}
use Rattle.floats.specs.NarrowOrderLaws.{G, G-mono, fraction_sized}
use Rattle.floats.specs.NonNegLaws.{sum_same, sum_np_gt, sum_pn_ge, sum_pn_lt}
use Rattle.floats.specs.ProductLaws.{mul_val}
use Rattle.floats.specs.RemLaws.{nought_val}
use Rattle.elementary.specs.Elementary.{capped, raised, above, under, scale, big_m, tanh_rest, tanh}
use Rattle.elementary.specs.SelectLaws.{clamped_inside, clamped_number, clamped_fits}
use Rattle.floats.specs.SquareSumLaws.{round_number}
use Rattle.floats.specs.WithinLaws.{Within, within_finite, sum_rounded}
use Rattle.elementary.specs.SizeLaws.{L, add_in, sub_in, mul_in, constant, units_of, Near, off, tests_in}
use Rattle.elementary.specs.NumberLaws.{unit_number, byte_of_lem, big_m_units, big_m_val}

-- ---- steps that may have an infinity in them
sum_number : (s : Bool) (a : ℕ) (t : Bool) (b c : ℕ) → T (not (is_nan (sum binary32 s a t b c)))
sum_number s a t b c = let r = sum_rounded binary32 s a t b c in subst (λ (z : Float). T (not (is_nan z))) (sym r.2) (round_number binary32 r.0 r.1 c)

-- a finite value and a number: their sum is a number, on either side, and so is a difference
add_number : (x y : Float) → T (finite x) → T (not (is_nan y)) → T (not (is_nan (add binary32 x y)))
unfolding add
add_number nan y p n = absurd p
add_number (inf s) y p n = absurd p
add_number (fin s m e) nan p n = absurd (unfold is_nan in n)
add_number (fin s m e) (inf t) p n = unfold is_nan in tt
add_number (fin s m e) (fin t k d) p n = sum_number s (m * up e * down d) t (k * up d * down e) (down e * down d)

number_add : (x y : Float) → T (not (is_nan x)) → T (finite y) → T (not (is_nan (add binary32 x y)))
unfolding add
number_add x nan n p = absurd p
number_add x (inf t) n p = absurd p
number_add nan (fin t k d) n p = absurd (unfold is_nan in n)
number_add (inf s) (fin t k d) n p = unfold is_nan in tt
number_add (fin s m e) (fin t k d) n p = sum_number s (m * up e * down d) t (k * up d * down e) (down e * down d)

neg_number : (x : Float) → T (not (is_nan x)) → T (not (is_nan (neg x)))
unfolding neg is_nan
neg_number nan n = n
neg_number (inf s) n = tt
neg_number (fin s m e) n = tt

neg_finite : (x : Float) → T (finite x) → T (finite (neg x))
unfolding neg
neg_finite nan p = p
neg_finite (inf s) p = p
neg_finite (fin s m e) p = tt

-- finite, and not a zero
abbrev nonzero : Float → Bool
nonzero nan = false
nonzero (inf s) = false
nonzero (fin s m e) = not (eqb m 0)

nonzero_mul : (x y : Float) → T (nonzero x) → T (not (is_nan y)) → T (not (is_nan (mul binary32 x y)))
unfolding mul
nonzero_mul nan y p n = absurd p
nonzero_mul (inf s) y p n = absurd p
nonzero_mul (fin s m e) nan p n = absurd (unfold is_nan in n)
nonzero_mul (fin s m e) (inf t) p n = go (eqb m 0) p
  where
    go : (b : Bool) → T (not b) → T (not (is_nan (cond b nan (inf (unlike s t)))))
    go true q = absurd q
    go false q = unfold is_nan in tt
nonzero_mul (fin s m e) (fin t k d) p n = round_number binary32 (unlike s t) (m * up e * (k * up d)) (down e * down d)

-- a quotient of two finite values that are not both zero
div_number : (x y : Float) (s t : Bool) (a b : ℕ) → Val binary32 x s a → Val binary32 y t b → (b ≡ 0 → 0 < a) → T (not (is_nan (div binary32 x y)))
unfolding div
div_number nan y s t a b v w h = absurd v
div_number (inf s') y s t a b v w h = absurd v
div_number (fin s' m e) nan s t a b v w h = absurd w
div_number (fin s' m e) (inf t') s t a b v w h = absurd w
div_number (fin s' m e) (fin t' n d) s t a b v w h = go (eqb n 0) (eqb m 0) (eqb→eq n 0) (eqb→eq m 0)
  where
    -- no significand, no units
    none : (k c : ℕ) (i : ℤ) → k ≡ 0 → k * up i * L ≡ c * down i → c ≡ 0
    none k c i z g =
        eq_of_mul-eq-mul_right (down i) (down_pos i) c 0 (sym g ∙ ap (λ (j : ℕ). j * up i * L) z ∙ ap (λ (j : ℕ). j * L) (zero-mul (up i)) ∙
        zero-mul L ∙ sym (zero-mul (down i)))

    go : (p q : Bool) → (T p → n ≡ 0) → (T q → m ≡ 0) →
        T (not (is_nan (cond p (cond q nan (inf (unlike s' t'))) (round binary32 (unlike s' t') (m * up e * down d) (n * up d * down e)))))
    go false q f g = round_number binary32 (unlike s' t') (m * up e * down d) (n * up d * down e)
    go true false f g = unfold is_nan in tt
    go true true f g = absurd (lt_irrefl 0 (subst (λ (z : ℕ). 0 < z) (none m a e (g tt) v.1) (h (none n b d (f tt) w.1))))

-- ---- a rounded value is above zero where a smaller one is
some_left : (z : Float) (t u : Bool) (b k c m : ℕ) → 0 < c → z ≡ round binary32 u k c → Val binary32 z t b → m ≤ k → T (leb 1 (G binary32 c m)) → 0 < b
some_left z t u b k c m C e v h p = go (fraction_sized binary32 u k c)
  where
    go : Sized binary32 (round binary32 u k c) u (G binary32 c k) → 0 < b
    go (inl w) =
        le_trans (le_trans (leb→le 1 (G binary32 c m) p) (G-mono binary32 c m k C h))
        (le_of_eq (val_unique binary32 z u (G binary32 c k) t b (subst (λ (y : Float). Val binary32 y u (G binary32 c k)) (sym e) w.0) v))
    go (inr w) = absurd (subst (λ (y : Float). Val binary32 y t b) (e ∙ w.0) v)

-- ---- the second quotient
abbrev q_of : Float → Float → Float
q_of l r = let z = r ⊗ r in z ⊗ (lit 0x3eaa_aa7a ⊕ z ⊗ minus 0x3cb5_1554) ⊖ l ⊗ r

q_in : {l r : Float} → Within binary32 L l → Within binary32 (2 ^ 155) r → Within binary32 (2 ^ 175) (q_of l r)
unfolding lib.Ieee.size of_bits neg fits
q_in hl hr =
    let hz = mul_in (2 ^ 161) hr hr tt in
    let hp = add_in (2 ^ 162) (constant L (lit 0x3eaa_aa7a) tt) (mul_in (2 ^ 161) hz (constant L (minus 0x3cb5_1554) tt) tt) tt in
    sub_in (2 ^ 175) (mul_in (2 ^ 174) hz hp tt) (mul_in (2 ^ 155) hl hr tt) tt

q_zero : {l r : Float} → Within binary32 L l → Within binary32 0 r → Within binary32 0 (q_of l r)
unfolding lib.Ieee.size of_bits neg fits
q_zero hl hr =
    let hz = mul_in 0 hr hr tt in
    let hp = add_in L (constant L (lit 0x3eaa_aa7a) tt) (mul_in 0 hz (constant L (minus 0x3cb5_1554) tt) tt) tt in
    sub_in 0 (mul_in 0 hz hp tt) (mul_in 0 hl hr tt) tt

one_val : Val binary32 one false L
unfolding of_bits
one_val = (refl, refl)

-- one unit rounded is one unit, and so is one unit times 1
unit_kept : T (leb 1 (G binary32 L 1)) × T (leb 1 (G binary32 (L * L) L))
unfolding lib.Ieee.size
unit_kept = (tt, tt)

-- a sum with 1 is zero at -1 only
minus_one : (q : Float) (s t : Bool) (n b : ℕ) → Val binary32 q s n → Val binary32 (one ⊕ q) t b → b ≡ 0 → n ≡ L
minus_one q s t n b v w z = go s v (ltb L n) (ltb→lt L n) (nltb→le L n)
  where
    no : (u : Bool) (k : ℕ) → one ⊕ q ≡ round binary32 u k L → 1 ≤ k → ⊥
    no u k e h = lt_irrefl 0 (subst (λ (y : ℕ). 0 < y) z (some_left (one ⊕ q) t u b k L 1 (pow_pos 149) e w h unit_kept.0))

    more : (l n : ℕ) → 0 < l → 1 ≤ l + n
    more l n h = omega arith

    apart : (i j : ℕ) → i < j → 1 ≤ j - i
    apart i j h = omega arith

    go : (s : Bool) → Val binary32 q s n → (c : Bool) → (T c → L < n) → (T (not c) → n ≤ L) → n ≡ L
    go false v c f g = absurd (no false (L + n) (add_val binary32 one q false L false n one_val v ∙ sum_same binary32 L n L false) (more L n (pow_pos 149)))
    go true v true f g = absurd (no true (n - L) (add_val binary32 one q false L true n one_val v ∙ sum_pn_lt binary32 L n L (f tt)) (apart L n (f tt)))
    go true v false f g = elim (eq-or-lt_of_le (g tt)) [
      | inl e ↦ e
      | inr h ↦ absurd (no false (L - n) (add_val binary32 one q false L true n one_val v ∙ sum_pn_ge binary32 L n L (g tt)) (apart n L h))
    ]

-- so where the divisor is zero the dividend is not
module _ (l r : Float) (hl : Within binary32 L l) (hr : Within binary32 (2 ^ 155) r) where
  dividend_in : Within binary32 (2 ^ 182) (r ⊗ q_of l r ⊕ nought)
  unfolding lib.Ieee.size of_bits fits
  dividend_in = add_in (2 ^ 182) (mul_in (2 ^ 181) hr (q_in hl hr) tt) (constant 0 nought tt) tt

  divisor_in : Within binary32 (2 ^ 176) (one ⊕ q_of l r)
  unfolding lib.Ieee.size of_bits fits
  divisor_in = add_in (2 ^ 176) (constant L one tt) (q_in hl hr) tt

  abbrev q : Float
  q = q_of l r

  hq : Within binary32 (2 ^ 175) q
  hq = q_in hl hr

  product_in : Within binary32 (2 ^ 181) (r ⊗ q)
  unfolding lib.Ieee.size
  product_in = mul_in (2 ^ 181) hr hq tt

  moved : hq.count ≡ L → 0 < hr.count
  moved e = go hr.count refl
    where
      go : (a : ℕ) → hr.count ≡ a → 0 < hr.count
      go zero g =
          let h = q_zero hl (record { sign = hr.sign; count = hr.count; val = hr.val; most = le_of_eq g }) in
          absurd (lt_irrefl 0 (lt_of_lt_of_le (pow_pos 149)
          (le_trans (le_of_eq (sym e ∙ val_unique binary32 q hq.sign hq.count h.sign h.count hq.val h.val)) h.most)))
      go (suc a) g = subst (λ (y : ℕ). 0 < y) (sym g) (some a)
        where
          some : (a : ℕ) → 0 < suc a
          some a = omega arith

  once : (a l : ℕ) → 0 < a → l ≤ a * l
  once a l h = le_trans (le_of_eq (sym (one-mul l))) (mul-le-mul_right l h)

  product_some : hq.count ≡ L → 0 < product_in.count
  product_some e =
      some_left (r ⊗ q) product_in.sign (unlike hr.sign hq.sign) product_in.count (hr.count * hq.count) (L * L) L
      (mul-pos (pow_pos 149) (pow_pos 149))
      (mul_val binary32 r q hr.sign hr.count hq.sign hq.count hr.val hq.val) product_in.val
      (subst (λ (y : ℕ). L ≤ hr.count * y) (sym e) (once hr.count L (moved e))) unit_kept.1

  dividend_some : divisor_in.count ≡ 0 → 0 < dividend_in.count
  dividend_some z = go product_in.sign product_in.val
    where
      c : ℕ
      c = product_in.count

      some : 0 < c
      some = product_some (minus_one q hq.sign divisor_in.sign hq.count divisor_in.count hq.val divisor_in.val z)

      left_in : (u : Bool) (k : ℕ) → r ⊗ q ⊕ nought ≡ round binary32 u k L → 1 ≤ k → 0 < dividend_in.count
      left_in u k e h = some_left (r ⊗ q ⊕ nought) dividend_in.sign u dividend_in.count k L 1 (pow_pos 149) e dividend_in.val h unit_kept.0

      plus : (c : ℕ) → 0 < c → 1 ≤ c + 0
      plus c h = omega arith

      less : (c : ℕ) → 0 < c → 1 ≤ c - 0
      less c h = omega arith

      go : (s : Bool) → Val binary32 (r ⊗ q) s c → 0 < dividend_in.count
      go false v = left_in false (c + 0) (add_val binary32 (r ⊗ q) nought false c false 0 v nought_val ∙ sum_same binary32 c 0 L false) (plus c some)
      go true v = left_in true (c - 0) (add_val binary32 (r ⊗ q) nought true c false 0 v nought_val ∙ sum_np_gt binary32 c 0 L some) (less c some)

  rest_number : T (not (is_nan (tanh_rest l r)))
  unfolding tanh_rest sub
  rest_number =
      add_number r (neg ((r ⊗ q ⊕ nought) ⊘ (one ⊕ q))) (within_finite hr)
      (neg_number ((r ⊗ q ⊕ nought) ⊘ (one ⊕ q))
      (div_number (r ⊗ q ⊕ nought) (one ⊕ q) dividend_in.sign divisor_in.sign dividend_in.count divisor_in.count dividend_in.val
      divisor_in.val dividend_some))

-- ---- the first quotient, at each of the 47 powers of two
abbrev l_of : Float → Float
l_of s = (one ⊖ s) ⊘ (one ⊕ s)

-- it is at most 1 in size, and 1 less its square is not zero
abbrev good : Float → Bool
good l = (fits binary32 l && finite l && leb (units_of l) L) && nonzero (one ⊖ l ⊗ l)

unfoldable all_below : (ℕ → Bool) → ℕ → Bool
all_below f zero = true
all_below f (suc n) = f n && all_below f n

all_at : (f : ℕ → Bool) (n d : ℕ) → T (all_below f n) → d < n → T (f d)
unfolding all_below
all_at f zero d t h = absurd (never d h)
  where
    never : (d : ℕ) → d < 0 → ⊥
    never d h = omega arith
all_at f (suc n) d t h = elim (eq-or-lt_of_le (down_one d n h)) [
  | inl e ↦ subst (λ (z : ℕ). T (f z)) (sym e) (and_l (f n) (all_below f n) t)
  | inr l ↦ all_at f n d (and_r (f n) (all_below f n) t) l
]
  where
    down_one : (d n : ℕ) → d < suc n → d ≤ n
    down_one d n h = omega arith

abbrev tested : ℕ → Bool
tested d = ltb d 104 || good (l_of (of_bits binary32 (d * 8388608)))

all_tested : T (all_below tested 151)
unfolding all_below of_bits fits add sub mul div neg
all_tested = tt

good_at : (d : ℕ) → 104 ≤ d → d ≤ 150 → T (good (l_of (of_bits binary32 (d * 8388608))))
good_at d lo hi = pick (ltb d 104) (ltb→lt d 104) (all_at tested 151 d all_tested (up_one d hi))
  where
    up_one : (d : ℕ) → d ≤ 150 → d < 151
    up_one d h = omega arith

    never : (d : ℕ) → d < 104 → 104 ≤ d → ⊥
    never d h l = omega arith

    pick : (b : Bool) → (T b → d < 104) → T (b || good (l_of (of_bits binary32 (d * 8388608)))) → T (good (l_of (of_bits binary32 (d * 8388608))))
    pick true h t = absurd (never d (h tt) lo)
    pick false h t = t

-- ---- what the steps before them give
-- x brought between -9.25 and 9.25
top_val : Val binary32 (lit 0x4114_0000) false (37 * 2 ^ 147)
unfolding of_bits
top_val = (refl, refl)

bottom_val : Val binary32 (minus 0x4114_0000) true (37 * 2 ^ 147)
unfolding of_bits neg
bottom_val = (refl, refl)

cut_in : (x : Float) → T (fits binary32 x) → T (not (is_nan x)) → Within binary32 (2 ^ 153) (raised (capped x (lit 0x4114_0000)) (minus 0x4114_0000))
unfolding lt of_bits neg fits is_nan
cut_in x p n =
    let i = clamped_inside (minus 0x4114_0000) (lit 0x4114_0000) refl refl refl x in
    plain (raised (capped x (lit 0x4114_0000)) (minus 0x4114_0000)) (clamped_fits x (lit 0x4114_0000) (minus 0x4114_0000) p tt tt)
    (clamped_number x (lit 0x4114_0000) (minus 0x4114_0000) n tt tt)
    i.low i.high
  where
    plain : (x : Float) → T (fits binary32 x) → T (not (is_nan x)) → lt x (minus 0x4114_0000) ≡ false → lt (lit 0x4114_0000) x ≡ false →
        Within binary32 (2 ^ 153) x
    plain nan p n e g = absurd n
    plain (inf true) p n e g = absurd (true≢false e)
    plain (inf false) p n e g = absurd (true≢false g)
    plain (fin s m i) p n e g =
        tests_in (2 ^ 153) (minus 0x4114_0000) (lit 0x4114_0000) (fin s m i) (37 * 2 ^ 147) (37 * 2 ^ 147) bottom_val top_val (lit≤ tt) (lit≤ tt) p tt e g

-- the sum with M, held between M - 23 and M + 23
abbrev low_end : Float
low_end = lit 0x4b40_0068

abbrev high_end : Float
high_end = lit 0x4b40_0096

abbrev step : ℕ
step = 23 * 2 ^ 149

low_val : Val binary32 low_end false (12583016 * 2 ^ 149)
unfolding of_bits
low_val = (refl, refl)

high_val : Val binary32 high_end false (12583062 * 2 ^ 149)
unfolding of_bits
high_val = (refl, refl)

held_near : (t : Float) → T (fits binary32 t) → Near big_m_units step (under (above t low_end) high_end)
held_near t p = outer (lt (above t low_end) high_end) (inner (lt low_end t) refl)
  where
    at_low : Near big_m_units step low_end
    at_low = record { count = 12583016 * 2 ^ 149; val = low_val; low = lit≤ tt; high = lit≤ tt }

    at_high : Near big_m_units step high_end
    at_high = record { count = 12583062 * 2 ^ 149; val = high_val; low = lit≤ tt; high = lit≤ tt }

    -- a finite value by its sign: above an end that is not below zero it is not below zero
    by_sign : (x : Float) (s : Bool) (c : ℕ) → Val binary32 x s c → lt low_end x ≡ true → lt x high_end ≡ true → Near big_m_units step x
    by_sign x true c v g e = absurd (true≢false (sym g ∙ lt_val binary32 low_end x false (12583016 * 2 ^ 149) true c low_val v))
    by_sign x false c v g e =
        record {
          count = c;
          val = v;
          low = le_of_lt (ltb→lt (12583016 * 2 ^ 149) c (subst T (sym (sym (lt_val binary32 low_end x false (12583016 * 2 ^ 149) false c low_val v) ∙ g)) tt));
          high =
              le_of_lt (ltb→lt c (12583062 * 2 ^ 149) (subst T (sym (sym (lt_val binary32 x high_end false c false (12583062 * 2 ^ 149) v high_val) ∙ e)) tt));
        }

    between : (x : Float) → T (fits binary32 x) → lt low_end x ≡ true → lt x high_end ≡ true → Near big_m_units step x
    between nan p g e = absurd (true≢false (sym (unfold lt in e)))
    between (inf true) p g e = absurd (true≢false (sym (unfold lt of_bits in g)))
    between (inf false) p g e = absurd (true≢false (sym (unfold lt of_bits in e)))
    between (fin s m i) p g e = let c = counted binary32 (fin s m i) p tt in by_sign (fin s m i) c.sign c.count c.val g e

    inner : (b : Bool) → lt low_end t ≡ b → lt (cond b t low_end) high_end ≡ true → Near big_m_units step (cond b t low_end)
    inner true g e = between t p g e
    inner false g e = at_low

    outer : (b : Bool) → (b ≡ true → Near big_m_units step (above t low_end)) → Near big_m_units step (cond b (above t low_end) high_end)
    outer true h = h refl
    outer false h = at_high

-- ---- tanh
module _ (x : Float) (p : T (fits binary32 x)) (n : T (not (is_nan x))) where
  abbrev v : Float
  v = under (above (x ⊗ lit 0x4030_0000 ⊕ big_m) low_end) high_end

  hv : Near big_m_units step v
  hv = held_near (x ⊗ lit 0x4030_0000 ⊕ big_m) (add-fits binary32 (x ⊗ lit 0x4030_0000) big_m)

  v_fits : T (fits binary32 v)
  v_fits =
      cond-fits binary32 (lt u high_end) u high_end
      (cond-fits binary32 (lt low_end t) t low_end (add-fits binary32 (x ⊗ lit 0x4030_0000) big_m) (unfold fits of_bits in tt)) (unfold fits of_bits in tt)
    where
      t : Float
      t = x ⊗ lit 0x4030_0000 ⊕ big_m

      u : Float
      u = above (x ⊗ lit 0x4030_0000 ⊕ big_m) low_end

  abbrev r : Float
  r = raised (capped x (lit 0x4114_0000)) (minus 0x4114_0000) ⊖ (v ⊖ big_m) ⊗ lit 0x3eb1_7218

  r_in : Within binary32 (2 ^ 155) r
  unfolding lib.Ieee.size of_bits fits
  r_in =
      let hk = off big_m big_m_units step big_m_val (lit< tt) (12583016, 149, lit< tt, refl, lit< tt) (12583062, 149, lit< tt, refl, lit< tt) hv tt in
      sub_in (2 ^ 155) (cut_in x p n) (mul_in (2 ^ 154) hk (constant L (lit 0x3eb1_7218) tt) tt) tt

  abbrev l : Float
  l = l_of (scale v)

  l_good : T (good l)
  unfolding scale
  l_good =
      let b = byte_of_lem 12583016 12583062 v hv.count v_fits hv.val (lit≤ tt) (lit≤ tt) hv.low hv.high in
      good_at (to_bits binary32 v % 256) b.0 b.1

  pub tanh_number : T (not (is_nan (tanh x)))
  unfolding tanh sub
  tanh_number =
      let hl = constant L l (and_l (fits binary32 l && finite l && leb (units_of l) L) (nonzero (one ⊖ l ⊗ l)) l_good) in
      let w = nonzero_mul (one ⊖ l ⊗ l) (tanh_rest l r) (and_r (fits binary32 l && finite l && leb (units_of l) L) (nonzero (one ⊖ l ⊗ l)) l_good)
      (rest_number l r hl r_in) in
      unit_number ((one ⊖ l ⊗ l) ⊗ tanh_rest l r ⊖ l) (number_add ((one ⊖ l ⊗ l) ⊗ tanh_rest l r) (neg l) w (neg_finite l (within_finite hl)))
