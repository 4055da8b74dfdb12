-- Rounding keeps the order and changes nothing at a held number, so a rounded result is no larger than a held number which the exact one does not
-- pass. With powers of two for the bounds, those of products, quotients and differences follow from the operands'. Assumes nothing.
use Rattle.std.specs.Prelude.{◌≡◌, ℕ, suc, ◌+◌, ◌-◌, ◌*◌, ◌^◌, ◌<◌, ◌≤◌, Bool, true, false, cond, not, ◌&&◌, T, nat_lt, refl, Float}
use Rattle.std.proofs.Common.{sym, ap, ◌∙◌, subst, inl, inr, le_refl, le_trans, le_of_eq, lt_irrefl, lt_of_le_of_lt, lt_of_lt_of_le, one-mul, mul_comm}
use Rattle.std.proofs.Common.{mul_assoc, mul-pos, mul-le-mul, mul-le-mul_left, mul-le-mul_right, arith, lit≤, pow-add, pow_pos}
use Rattle.std.specs.Bool.{beq}
use Rattle.std.proofs.Math.Pow.{pow-lt}
use Rattle.std.specs.Float.{Format, binary32, binary64}
use Rattle.std.specs.Float.Ieee.{prec, emax, low, unlike, round, sum, sub, mul, div}
use Rattle.std.specs.Float.Ieee.Fits.{round-fits}
use Rattle.std.specs.Float.Ieee.Order.{round_mono}
use Rattle.std.specs.Float.Ieee.Scale.{overflow, finite}
use Rattle.floats.specs.UnitLaws.{Val, sub_val}
use Rattle.floats.specs.RoundingLaws.{Rep, round-R, R-exact, finite_of_val}
use Rattle.floats.specs.RankLaws.{Sized, rank_is, le→rank, sized_no_nan}
use Rattle.floats.specs.NarrowOrderLaws.{G, fraction_sized}
use Rattle.floats.specs.ProductLaws.{mul_val, div_val}

-- x is finite and at most n units in size
pub record Within (f : Format) (n : ℕ) (x : Float) : Type 0 where
  pub sign : Bool
  pub count : ℕ
  pub val : Val f x sign count
  pub most : count ≤ n

pub within_finite : {f : Format} {n : ℕ} {x : Float} → Within f n x → T (finite x)
within_finite {f} {n} {x} w = finite_of_val f x w.sign w.count w.val

pub within_more : {f : Format} (n : ℕ) {m : ℕ} {x : Float} → m ≤ n → Within f m x → Within f n x
within_more n h w = record { sign = w.sign; count = w.count; val = w.val; most = le_trans w.most h }

pub rep_pow : (f : Format) (n : ℕ) → n < low f + suc (emax f) → Rep f (2 ^ n)
rep_pow f n h = (1, n, few f, sym (one-mul (2 ^ n)), pow-lt h)
  where
    few : (f : Format) → 1 < 2 ^ prec f
    few binary32 = lit≤ tt
    few binary64 = lit≤ tt

-- ---- a / c rounded: the units of its rounding are at most n
pub rounded_within : (f : Format) (s : Bool) (a c n : ℕ) → G f c a ≤ n → n < overflow f → Within f n (round f s a c)
rounded_within f s a c n h room = pick (fraction_sized f s a c)
  where
    pick : Sized f (round f s a c) s (G f c a) → Within f n (round f s a c)
    pick (inl v) = record { sign = s; count = G f c a; val = v.0; most = h }
    pick (inr v) = absurd (lt_irrefl (overflow f) (lt_of_le_of_lt (subst (λ (z : ℕ). z ≤ n) v.1 h) room))

-- the fraction itself is at most n units, which the format holds
pub round_within : (f : Format) (s : Bool) (a c n : ℕ) → 0 < c → Rep f n → a * 2 ^ low f ≤ n * c → Within f n (round f s a c)
round_within f s a c n C r h = rounded_within f s a c n under r.4
  where
    x : Float
    x = round f false a c

    y : Float
    y = round f false n (2 ^ low f)

    top : Sized f y false n
    top =
        let k = R-exact f n r in
        inl (subst (Val f y false) k (round-R f false n (subst (λ (z : ℕ). z < overflow f) (sym k) r.4)), r.4)

    strip : (o p q : ℕ) → o + p ≤ o + q → p ≤ q
    strip o p q l = omega arith

    under : G f c a ≤ n
    under =
        let v = fraction_sized f false a c in
        strip (overflow f) (G f c a) n
        (le_trans (le_of_eq (sym (rank_is f x false (G f c a) v)))
        (le_trans (le→rank f x y (round-fits f false a c) (round-fits f false n (2 ^ low f)) (sized_no_nan f x false (G f c a) v)
        (sized_no_nan f y false n top) (round_mono f a c n (2 ^ low f) C (pow_pos (low f)) h))
        (le_of_eq (rank_is f y false n top))))

-- a sum of signed sizes is one, rounded, and no larger than both together
pub sum_rounded : (f : Format) (s : Bool) (a : ℕ) (t : Bool) (b c : ℕ) → (u : Bool) × (k : ℕ) × (sum f s a t b c ≡ round f u k c) × (k ≤ a + b)
unfolding sum
sum_rounded f s a t b c = go (beq s t) (nat_lt a b)
  where
    less : (a b : ℕ) → b - a ≤ a + b
    less a b = omega arith

    less' : (a b : ℕ) → a - b ≤ a + b
    less' a b = omega arith

    go : (p q : Bool) → (u : Bool) × (k : ℕ) ×
        (cond p (round f s (a + b) c) (cond q (round f t (b - a) c) (round f (s && nat_lt b a) (a - b) c)) ≡ round f u k c) × (k ≤ a + b)
    go true q = (s, a + b, refl, le_refl (a + b))
    go false true = (t, b - a, refl, less a b)
    go false false = (s && nat_lt b a, a - b, refl, less' a b)

-- ---- the operations
module _ (f : Format) where
  -- |x| at most 2 ^ a units and |y| at most 2 ^ b
  pub mul_within :
      (x y : Float) (a b n : ℕ) → Within f (2 ^ a) x → Within f (2 ^ b) y → a + b ≡ low f + n → n < low f + suc (emax f) → Within f (2 ^ n) (mul f x y)
  mul_within x y a b n v w e h =
      subst (λ (z : Float). Within f (2 ^ n) z) (sym (mul_val f x y v.sign v.count w.sign w.count v.val w.val))
      (round_within f (unlike v.sign w.sign) (v.count * w.count) (2 ^ low f * 2 ^ low f) (2 ^ n) (mul-pos (pow_pos (low f)) (pow_pos (low f)))
      (rep_pow f n h)
      (le_trans (mul-le-mul_right (2 ^ low f) (mul-le-mul v.most w.most))
      (le_of_eq (ap (λ (z : ℕ). z * 2 ^ low f) (sym (pow-add 2 a b) ∙ ap (λ (z : ℕ). 2 ^ z) e ∙ pow-add 2 (low f) n ∙ mul_comm (2 ^ low f) (2 ^ n)) ∙
      mul_assoc (2 ^ n) (2 ^ low f) (2 ^ low f)))))

  -- |x| at most 2 ^ a units, and |y| at least 2 ^ b
  pub div_within :
      (x y : Float) (a b n : ℕ) (t : Bool) (c : ℕ) → Within f (2 ^ a) x → Val f y t c → 2 ^ b ≤ c → a + low f ≡ n + b → n < low f + suc (emax f) →
      Within f (2 ^ n) (div f x y)
  div_within x y a b n t c v w m e h =
      let C : 0 < c = lt_of_lt_of_le (pow_pos b) m in
      subst (λ (z : Float). Within f (2 ^ n) z) (sym (div_val f x y v.sign v.count t c C v.val w))
      (round_within f (unlike v.sign t) v.count c (2 ^ n) C (rep_pow f n h)
      (le_trans (mul-le-mul_right (2 ^ low f) v.most)
      (le_trans (le_of_eq (sym (pow-add 2 a (low f)) ∙ ap (λ (z : ℕ). 2 ^ z) e ∙ pow-add 2 n b)) (mul-le-mul_left (2 ^ n) m))))

  pub sub_within : (x y : Float) (a b n : ℕ) → Within f a x → Within f b y → Rep f n → a + b ≤ n → Within f n (sub f x y)
  sub_within x y a b n v w r h =
      let q = sum_rounded f v.sign v.count (not w.sign) w.count (2 ^ low f) in
      subst (λ (z : Float). Within f n z) (sym (sub_val f x y v.sign v.count w.sign w.count v.val w.val ∙ q.2))
      (round_within f q.0 q.1 (2 ^ low f) n (pow_pos (low f)) r
      (mul-le-mul_right (2 ^ low f) (le_trans q.3 (both v.count w.count v.most w.most))))
    where
      both : (p q : ℕ) → p ≤ a → q ≤ b → p + q ≤ n
      both p q g k = omega arith
