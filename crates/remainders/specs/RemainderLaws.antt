-- Remainders from bits. Two values of one format with the same sign and number of units are equal, and a remainder in units is that of the whole numbers:
-- below the divisor it is the dividend itself, and from the divisor on both are whole numbers of the divisor's own steps. Assumes nothing.
use Rattle.std.specs.Prelude.{◌≡◌, refl, Bool, true, false, not, ◌&&◌, ℕ, zero, suc, ◌+◌, ◌-◌, ◌*◌, ◌/◌, ◌%◌, ◌^◌, ◌≤◌, ◌<◌, pos, T, ltb, Float}
use Rattle.std.proofs.Common.{sym, ap, ◌∙◌, subst, zero-le, le_refl, le_trans, le_of_eq, le_of_lt, lt_of_lt_of_le, lt_of_le_of_lt, not-le_of_lt}
use Rattle.std.proofs.Common.{lt_of_not-le, le_of_suc-le-suc, mod-lt, mod-eq_of_lt, div-add-mod', add-mul, add-zero, zero-mul, mul_assoc, mul_right_comm}
use Rattle.std.proofs.Common.{mul-pos, mul-le-mul, mul-le-mul_right, mul-lt-mul_of_pos_right, add-sub_of_le, sub-add_cancel, arith, lit<, lit≤, pow-add}
use Rattle.std.proofs.Common.{pow_pos, pow_mono, ltb-true, ltb-false, le-ltb, lt-ltb}
use Rattle.std.proofs.lemmas.Bool.{false≢true}
use Rattle.std.proofs.Math.Nat.{add-mod_left, mul-add-mod_self_right, pow-succ', suc-sub-suc}
use Rattle.std.specs.Float.{nan, inf, fin, Format, binary32}
use Rattle.std.specs.Float.Ieee.{prec, low, unlike, below, neg, sub, mul, rem, round, lt, fits, is_nan, of_int, of_bits, to_bits}
use Rattle.std.specs.Float.Ieee.Fits.{neg-fits, rem-fits, mul-fits}
use Rattle.std.specs.Float.Ieee.Bits.{of_bits-to_bits, to_bits-of_bits}
use Rattle.std.specs.Float.Ieee.Scale.{round_same, overflow, finite}
use Rattle.floats.specs.Ops.{lit, nought}
use Rattle.floats.specs.FiniteLaws.{zero32, finite_number}
use Rattle.floats.specs.UnitLaws.{Val, count_val, lt_val, neg_val, mod_scale, neg_neg, pos_plus, plus_pos}
use Rattle.floats.specs.RoundingLaws.{R, Rep, Counted, counted, rep_of, R-exact, val_unique, finite_of_val}
use Rattle.floats.specs.NonNegLaws.{rounded}
use Rattle.floats.specs.RemLaws.{rem_exact, pi_val, tau_val, pi_rep, tau_rep}
use Rattle.floats.specs.PatternLaws.{same_clear, read_low, read_high, pattern_neg}
use Rattle.floats.specs.PositiveLaws.{pattern_below}
use Rattle.floats.specs.ProductLaws.{mul_val}

-- ---- whole numbers
-- multiples that are dropped before a product are dropped after it
mod_times : (a b M : ℕ) → a % M * b % M ≡ a * b % M
mod_times a b M =
    sym
    (ap (λ (z : ℕ). z % M) (ap (λ (z : ℕ). z * b) (sym (div-add-mod' a M)) ∙ add-mul (a / M * M) (a % M) b ∙
    ap (λ (z : ℕ). z + a % M * b) (mul_right_comm (a / M) M b))
    ∙ mul-add-mod_self_right (a / M * b) M (a % M * b))

-- a part i of j digits at a time
pub mod_part : (n i j M : ℕ) → i ≤ j → n * 2 ^ i % M * 2 ^ (j - i) % M ≡ n * 2 ^ j % M
mod_part n i j M h =
    mod_times (n * 2 ^ i) (2 ^ (j - i)) M
    ∙ ap (λ (z : ℕ). z % M) (mul_assoc n (2 ^ i) (2 ^ (j - i)) ∙ ap (λ (z : ℕ). n * z) (sym (pow-add 2 i (j - i)) ∙ ap (λ (z : ℕ). 2 ^ z) (add-sub_of_le h)))

-- ---- one sign and number of units, one value
pub same_val : (f : Format) (x y : Float) (s : Bool) (n : ℕ) → T (fits f x) → T (fits f y) → Val f x s n → Val f y s n → x ≡ y
same_val f x y false n p q v w = same_clear f x y n p q v w
same_val f x y true n p q v w =
    sym (neg_neg x) ∙ ap neg (same_clear f (neg x) (neg y) n (neg-fits f x p) (neg-fits f y q) (neg_val f x true n v) (neg_val f y true n w)) ∙ neg_neg y

-- ---- what is not finite has no remainder: x - x, as a program finds it
pub rem_wild : (f : Format) (x d : Float) → finite x ≡ false → sub f x x ≡ rem f x d
unfolding sub rem neg
rem_wild f nan d t = refl
rem_wild f (inf true) d t = refl
rem_wild f (inf false) d t = refl
rem_wild f (fin s m e) d t = absurd (false≢true (sym t))

-- ---- x lies between -d and d, both left out
abbrev pub within : Float → Float → Bool
within d x = lt (neg d) x && lt x d

and_true : (b : Bool) → (b && true) ≡ b
and_true true = refl
and_true false = refl

-- as two tests find it
pub within_if : {b : Bool} (x d : Float) → lt (neg d) x ≡ true → lt x d ≡ b → within d x ≡ b
within_if x d e h = ap (λ (z : Bool). z && lt x d) e ∙ h

pub too_low_lem : (x d : Float) → lt (neg d) x ≡ false → within d x ≡ false
too_low_lem x d e = ap (λ (z : Bool). z && lt x d) e

within_finite : (f : Format) (x d : Float) (D : ℕ) → Val f d false D → within d x ≡ true → T (finite x)
unfolding lt neg
within_finite f x nan D w t = absurd w
within_finite f x (inf s) D w t = absurd w
within_finite f nan (fin s m e) D w t = absurd (false≢true t)
within_finite f (inf true) (fin s m e) D w t = absurd (false≢true t)
within_finite f (inf false) (fin s m e) D w t = absurd (false≢true t)
within_finite f (fin s' m' e') (fin s m e) D w t = tt

-- a dividend of a units, and a divisor of D units, above zero
module _ (f : Format) (x d : Float) (s : Bool) (a D : ℕ) (P : 0 < D) (p : T (fits f x)) (v : Val f x s a) (w : Val f d false D) (r : Rep f D) where
  -- what has the remainder's sign and units is the remainder
  pub rem_is : (y : Float) → T (fits f y) → Val f y s (a % D) → y ≡ rem f x d
  rem_is y q u = same_val f y (rem f x d) s (a % D) q (rem-fits f x d p) u (rem_exact f x d a D P w r s v (rep_of f x s a p v))

  within_is : within d x ≡ ltb a D
  within_is =
      ap (λ (z : Bool). z && lt x d) (lt_val f (neg d) x true D s a (neg_val f d false D w) v)
      ∙ ap (λ (z : Bool). below true D s a && z) (lt_val f x d s a false D v w) ∙ go s
    where
      go : (s : Bool) → (below true D s a && below s a false D) ≡ ltb a D
      go false = ap (λ (z : Bool). z && ltb a D) (lt-ltb 0 (D + a) (pos_plus D a P))
      go true = ap (λ (z : Bool). ltb a D && z) (lt-ltb 0 (a + D) (plus_pos a D P)) ∙ and_true (ltb a D)

  near : within d x ≡ true → x ≡ rem f x d
  near t = rem_is x p (subst (λ (z : ℕ). Val f x s z) (sym (mod-eq_of_lt (ltb-true a D (sym within_is ∙ t)))) v)

  pub far : within d x ≡ false → D ≤ a
  far t = ltb-false a D (sym within_is ∙ t)

-- within the divisor the remainder is the dividend
pub rem_within : (f : Format) (x d : Float) (D : ℕ) → 0 < D → T (fits f x) → Val f d false D → Rep f D → within d x ≡ true → x ≡ rem f x d
rem_within f x d D P p w r t =
    let c = counted f x p (within_finite f x d D w t) in
    near f x d c.sign c.count D P p c.val w r t

-- the sign of what is not zero, as a program finds it
pub sign_is : (f : Format) (x : Float) (s : Bool) (a : ℕ) → 0 < a → Val f x s a → lt x (fin false 0 (pos 0)) ≡ s
sign_is f x s a h v = lt_val f x (fin false 0 (pos 0)) s a false 0 v (refl, zero-mul (2 ^ low f)) ∙ go s
  where
    go : (s : Bool) → below s a false 0 ≡ s
    go false = le-ltb a 0 zero-le
    go true = lt-ltb 0 (a + 0) (lt_of_lt_of_le h (le_of_eq (sym (add-zero a))))

-- ---- a whole number times a value, where the format holds the product
unlike_clear : (s : Bool) → unlike false s ≡ s
unlike_clear true = refl
unlike_clear false = refl

pub times_val : (f : Format) (y : Float) (s : Bool) (n u : ℕ) → n ≤ 2 ^ prec f → Val f y s u → Rep f (n * u) → Val f (mul f (of_int f (pos n)) y) s (n * u)
times_val f y s n u h w r =
    let l = 2 ^ low f in
    let x = of_int f (pos n) in
    let e : R f (n * u) ≡ n * u = R-exact f (n * u) r in
    subst (λ (z : ℕ). Val f (mul f x y) s z) e
    (rounded f (mul f x y) s (n * u) (subst (λ (z : ℕ). z < overflow f) (sym e) r.4)
    (mul_val f x y false (n * l) s u (count_val f n h) w
    ∙ ap (λ (z : Bool). round f z (n * l * u) (l * l)) (unlike_clear s)
    ∙ round_same f s (n * l * u) (l * l) (n * u) l (mul-pos (pow_pos (low f)) (pow_pos (low f))) (pow_pos (low f)) (turned n l u)))
  where
    turned : (n l u : ℕ) → n * l * u * l ≡ n * u * (l * l)
    turned n l u = ap (λ (z : ℕ). z * l) (mul_right_comm n l u) ∙ mul_assoc (n * u) l l

-- ---- the pattern without its sign's bit is that of the size
pub magnitude : (x : Float) (s : Bool) (n : ℕ) → T (fits binary32 x) → Val binary32 x s n → (to_bits binary32 x % 0x80000000 < 0x7f800000) ×
    Val binary32 (of_bits binary32 (to_bits binary32 x % 0x80000000)) false n
magnitude x s n p v = go s v
  where
    under : n < overflow binary32
    under = (rep_of binary32 x s n p v).4

    clear : (y : Float) → T (fits binary32 y) → Val binary32 y false n → (c : ℕ) → c ≡ to_bits binary32 y → (c < 0x7f800000) ×
        Val binary32 (of_bits binary32 c) false n
    clear y q w c e = (
      subst (λ (z : ℕ). z < 0x7f800000) (sym e) (pattern_below y n w under),
      subst (λ (z : Float). Val binary32 z false n) (sym (ap (of_bits binary32) e ∙ of_bits-to_bits binary32 y q)) w,
    )

    less : (b : ℕ) → b < 0x7f800000 → b < 0x80000000
    less b h = omega arith

    more : (b : ℕ) → b < 0x7f800000 → 0x80000000 + b < 2 * 0x80000000
    more b h = omega arith

    go : (s : Bool) → Val binary32 x s n → (to_bits binary32 x % 0x80000000 < 0x7f800000) ×
        Val binary32 (of_bits binary32 (to_bits binary32 x % 0x80000000)) false n
    go false v = clear x p v (to_bits binary32 x % 0x80000000) (mod-eq_of_lt (less (to_bits binary32 x) (pattern_below x n v under)))
    go true v =
        let y = neg x in
        let q = neg-fits binary32 x p in
        let w = neg_val binary32 x true n v in
        let b = to_bits binary32 y in
        let l : b < 0x7f800000 = pattern_below y n w under in
        let e : of_bits binary32 (0x80000000 + b) ≡ x = pattern_neg binary32 b (less b l) ∙ ap neg (of_bits-to_bits binary32 y q) ∙ neg_neg x in
        let o : to_bits binary32 x ≡ 0x80000000 + b =
        ap (to_bits binary32) (sym e) ∙
        to_bits-of_bits binary32 (0x80000000 + b) (more b l)
        (subst (λ (z : Float). T (not (is_nan z))) (sym e) (finite_number x (finite_of_val binary32 x true n v))) in
        clear y q w (to_bits binary32 x % 0x80000000) (ap (λ (z : ℕ). z % 0x80000000) o ∙ add-mod_left 0x80000000 b ∙ mod-eq_of_lt (less b l))

-- ---- PI for 0 and TAU for 1: 13176795 steps of 2 ^ (127 + q) units
abbrev pub modulus : ℕ → Float
modulus q = lit (0x4049_0fdb + q * 0x80_0000)

abbrev pub M : ℕ
M = 13176795

no_more : (q : ℕ) → suc (suc q) ≤ 1 → ⊥
no_more q h = omega arith

pub turn_val : (q : ℕ) → q ≤ 1 → Val binary32 (modulus q) false (M * 2 ^ (127 + q))
turn_val zero h = pi_val
turn_val (suc zero) h = tau_val
turn_val (suc (suc q)) h = absurd (no_more q h)

-- every whole number of steps below the divisor is held, and the divisor too
pub steps_rep : (n q : ℕ) → n ≤ M → q ≤ 1 → Rep binary32 (n * 2 ^ (127 + q))
steps_rep n q h k = (n, 127 + q, lt_of_le_of_lt h (lit< tt), refl, lt_of_le_of_lt (mul-le-mul_right (2 ^ (127 + q)) h) (go q k))
  where
    go : (q : ℕ) → q ≤ 1 → M * 2 ^ (127 + q) < overflow binary32
    go zero k = pi_rep.4
    go (suc zero) k = tau_rep.4
    go (suc (suc q)) k = absurd (no_more q k)

-- ---- a value of at least M * 2 ^ Q units is a whole number of 2 ^ Q units, read from its pattern c
abbrev pub digits : ℕ → ℕ
digits c = 8388608 + c % 8388608

abbrev pub field : ℕ → ℕ
field c = c / 8388608

module _ (c n Q : ℕ) (lo : c < 0x7f800000) (v : Val binary32 (of_bits binary32 c) false n) (h : M * 2 ^ Q ≤ n) where
  under_top : c < 0x80000000
  under_top = omega arith

  -- below M * 2 ^ Q: no leading digit, or a leading digit too low
  no_field : field c ≡ 0 → ⊥
  no_field e =
      not-le_of_lt (lt_of_lt_of_le (bound c) (mul-le-mul (le_refl M) (pow_pos Q)))
      (subst (λ (z : ℕ). M * 2 ^ Q ≤ z) (val_unique binary32 (of_bits binary32 c) false n false (c % 8388608) v (read_low binary32 c under_top e)) h)
    where
      bound : (c : ℕ) → c % 8388608 < M * 1
      bound c = omega arith

  low_field : (x : ℕ) → n ≡ digits c * 2 ^ x → x < Q → ⊥
  low_field x e l =
      not-le_of_lt
      (lt_of_lt_of_le (mul-lt-mul_of_pos_right (bound c) (pow_pos x))
      (le_trans (le_of_eq (mul_assoc 8388608 2 (2 ^ x) ∙ ap (λ (z : ℕ). 8388608 * z) (sym (pow-succ' 2 x)))) (mul-le-mul (lit≤ tt) (pow_mono l))))
      (subst (λ (z : ℕ). M * 2 ^ Q ≤ z) e h)
    where
      bound : (c : ℕ) → digits c < 8388608 * 2
      bound c = omega arith

  pub from_pattern : (Q < field c) × (n ≡ digits c * 2 ^ (field c - suc Q) * 2 ^ Q)
  from_pattern = go (field c) refl
    where
      most : (x c : ℕ) → c < 0x7f800000 → c / 8388608 ≡ suc x → suc x < 255
      most x c l e = omega arith

      go : (y : ℕ) → field c ≡ y → (Q < field c) × (n ≡ digits c * 2 ^ (field c - suc Q) * 2 ^ Q)
      go zero e = absurd (no_field e)
      go (suc x) e =
          let u : n ≡ digits c * 2 ^ x = val_unique binary32 (of_bits binary32 c) false n false (digits c * 2 ^ x) v
          (read_high binary32 c x under_top e (most x c lo e)) in
          let g : Q ≤ x = le_of_suc-le-suc (lt_of_not-le (low_field x u)) in (
            subst (λ (z : ℕ). Q < z) (sym e) (raised x Q g),
            u ∙ ap (λ (z : ℕ). digits c * z) (ap (λ (z : ℕ). 2 ^ z) (sym (sub-add_cancel g)) ∙ pow-add 2 (x - Q) Q)
                ∙ sym (mul_assoc (digits c) (2 ^ (x - Q)) (2 ^ Q))
                ∙ ap (λ (z : ℕ). digits c * 2 ^ z * 2 ^ Q) (sym (ap (λ (z : ℕ). z - suc Q) e ∙ suc-sub-suc x Q)),
          )
        where
          raised : (x Q : ℕ) → Q ≤ x → Q < suc x
          raised x Q g = omega arith

  -- so the remainder is a whole number of 2 ^ Q units too
  pub steps_left : n % (M * 2 ^ Q) ≡ digits c * 2 ^ (field c - suc Q) % M * 2 ^ Q
  steps_left = ap (λ (z : ℕ). z % (M * 2 ^ Q)) from_pattern.1 ∙ mod_scale (digits c * 2 ^ (field c - suc Q)) M (2 ^ Q) (lit< tt) (pow_pos Q)

-- ---- how a program finds the remainder of a finite value that is not within the divisor, from its pattern without the sign's bit
abbrev pub pattern : Float → ℕ
pattern x = to_bits binary32 x % 0x80000000

module _ (x : Float) (q : ℕ) (k : q ≤ 1) (p : T (fits binary32 x)) (t : T (finite x)) (o : within (modulus q) x ≡ false) where
  n : Counted binary32 x
  n = counted binary32 x p t

  divisor : 0 < M * 2 ^ (127 + q)
  divisor = mul-pos (lit< tt) (pow_pos (127 + q))

  size : M * 2 ^ (127 + q) ≤ n.count
  size = far binary32 x (modulus q) n.sign n.count (M * 2 ^ (127 + q)) divisor p n.val (turn_val q k) (steps_rep M q (le_refl M) k) o

  read : (pattern x < 0x7f800000) × Val binary32 (of_bits binary32 (pattern x)) false n.count
  read = magnitude x n.sign n.count p n.val

  pub far_field : 127 + q < field (pattern x)
  far_field = (from_pattern (pattern x) n.count (127 + q) read.0 read.1 size).0

  -- the whole number of steps that is left, times a step with the sign of x
  pub far_rem : (y : Float) (r : ℕ) → Val binary32 y (lt x nought) (2 ^ (127 + q)) → r ≡ digits (pattern x) * 2 ^ (field (pattern x) - 128 - q) % M →
      mul binary32 (of_int binary32 (pos r)) y ≡ rem binary32 x (modulus q)
  far_rem y r w e =
      rem_is binary32 x (modulus q) n.sign n.count (M * 2 ^ (127 + q)) divisor p n.val (turn_val q k) (steps_rep M q (le_refl M) k)
      (mul binary32 (of_int binary32 (pos r)) y) (mul-fits binary32 (of_int binary32 (pos r)) y)
      (subst (λ (z : ℕ). Val binary32 (mul binary32 (of_int binary32 (pos r)) y) n.sign z) (sym left)
      (times_val binary32 y n.sign r (2 ^ (127 + q)) (le_trans (le_of_lt few) (lit≤ tt))
      (subst (λ (s : Bool). Val binary32 y s (2 ^ (127 + q))) sign w) (steps_rep r q (le_of_lt few) k)))
    where
      sign : lt x nought ≡ n.sign
      sign = ap (lt x) zero32 ∙ sign_is binary32 x n.sign n.count (lt_of_lt_of_le divisor size) n.val

      few : r < M
      few = subst (λ (z : ℕ). z < M) (sym e) (mod-lt (digits (pattern x) * 2 ^ (field (pattern x) - 128 - q)) (lit< tt))

      less : (a q : ℕ) → a - suc (127 + q) ≡ a - 128 - q
      less a q = omega arith

      left : n.count % (M * 2 ^ (127 + q)) ≡ r * 2 ^ (127 + q)
      left =
          steps_left (pattern x) n.count (127 + q) read.0 read.1 size
          ∙ ap (λ (z : ℕ). z * 2 ^ (127 + q)) (ap (λ (z : ℕ). digits (pattern x) * 2 ^ z % M) (less (field (pattern x)) q) ∙ sym e)
