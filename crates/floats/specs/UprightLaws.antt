-- What is not below zero stays so in a product, in a share by a count and where it is narrowed, since rounding keeps the sign and makes nothing of
-- nothing; and the greater of any value and 0 is not below zero. Assumes nothing.
use Rattle.std.specs.Prelude.{◌≡◌, ℕ, zero, suc, ◌+◌, ◌*◌, ◌^◌, ◌<◌, ◌≤◌, Bool, true, false, cond, T, pos, ◌≢◌, nat_lt, Float}
use Rattle.std.proofs.Math.Path.{refl}
use Rattle.std.proofs.Common.{sym, subst, ◌∙◌, le_trans, le_of_eq, lt_irrefl, zero-lt-suc, zero-mul, mul-zero, one-mul, mul-pos, mul-le-mul_left}
use Rattle.std.proofs.Common.{mul-le-mul_right, arith, lt→ltb, pow_pos}
use Rattle.std.proofs.lemmas.Bool.{false≢true}
use Rattle.std.proofs.Math.Nat.{eq_of_mul-eq-mul_right}
use Rattle.std.specs.Float.{nan, inf, fin, Format, binary32}
use Rattle.std.specs.Float.Ieee.{prec, low, up, down, unlike, round, mul, div, lt, eq, is_nan, fits, of_int}
use Rattle.std.specs.Float.Ieee.Bits.{is_true}
use Rattle.std.specs.Float.Ieee.Fits.{up_pos, down_pos}
use Rattle.std.specs.Float.Ieee.Scale.{finite}
use Rattle.floats.specs.Ops.{nought}
use Rattle.floats.specs.Library.{before, max, narrow}
use Rattle.floats.specs.FiniteLaws.{zero32}
use Rattle.floats.specs.UnitLaws.{Val, zero_val, count_val}
use Rattle.floats.specs.RoundingLaws.{rep_zero, counted}
use Rattle.floats.specs.ProductLaws.{div_val}
use Rattle.floats.specs.SquareSumLaws.{Upright, clear_upright, round_clear}
use Rattle.floats.specs.WithinLaws.{Within, within_finite, round_within}

-- ---- a fraction, rounded
none_upright : (f : Format) (x : Float) → Within f 0 x → Upright x
none_upright f nan w = absurd w.val
none_upright f (inf s) w = absurd w.val
none_upright f (fin s zero e) w = λ t. refl
none_upright f (fin s (suc m) e) w =
    absurd (never w.count w.most (suc m * up e * 2 ^ low f) (mul-pos (mul-pos (zero-lt-suc m) (up_pos e)) (pow_pos (low f))) w.val.1)
  where
    never : (c : ℕ) → c ≤ 0 → (n : ℕ) → 0 < n → n ≢ c * down e
    never zero h n p q = lt_irrefl 0 (subst (λ (z : ℕ). 0 < z) (q ∙ zero-mul (down e)) p)
    never (suc _) h n p q = elim h [ ]

round_upright : (f : Format) (s : Bool) (a c : ℕ) → 0 < c → (T s → a ≡ 0) → Upright (round f s a c)
round_upright f false a c p h = clear_upright (round f false a c) (round_clear f a c)
round_upright f true a c p h =
    none_upright f (round f true a c)
    (round_within f true a c 0 p (rep_zero f) (le_of_eq (rw (h tt) (zero-mul (2 ^ low f) ∙ sym (zero-mul c)))))

-- ---- products
pub mul_upright : (f : Format) (x y : Float) → T (finite x) → T (finite y) → Upright x → Upright y → Upright (mul f x y)
unfolding mul
mul_upright f nan y p q h k = absurd p
mul_upright f (inf s) y p q h k = absurd p
mul_upright f (fin s m e) nan p q h k = absurd q
mul_upright f (fin s m e) (inf t) p q h k = absurd q
mul_upright f (fin s m e) (fin t n d) p q h k =
    round_upright f (unlike s t) (m * up e * (n * up d)) (down e * down d) (mul-pos (down_pos e) (down_pos d)) (none s t h k)
  where
    none : (s t : Bool) → (T s → m ≡ 0) → (T t → n ≡ 0) → T (unlike s t) → m * up e * (n * up d) ≡ 0
    none true t h k u = rw (h tt, zero-mul (up e)) (zero-mul (n * up d))
    none false true h k u = rw (k tt, zero-mul (up d)) (mul-zero (m * up e))
    none false false h k u = absurd u

-- ---- shares: of a finite value that the format holds and a count that it holds, the quotient is finite too, since it is no larger
upright_none : (f : Format) (x : Float) (s : Bool) (a : ℕ) → Upright x → Val f x s a → T s → a ≡ 0
upright_none f nan s a h v t = absurd h
upright_none f (inf u) s a h v t = absurd v
upright_none f (fin u m e) s a h v t =
    eq_of_mul-eq-mul_right (down e) (down_pos e) a 0
    (sym v.1 ∙ subst (λ (k : ℕ). k * up e * 2 ^ low f ≡ 0 * down e) (sym (h (subst T (sym v.0) t))) (zero_val f u e).1)

pub record FiniteUpright (x : Float) : Type 0 where
  pub size : T (finite x)
  pub sign : Upright x

pub share_upright : (f : Format) (x : Float) (n : ℕ) → T (fits f x) → T (finite x) → Upright x → 0 < n → n ≤ 2 ^ prec f →
    FiniteUpright (div f x (of_int f (pos n)))
share_upright f x n p q h N few =
    let c = counted f x p q in
    let l = 2 ^ low f in
    let some : 0 < n * l = mul-pos N (pow_pos (low f)) in
    let s = unlike c.sign false in
    let is = div_val f x (of_int f (pos n)) c.sign c.count false (n * l) some c.val (count_val f n few) in
    let one : l ≤ n * l = le_trans (le_of_eq (sym (one-mul l))) (mul-le-mul_right l N) in
    let less = round_within f s c.count (n * l) c.count some c.rep (mul-le-mul_left c.count one) in
    record {
      size = subst (λ (z : Float). T (finite z)) (sym is) (within_finite less);
      sign = subst Upright (sym is)
          (round_upright f s c.count (n * l) some (λ t. upright_none f x c.sign c.count h c.val (signed c.sign t)));
    }
  where
    signed : (s : Bool) → T (unlike s false) → T s
    signed true t = tt
    signed false t = t

-- ---- narrowed
pub narrow_upright : (x : Float) → Upright x → Upright (narrow x)
unfolding narrow
narrow_upright nan h = absurd h
narrow_upright (inf s) h = h
narrow_upright (fin s m e) h = round_upright binary32 s (m * up e) (down e) (down_pos e) (λ t. rw (h t) (zero-mul (up e)))

-- ---- the greater of a value and 0
abbrev zero0 : Float
zero0 = fin false 0 (pos 0)

-- `max`, written out at 0
raised : (x : Float) → Upright (cond (is_nan x) zero0 (cond (is_nan zero0) x (cond (before x zero0) zero0 x)))
unfolding is_nan
raised nan = λ t. absurd t
raised (inf true) = unfold before lt in λ t. absurd t
raised (inf false) = unfold before lt eq in refl
raised (fin false m e) = go (before (fin false m e) zero0)
  where
    go : (b : Bool) → Upright (cond b zero0 (fin false m e))
    go true = λ t. absurd t
    go false = λ t. absurd t
raised (fin true zero e) = go (before (fin true zero e) zero0)
  where
    go : (b : Bool) → Upright (cond b zero0 (fin true zero e))
    go true = λ t. absurd t
    go false = λ t. refl
raised (fin true (suc m) e) = go (before (fin true (suc m) e) zero0) below
  where
    -- more than nothing below zero
    less : lt (fin true (suc m) e) zero0 ≡ true
    less =
        let a = suc m * up e * 1 in
        let b = 0 * 1 * down e in
        let some : 0 < a = mul-pos (mul-pos (zero-lt-suc m) (up_pos e)) (zero-lt-suc 0) in
        unfold lt in is_true (nat_lt 0 (a + b)) (lt→ltb 0 (a + b) (omega (arith, some)))

    below : before (fin true (suc m) e) zero0 ≡ true
    below = unfold before in rw less

    go : (b : Bool) → b ≡ true → Upright (cond b zero0 (fin true (suc m) e))
    go true q = λ t. absurd t
    go false q = absurd (false≢true q)

pub max_upright : (x : Float) → Upright (max x nought)
unfolding max
max_upright x = subst (λ (z : Float). Upright (cond (is_nan x) z (cond (is_nan z) x (cond (before x z) z x)))) (sym zero32) (raised x)

pub max_finite : (x : Float) → T (finite x) → T (finite (max x nought))
unfolding max
max_finite x p = subst (λ (z : Float). T (finite (cond (is_nan x) z (cond (is_nan z) x (cond (before x z) z x))))) (sym zero32)
    (go (is_nan x) (is_nan zero0) (before x zero0))
  where
    go : (a b c : Bool) → T (finite (cond a zero0 (cond b x (cond c zero0 x))))
    go true b c = tt
    go false true c = p
    go false false true = tt
    go false false false = p
