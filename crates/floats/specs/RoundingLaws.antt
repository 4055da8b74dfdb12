-- `R f n`: n units rounded to a number of units that the format holds. It keeps the order, and it changes nothing at a number that the format holds
-- (`Rep f n`).
-- What fits the format has such a number of units. Remainders, and what lies just below a held number, are worked out on whole numbers. Assumes nothing.
use Rattle.std.specs.Prelude.{◌≡◌, ℕ, zero, suc, ◌+◌, ◌-◌, ◌*◌, ◌%◌, ◌^◌, ◌<◌, ◌≤◌, Bool, true, false, cond, not, ◌&&◌, ◌||◌, T, ltb, leb, ℤ, pos, negsuc}
use Rattle.std.specs.Prelude.{◌==◌, nat_eq, nat_le, nat_lt}
use Rattle.std.proofs.Math.Path.{refl}
use Rattle.std.proofs.Common.{sym, ap, ◌∙◌, subst, arith, true≢false, leb→le, ltb→lt, eqb→eq, pow-add, pow_pos, pow_mono, shl_lt}
use native.Mathlib.Nat.{le_refl, le_trans, le_of_eq, le_of_lt, lt_of_lt_of_le, lt_of_le_of_lt, not-le_of_lt, lt_of_not-le, add_comm}
use native.Mathlib.Nat.{zero-mul, mul-one, one-mul, mul_assoc, mul_right_comm, mul-pos, mul-le-mul_right, mul-lt-mul_of_pos_right, lt_of_mul-lt-mul_right}
use native.Mathlib.Nat.{eq_of_mul-eq-mul_right, mod-lt, mod-le, sub-add_cancel}
use Rattle.std.proofs.Math.Dec.{nleb→lt}
use Rattle.std.proofs.Math.Pow.{pow-lt}
use lib.Ieee.{Float, nan, inf, fin, Format, binary32, binary64, prec, emax, low, up, down, units, odd, round, le, below, level, fits}
use Rattle.std.specs.Float.Ieee.Fits.{down_pos, and_l, and_r, round-fits, round_is}
use Rattle.std.specs.Float.Ieee.Exact.{round_exact, units_val}
use Rattle.std.specs.Float.Ieee.Scale.{round_under, grid, overflow, finite}
use Rattle.std.specs.Float.Ieee.Order.{round_mono, drop, kept}
use Rattle.std.specs.Float.Ieee.Positive.{first_pos}
use Rattle.floats.specs.UnitLaws.{Val, le_val, mod_scale}

-- n units rounded, in units. From `overflow f` units on the rounded value is an infinity.
unfoldable pub R : Format → ℕ → ℕ
R f n = grid f n (2 ^ low f)

-- n units are a value that the format holds: q * 2 ^ j with q of few enough digits, and below the infinity
abbrev pub Rep : Format → ℕ → Type 0
Rep f n = (q : ℕ) × (j : ℕ) × (q < 2 ^ prec f) × (n ≡ q * 2 ^ j) × (n < overflow f)

-- ---- one value, one number of units
pub val_unique : (f : Format) (x : Float) (s : Bool) (a : ℕ) (t : Bool) (b : ℕ) → Val f x s a → Val f x t b → a ≡ b
val_unique f nan s a t b v w = absurd v
val_unique f (inf u) s a t b v w = absurd v
val_unique f (fin u m e) s a t b v w = eq_of_mul-eq-mul_right (down e) (down_pos e) a b (sym v.1 ∙ w.1)

pub finite_of_val : (f : Format) (x : Float) (s : Bool) (a : ℕ) → Val f x s a → T (finite x)
finite_of_val f nan s a v = absurd v
finite_of_val f (inf u) s a v = absurd v
finite_of_val f (fin u m e) s a v = tt

-- ---- what `round` gives
pub round-R : (f : Format) (s : Bool) (n : ℕ) → R f n < overflow f → Val f (round f s n (2 ^ low f)) s (R f n)
unfolding R
round-R f s n h =
    subst (λ (z : Float). Val f z s (grid f n (2 ^ low f))) (sym (round_is f s n (2 ^ low f)))
    (units_val f s (kept (prec f) (n * 2 ^ low f) (2 ^ low f)) (drop (prec f) (n * 2 ^ low f) (2 ^ low f)) h)

under : (f : Format) (n : ℕ) → T (finite (round f false n (2 ^ low f))) → R f n < overflow f
unfolding R
under f n t = round_under f n (2 ^ low f) t

pub R-exact : (f : Format) (n : ℕ) → Rep f n → R f n ≡ n
R-exact f n r =
    let q = r.0 in
    let j = r.1 in
    let v : Val f (round f false n (2 ^ low f)) false n =
    round_exact f false n (2 ^ low f) q j (pow_pos (low f)) r.2 (subst (λ (z : ℕ). z < overflow f) r.3 r.4) (ap (λ (z : ℕ). z * 2 ^ low f) r.3) in
    val_unique f (round f false n (2 ^ low f)) false (R f n) false n
    (round-R f false n (under f n (finite_of_val f (round f false n (2 ^ low f)) false n v))) v

-- ---- order
-- `round f false` is never a negative infinity or a NaN: it is finite, or the positive infinity
abbrev Upper : Float → Type 0
Upper nan = ⊥
Upper (inf s) = s ≡ false
Upper (fin s m e) = s ≡ false

finite_under : (x y : Float) → Upper x → T (finite y) → T (le x y) → T (finite x)
unfolding le
finite_under nan y u t h = u
finite_under (inf true) y u t h = absurd (true≢false u)
finite_under (inf false) nan u t h = absurd t
finite_under (inf false) (inf s) u t h = absurd t
finite_under (inf false) (fin s m e) u t h = absurd h
finite_under (fin s m e) y u t h = tt

upper_pick : (b : Bool) (x : Float) → Upper x → Upper (cond b x (inf false))
upper_pick true x u = u
upper_pick false x u = refl

odd_upper : (d q k l : ℕ) → Upper (odd d false q k l)
unfolding odd
odd_upper d zero k l = refl
odd_upper d (suc q) k l = refl

units_upper : (f : Format) (q k : ℕ) → Upper (units f false q k)
unfolding units
units_upper f q k =
    upper_pick (nat_lt (q * 2 ^ k) (2 ^ (low f + suc (emax f)))) (odd (suc (prec f)) false q k (low f)) (odd_upper (suc (prec f)) q k (low f))

upper_round : (f : Format) (n : ℕ) → Upper (round f false n (2 ^ low f))
upper_round f n =
    subst Upper (sym (round_is f false n (2 ^ low f)))
    (units_upper f (kept (prec f) (n * 2 ^ low f) (2 ^ low f)) (drop (prec f) (n * 2 ^ low f) (2 ^ low f)))

le_units : (a b : ℕ) → T (below false a false b || level false a false b) → a ≤ b
le_units a b t = go (nat_lt a b) (ltb→lt a b) t
  where
    go : (c : Bool) → (T c → a < b) → T (c || (a == b && true)) → a ≤ b
    go true h t = le_of_lt (h tt)
    go false h t = le_of_eq (eqb→eq a b (and_l (a == b) true t))

pub R-mono : (f : Format) (a b : ℕ) → a ≤ b → R f b < overflow f → (R f a < overflow f) × (R f a ≤ R f b)
R-mono f a b h k =
    let l = 2 ^ low f in
    let x = round f false a l in
    let y = round f false b l in
    let w : Val f y false (R f b) = round-R f false b k in
    let m : T (le x y) = round_mono f a l b l (pow_pos (low f)) (pow_pos (low f)) (mul-le-mul_right l h) in
    let fa : R f a < overflow f = under f a (finite_under x y (upper_round f a) (finite_of_val f y false (R f b) w) m) in
    let v : Val f x false (R f a) = round-R f false a fa in
    (fa, le_units (R f a) (R f b) (subst T (le_val f x y false (R f a) false (R f b) v w) m))

-- rounding stays below a number that the format holds, and above one
pub R-upper : (f : Format) (a b : ℕ) → Rep f b → a ≤ b → (R f a < overflow f) × (R f a ≤ b)
R-upper f a b r h =
    let e = R-exact f b r in
    let m = R-mono f a b h (subst (λ (z : ℕ). z < overflow f) (sym e) r.4) in
    (m.0, le_trans m.1 (le_of_eq e))

pub R-lower : (f : Format) (a b : ℕ) → Rep f a → a ≤ b → R f b < overflow f → a ≤ R f b
R-lower f a b r h k = le_trans (le_of_eq (sym (R-exact f a r))) (R-mono f a b h k).1

-- ---- what fits has a number of units, one that the format holds
-- the exponent, counted from the smallest value's
abbrev expo : ℕ → ℤ → ℕ
expo l (pos k) = k + l
expo l (negsuc k) = l - suc k

pow_le_back : (i j : ℕ) → 2 ^ i ≤ 2 ^ j → i ≤ j
pow_le_back i j h =
    native.Mathlib.Nat.le_of_suc-le-suc (lt_of_not-le (λ (g : suc j ≤ i). not-le_of_lt (lt_of_lt_of_le (pow-lt (le_refl (suc j))) (pow_mono g)) h))

expo_val : (l m : ℕ) (e : ℤ) → down e ≤ 2 ^ l → m * up e * 2 ^ l ≡ m * 2 ^ expo l e * down e
expo_val l m (pos k) h = mul_assoc m (2 ^ k) (2 ^ l) ∙ ap (λ (z : ℕ). m * z) (sym (pow-add 2 k l)) ∙ sym (mul-one (m * 2 ^ (k + l)))
expo_val l m (negsuc k) h =
    ap (λ (z : ℕ). z * 2 ^ l) (mul-one m)
    ∙ ap (λ (z : ℕ). m * z) (ap (λ (z : ℕ). 2 ^ z) (sym (sub-add_cancel (pow_le_back (suc k) l h))) ∙ pow-add 2 (l - suc k) (suc k))
    ∙ sym (mul_assoc m (2 ^ (l - suc k)) (2 ^ suc k))

zero_flat : (e : ℤ) → up e * down e ≡ 1 → down e ≤ 1
zero_flat (pos k) h = le_refl 1
zero_flat (negsuc k) h = le_of_eq (sym (one-mul (2 ^ suc k)) ∙ h)

-- the parts of `fits`
record Fit (f : Format) (m : ℕ) (e : ℤ) : Type 0 where
  few : m < 2 ^ prec f
  fine : down e ≤ 2 ^ low f
  fair : m * up e < 2 ^ suc (emax f) * down e

fit_of : (f : Format) (s : Bool) (m : ℕ) (e : ℤ) → T (fits f (fin s m e)) → Fit f m e
unfolding fits
fit_of f s zero e t =
    let d : down e ≤ 1 = zero_flat e (eqb→eq (up e * down e) 1 t) in
    record {
      few = pow_pos (prec f);
      fine = le_trans d (pow_pos (low f));
      fair = subst (λ (z : ℕ). z < 2 ^ suc (emax f) * down e) (sym (zero-mul (up e))) (mul-pos (pow_pos (suc (emax f))) (down_pos e));
    }
fit_of f s (suc m) e t =
    let a = nat_eq (suc m % 2) 1 in
    let b = ltb (suc m) (2 ^ prec f) in
    let c = leb (down e) (2 ^ low f) in
    let d = ltb (suc m * up e) (2 ^ suc (emax f) * down e) in
    record {
      few = ltb→lt (suc m) (2 ^ prec f) (and_r a b (and_l (a && b) c (and_l (a && b && c) d t)));
      fine = leb→le (down e) (2 ^ low f) (and_r (a && b) c (and_l (a && b && c) d t));
      fair = ltb→lt (suc m * up e) (2 ^ suc (emax f) * down e) (and_r (a && b && c) d t);
    }

fair_units : (l t n x e : ℕ) → 0 < e → x * 2 ^ l ≡ n * e → x < 2 ^ t * e → n < 2 ^ (l + t)
fair_units l t n x e E h k =
    lt_of_mul-lt-mul_right e
    (subst (λ (z : ℕ). z < 2 ^ (l + t) * e) h
    (lt_of_lt_of_le (mul-lt-mul_of_pos_right k (pow_pos l)) (le_of_eq (mul_right_comm (2 ^ t) e (2 ^ l) ∙
    ap (λ (z : ℕ). z * e) (sym (pow-add 2 t l) ∙ ap (λ (z : ℕ). 2 ^ z) (add_comm t l))))))

-- a finite value as its sign and its number of units
pub record Counted (f : Format) (x : Float) : Type 0 where
  pub sign : Bool
  pub count : ℕ
  pub val : Val f x sign count
  pub rep : Rep f count

pub counted : (f : Format) (x : Float) → T (fits f x) → T (finite x) → Counted f x
counted f nan p t = absurd t
counted f (inf s) p t = absurd t
counted f (fin s m e) p t =
    let k = fit_of f s m e p in
    let v : m * up e * 2 ^ low f ≡ m * 2 ^ expo (low f) e * down e = expo_val (low f) m e k.fine in
    record {
      sign = s;
      count = m * 2 ^ expo (low f) e;
      val = (refl, v);
      rep = (m, expo (low f) e, k.few, refl, fair_units (low f) (suc (emax f)) (m * 2 ^ expo (low f) e) (m * up e) (down e) (down_pos e) v k.fair);
    }

-- whatever fits and has n units: the format holds n
pub rep_of : (f : Format) (x : Float) (s : Bool) (n : ℕ) → T (fits f x) → Val f x s n → Rep f n
rep_of f x s n p v =
    let c = counted f x p (finite_of_val f x s n v) in
    subst (Rep f) (val_unique f x c.sign c.count s n c.val v) c.rep

pub R-rep : (f : Format) (n : ℕ) → R f n < overflow f → Rep f (R f n)
R-rep f n h = rep_of f (round f false n (2 ^ low f)) false (R f n) (round-fits f false n (2 ^ low f)) (round-R f false n h)

-- ---- the format holds: zero, one unit, and a remainder of two numbers that it holds
pub rep_zero : (f : Format) → Rep f 0
rep_zero f = (0, 0, pow_pos (prec f), refl, pow_pos (low f + suc (emax f)))

pub R-zero : (f : Format) → R f 0 ≡ 0
R-zero f = R-exact f 0 (rep_zero f)

pub rep_mod : (f : Format) (a b : ℕ) → 0 < b → Rep f a → Rep f b → Rep f (a % b)
rep_mod f a b B (q, j, qs, qe, qo) (p, k, ps, pe, po) = go (nat_le j k) (leb→le j k) (nleb→lt j k)
  where
    small : a % b < overflow f
    small = lt_of_le_of_lt (mod-le a b) qo

    P : 0 < p
    P = first_pos p (2 ^ k) (subst (λ (z : ℕ). 0 < z) pe B)

    shift : (i d : ℕ) → 2 ^ (i - d + d) ≡ 2 ^ (i - d) * 2 ^ d
    shift i d = pow-add 2 (i - d) d

    go : (c : Bool) → (T c → j ≤ k) → (T (not c) → k < j) → Rep f (a % b)
    go true h n =
        let e : b ≡ p * 2 ^ (k - j) * 2 ^ j = pe ∙ ap (λ (z : ℕ). p * 2 ^ z) (sym (sub-add_cancel (h tt))) ∙ ap (λ (z : ℕ). p * z) (shift k j) ∙
        sym (mul_assoc p (2 ^ (k - j)) (2 ^ j)) in
        let r : a % b ≡ q % (p * 2 ^ (k - j)) * 2 ^ j =
        ap (λ (z : ℕ). z % b) qe ∙ ap (λ (z : ℕ). q * 2 ^ j % z) e ∙ mod_scale q (p * 2 ^ (k - j)) (2 ^ j) (mul-pos P (pow_pos (k - j))) (pow_pos j) in
        (q % (p * 2 ^ (k - j)), j, lt_of_le_of_lt (mod-le q (p * 2 ^ (k - j))) qs, r, small)
    go false h n =
        let e : a ≡ q * 2 ^ (j - k) * 2 ^ k = qe ∙ ap (λ (z : ℕ). q * 2 ^ z) (sym (sub-add_cancel (le_of_lt (n tt)))) ∙
        ap (λ (z : ℕ). q * z) (shift j k) ∙ sym (mul_assoc q (2 ^ (j - k)) (2 ^ k)) in
        let r : a % b ≡ q * 2 ^ (j - k) % p * 2 ^ k =
        ap (λ (z : ℕ). z % b) e ∙ ap (λ (z : ℕ). q * 2 ^ (j - k) * 2 ^ k % z) pe ∙ mod_scale (q * 2 ^ (j - k)) p (2 ^ k) P (pow_pos k) in
        (q * 2 ^ (j - k) % p, k, lt_of_lt_of_le (mod-lt (q * 2 ^ (j - k)) P) (le_of_lt ps), r, small)

-- ---- from 2 ^ (prec - 1 + k) units on, the format holds only multiples of 2 ^ k units
pub rep_step : (f : Format) (k n : ℕ) → Rep f n → 2 ^ (prec f - 1 + k) ≤ n → (m : ℕ) × (n ≡ m * 2 ^ k)
rep_step f k n (q, j, qs, qe, qo) h =
    let j-ge : k ≤ j = reach f (lt_of_le_of_lt h (subst (λ (z : ℕ). z < 2 ^ (prec f + j)) (sym qe) (shl_lt (prec f) j qs))) in (
      q * 2 ^ (j - k),
      qe ∙ ap (λ (z : ℕ). q * 2 ^ z) (sym (sub-add_cancel j-ge)) ∙ ap (λ (z : ℕ). q * z) (pow-add 2 (j - k) k) ∙
          sym (mul_assoc q (2 ^ (j - k)) (2 ^ k)),
    )
  where
    pow_lt_back : (i d : ℕ) → 2 ^ i < 2 ^ d → i < d
    pow_lt_back i d g = lt_of_not-le (λ (u : d ≤ i). not-le_of_lt g (pow_mono u))

    reach : (f : Format) → 2 ^ (prec f - 1 + k) < 2 ^ (prec f + j) → k ≤ j
    reach binary32 g = let u : 23 + k < 24 + j = pow_lt_back (23 + k) (24 + j) g in omega arith
    reach binary64 g = let u : 52 + k < 53 + j = pow_lt_back (52 + k) (53 + j) g in omega arith
