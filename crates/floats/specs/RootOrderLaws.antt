-- The square root keeps the order, for every value of either format: of two values the root of the greater is not below the other's. NaN, both zeros,
-- what is below zero and the infinities are no exception. Two roots drop as many digits, and then the kept digits are in order; or the lesser drops
-- fewer, and then a power of two lies between the two. Assumes nothing.
use Rattle.std.specs.Prelude.{◌≡◌, ℕ, zero, suc, ◌+◌, ◌-◌, ◌*◌, ◌/◌, ◌^◌, ◌<◌, ◌≤◌, Bool, true, false, cond, not, ◌&&◌, ◌||◌, T, ◌⊎◌, ℤ, ◌==◌, ◌≢◌, nat_le}
use Rattle.std.specs.Prelude.{nat_lt, Float}
use Rattle.std.proofs.Math.Path.{refl}
use Rattle.std.proofs.Common.{sym, ap, ◌∙◌, subst, inl, inr, zero-le, le_refl, le_trans, le_of_eq, le_of_lt, lt_of_le_of_lt, lt_irrefl, not-le_of_lt}
use Rattle.std.proofs.Common.{eq-or-lt_of_le, zero-lt-suc, zero-mul, mul-pos, mul_right_comm, mul-le-mul_right, le_of_mul-le-mul_right, le-div_iff_mul-le}
use Rattle.std.proofs.Common.{div-mul-le_self, arith, leb→le, le→leb, ltb→lt, lt→ltb, nltb→le, eqb→eq, pow-add, pow_pos, pow_mono, le-ltb}
use Rattle.std.proofs.lemmas.Bool.{false≢true}
use Rattle.std.proofs.Math.Nat.{le-suc}
use Rattle.std.specs.Float.Ieee.{nan, prec, emax, low, up, down, size, odd, units, lt, le, eq, below}
use Rattle.std.specs.Float.{inf, fin, Format}
use Rattle.std.specs.Float.Ieee.Digits.{size-lt, size-le, size_reaches}
use Rattle.std.specs.Float.Ieee.Fits.{kept-lt, two, two-le_pos, up_pos, down_pos, and_r}
use Rattle.std.specs.Float.Ieee.Exact.{units_val}
use Rattle.floats.specs.UnitLaws.{lt_val, zero_val}
use Rattle.floats.specs.FiniteLaws.{of_true}
use Rattle.floats.specs.Library.{stepped, whole_root, middle, root_units, sqrt}

-- ---- whole roots
stepped_most : (r n : ℕ) → stepped r n ≤ suc r
stepped_most r n = go (nat_le (suc r * suc r) n)
  where
    go : (b : Bool) → cond b (suc r) r ≤ suc r
    go true = le_refl (suc r)
    go false = le-suc r

stepped_least : (r n : ℕ) → r ≤ stepped r n
stepped_least r n = go (nat_le (suc r * suc r) n)
  where
    go : (b : Bool) → r ≤ cond b (suc r) r
    go true = le-suc r
    go false = le_refl r

-- what a test that holds here and there chooses
cond_mono : (a b : Bool) (q : ℕ) → (T a → T b) → cond a (suc q) q ≤ cond b (suc q) q
cond_mono true true q h = le_refl (suc q)
cond_mono true false q h = absurd (h tt)
cond_mono false true q h = le-suc q
cond_mono false false q h = le_refl q

whole_mono : (d n m : ℕ) → n ≤ m → whole_root d n ≤ whole_root d m
unfolding whole_root
whole_mono zero n m h = zero-le
whole_mono (suc d) n m h = go (whole_root d (n / 4)) (whole_root d (m / 4)) (eq-or-lt_of_le (whole_mono d (n / 4) (m / 4) (quarter n m h)))
  where
    quarter : (n m : ℕ) → n ≤ m → n / 4 ≤ m / 4
    quarter n m h = omega arith

    apart : (r s : ℕ) → r < s → suc (2 * r) ≤ 2 * s
    apart r s h = omega arith

    test : (r : ℕ) → T (nat_le r n) → T (nat_le r m)
    test r t = le→leb r m (le_trans (leb→le r n t) h)

    go : (r s : ℕ) → (r ≡ s) ⊎ (r < s) → stepped (2 * r) n ≤ stepped (2 * s) m
    go r s (inl e) = subst (λ (z : ℕ). stepped (2 * r) n ≤ stepped (2 * z) m) e
        (cond_mono (nat_le (suc (2 * r) * suc (2 * r)) n) (nat_le (suc (2 * r) * suc (2 * r)) m) (2 * r) (test (suc (2 * r) * suc (2 * r))))
    go r s (inr l) = le_trans (stepped_most (2 * r) n) (le_trans (apart r s l) (stepped_least (2 * s) m))

-- ---- the digits that are kept of a whole root w, and rounded by the middle: k are dropped
abbrev dropped : Format → ℕ → ℕ
dropped f w = size w - prec f

abbrev upward : ℕ → ℕ → ℕ → ℕ
upward N q k = cond (nat_lt (middle q k * middle q k) (4 * N)) (suc q) q

-- the rounded root in units
abbrev rounded : Format → ℕ → ℕ → ℕ
rounded f N w = upward N (w / 2 ^ dropped f w) (dropped f w) * 2 ^ dropped f w

upward_most : (N q k : ℕ) → upward N q k ≤ suc q
upward_most N q k = go (nat_lt (middle q k * middle q k) (4 * N))
  where
    go : (b : Bool) → cond b (suc q) q ≤ suc q
    go true = le_refl (suc q)
    go false = le-suc q

upward_least : (N q k : ℕ) → q ≤ upward N q k
upward_least N q k = go (nat_lt (middle q k * middle q k) (4 * N))
  where
    go : (b : Bool) → q ≤ cond b (suc q) q
    go true = le-suc q
    go false = le_refl q

div_up : (a b d : ℕ) → 0 < d → a ≤ b → a / d ≤ b / d
div_up a b d D h = (le-div_iff_mul-le D).1 (le_trans (div-mul-le_self a d) h)

module _ (f : Format) (N M w v : ℕ) (h : N ≤ M) (g : w ≤ v) where
  -- both drop k digits
  same_drop : (k : ℕ) → upward N (w / 2 ^ k) k * 2 ^ k ≤ upward M (v / 2 ^ k) k * 2 ^ k
  same_drop k = mul-le-mul_right (2 ^ k) (go (w / 2 ^ k) (v / 2 ^ k) (eq-or-lt_of_le (div_up w v (2 ^ k) (pow_pos k) g)))
    where
      further : (a : ℕ) → a < 4 * N → a < 4 * M
      further a l = omega arith

      test : (a : ℕ) → T (nat_lt a (4 * N)) → T (nat_lt a (4 * M))
      test a t = lt→ltb a (4 * M) (further a (ltb→lt a (4 * N) t))

      go : (q r : ℕ) → (q ≡ r) ⊎ (q < r) → upward N q k ≤ upward M r k
      go q r (inl e) = subst (λ (z : ℕ). upward N q k ≤ upward M z k) e
          (cond_mono (nat_lt (middle q k * middle q k) (4 * N)) (nat_lt (middle q k * middle q k) (4 * M)) q (test (middle q k * middle q k)))
      go q r (inr l) = le_trans (upward_most N q k) (le_trans l (upward_least M r k))

  -- w drops fewer: 2 ^ (prec + j) lies between
  fewer_drop : dropped f w < dropped f v → rounded f N w ≤ rounded f M v
  fewer_drop l =
      let p = prec f in
      let j = dropped f w in
      let k = dropped f v in
      let P = two-le_pos p (two f) in
      let top : upward N (w / 2 ^ j) j ≤ 2 ^ p = le_trans (upward_most N (w / 2 ^ j) j) (kept-lt p w) in
      let digits = size_reaches v (p - 1 + k) (inside (size v) p P (lt_of_le_of_lt zero-le l)) in
      let reach : 2 ^ (p - 1) * 2 ^ k ≤ v = le_trans (le_of_eq (sym (pow-add 2 (p - 1) k))) digits in
      let least : 2 ^ (p - 1) ≤ upward M (v / 2 ^ k) k = le_trans ((le-div_iff_mul-le (pow_pos k)).1 reach) (upward_least M (v / 2 ^ k) k) in
      le_trans (mul-le-mul_right (2 ^ j) top)
      (le_trans (le_of_eq (sym (pow-add 2 p j)))
      (le_trans (pow_mono (room p j k P l)) (le_trans (le_of_eq (pow-add 2 (p - 1) k)) (mul-le-mul_right (2 ^ k) least))))
    where
      inside : (z p : ℕ) → 0 < p → 0 < z - p → p - 1 + (z - p) < z
      inside z p P h = omega arith

      room : (p j k : ℕ) → 0 < p → j < k → p + j ≤ p - 1 + k
      room p j k P h = omega arith

  rounded_mono : rounded f N w ≤ rounded f M v
  rounded_mono = go (eq-or-lt_of_le (fewer (size w) (size v) (prec f) (size-le w (size v) (lt_of_le_of_lt g (size-lt v)))))
    where
      fewer : (x y p : ℕ) → x ≤ y → x - p ≤ y - p
      fewer x y p h = omega arith

      go : (dropped f w ≡ dropped f v) ⊎ (dropped f w < dropped f v) → rounded f N w ≤ rounded f M v
      go (inl e) = subst (λ (z : ℕ). upward N (w / 2 ^ z) z * 2 ^ z ≤ rounded f M v) (sym e) (same_drop (dropped f v))
      go (inr l) = fewer_drop l

-- ---- values not below zero, by their units
over : (f : Format) (q k : ℕ) → 2 ^ (low f + suc (emax f)) ≤ q * 2 ^ k → units f false q k ≡ inf false
unfolding units
over f q k h = ap (λ (b : Bool). cond b (odd (suc (prec f)) false q k (low f)) (inf false)) (le-ltb (q * 2 ^ k) (2 ^ (low f + suc (emax f))) h)

inf_above : (x : Float) → lt (inf false) x ≡ false
unfolding lt
inf_above nan = refl
inf_above (inf t) = refl
inf_above (fin t n d) = refl

units_order : (f : Format) (q j r k : ℕ) → r * 2 ^ k ≤ q * 2 ^ j → lt (units f false q j) (units f false r k) ≡ false
units_order f q j r k h = go (nat_lt (q * 2 ^ j) top) (ltb→lt (q * 2 ^ j) top) (nltb→le (q * 2 ^ j) top)
  where
    top : ℕ
    top = 2 ^ (low f + suc (emax f))

    go : (b : Bool) → (T b → q * 2 ^ j < top) → (T (not b) → top ≤ q * 2 ^ j) → lt (units f false q j) (units f false r k) ≡ false
    go true l g =
        lt_val f (units f false q j) (units f false r k) false (q * 2 ^ j) false (r * 2 ^ k)
        (units_val f false q j (l tt)) (units_val f false r k (lt_of_le_of_lt h (l tt)))
        ∙ le-ltb (q * 2 ^ j) (r * 2 ^ k) h
    go false l g = ap (λ (z : Float). lt z (units f false r k)) (over f q j (g tt)) ∙ inf_above (units f false r k)

root_units_order : (f : Format) (N M : ℕ) → N ≤ M → lt (root_units f M) (root_units f N) ≡ false
unfolding root_units
root_units_order f N M h =
    let d = 2 * (low f + suc (emax f)) in
    units_order f _ _ _ _ (rounded_mono f N M (whole_root d N) (whole_root d M) h (whole_mono d N M h))

-- a root's units are never below a zero
root_units_above : (f : Format) (N : ℕ) (s : Bool) (e : ℤ) → lt (root_units f N) (fin s zero e) ≡ false
unfolding root_units
root_units_above f N s e = go _ _
  where
    none : (s : Bool) (n : ℕ) → below false n s 0 ≡ false
    none true n = refl
    none false n = le-ltb n 0 zero-le

    top : ℕ
    top = 2 ^ (low f + suc (emax f))

    go : (q k : ℕ) → lt (units f false q k) (fin s zero e) ≡ false
    go q k = pick (nat_lt (q * 2 ^ k) top) (ltb→lt (q * 2 ^ k) top) (nltb→le (q * 2 ^ k) top)
      where
        pick : (b : Bool) → (T b → q * 2 ^ k < top) → (T (not b) → top ≤ q * 2 ^ k) → lt (units f false q k) (fin s zero e) ≡ false
        pick true l g =
            lt_val f (units f false q k) (fin s zero e) false (q * 2 ^ k) s 0 (units_val f false q k (l tt)) (zero_val f s e) ∙ none s (q * 2 ^ k)
        pick false l g = ap (λ (z : Float). lt z (fin s zero e)) (over f q k (g tt)) ∙ inf_above (fin s zero e)

-- ---- every value
pub nan_none : (x : Float) → lt x nan ≡ false
unfolding lt
nan_none nan = refl
nan_none (inf s) = refl
nan_none (fin s m e) = refl

-- a value above zero and one that is not below it: their sizes are in order
sizes : (m : ℕ) (e : ℤ) (n : ℕ) (d : ℤ) → le (fin false m e) (fin false n d) ≡ true → m * up e * down d ≤ n * up d * down e
unfolding le lt eq
sizes m e n d h = go (m * up e * down d) (n * up d * down e) h
  where
    go : (a b : ℕ) → nat_lt a b || (a == b && true) ≡ true → a ≤ b
    go a b h = pick (nat_lt a b) (a == b) (ltb→lt a b) (eqb→eq a b) h
      where
        pick : (x y : Bool) → (T x → a < b) → (T y → a ≡ b) → x || (y && true) ≡ true → a ≤ b
        pick true y l q h = le_of_lt (l tt)
        pick false true l q h = le_of_eq (q tt)
        pick false false l q h = absurd (false≢true h)

-- the same in units, with what is below a unit cut off
cut_order : (f : Format) (a c b d : ℕ) → 0 < c → 0 < d → a * d ≤ b * c → a * 2 ^ low f / c * 2 ^ low f ≤ b * 2 ^ low f / d * 2 ^ low f
cut_order f a c b d C D h =
    let l = 2 ^ low f in
    let w = a * l / c in
    let wide : a * l * d ≤ b * l * c = le_trans (le_of_eq (mul_right_comm a l d)) (le_trans (mul-le-mul_right l h) (le_of_eq (mul_right_comm b c l))) in
    let u : w * d * c ≤ b * l * c = le_trans (le_of_eq (mul_right_comm w d c)) (le_trans (mul-le-mul_right d (div-mul-le_self (a * l) c)) wide) in
    mul-le-mul_right l ((le-div_iff_mul-le D).1 (le_of_mul-le-mul_right u C))

some : (n : ℕ) (d e : ℤ) → 0 < suc n * up d * down e
some n d e = mul-pos (mul-pos (zero-lt-suc n) (up_pos d)) (down_pos e)

-- neither zero is below the other, and what is above zero is not at most a zero
zeros : (s t : Bool) → below s 0 t 0 ≡ false
zeros true true = refl
zeros true false = refl
zeros false true = refl
zeros false false = refl

above_zero : (s : Bool) (n : ℕ) (d e : ℤ) → le (fin false (suc n) d) (fin s zero e) ≢ true
unfolding le lt eq
above_zero false n d e h =
    let none = ap (λ (z : ℕ). z * down d) (zero-mul (up e)) ∙ zero-mul (down d) in
    not-le_of_lt (some n d e) (le_trans (sizes (suc n) d zero e h) (le_of_eq none))
above_zero true n d e h =
    let a = suc n * up d * down e in
    lt_irrefl 0 (subst (λ (z : ℕ). 0 < z) (eqb→eq a 0 (and_r (a == zero * up e * down d) (a == 0) (of_true h))) (some n d e))

module _ (f : Format) where
  pub sqrt_mono : (x y : Float) → le y x ≡ true → lt (sqrt f x) (sqrt f y) ≡ false
  unfolding sqrt
  sqrt_mono x nan h = nan_none (sqrt f x)
  sqrt_mono x (inf true) h = nan_none (sqrt f x)
  sqrt_mono nan (inf false) h = unfold lt in refl
  sqrt_mono (inf true) (inf false) h = unfold lt in refl
  sqrt_mono (inf false) (inf false) h = unfold lt in refl
  sqrt_mono (fin s m e) (inf false) h = absurd (false≢true (unfold le lt eq in h))
  sqrt_mono nan (fin t zero d) h = unfold lt in refl
  sqrt_mono (inf true) (fin t zero d) h = unfold lt in refl
  sqrt_mono (inf false) (fin t zero d) h = unfold lt in refl
  sqrt_mono (fin s zero e) (fin t zero d) h = lt_val f (fin s zero e) (fin t zero d) s 0 t 0 (zero_val f s e) (zero_val f t d) ∙ zeros s t
  sqrt_mono (fin true (suc m) e) (fin t zero d) h = unfold lt in refl
  sqrt_mono (fin false (suc m) e) (fin t zero d) h = root_units_above f (suc m * up e * 2 ^ low f / down e * 2 ^ low f) t d
  sqrt_mono x (fin true (suc n) d) h = nan_none (sqrt f x)
  sqrt_mono nan (fin false (suc n) d) h = unfold lt in refl
  sqrt_mono (inf true) (fin false (suc n) d) h = unfold lt in refl
  sqrt_mono (inf false) (fin false (suc n) d) h = inf_above (sqrt f (fin false (suc n) d))
  sqrt_mono (fin s zero e) (fin false (suc n) d) h = absurd (above_zero s n d e h)
  sqrt_mono (fin true (suc m) e) (fin false (suc n) d) h = unfold lt in refl
  sqrt_mono (fin false (suc m) e) (fin false (suc n) d) h =
      root_units_order f (suc n * up d * 2 ^ low f / down d * 2 ^ low f) (suc m * up e * 2 ^ low f / down e * 2 ^ low f)
      (cut_order f (suc n * up d) (down d) (suc m * up e) (down e) (down_pos d) (down_pos e) (sizes (suc n) d (suc m) e h))
