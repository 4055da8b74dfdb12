-- The order of all floats but the NaN, as the order of whole numbers. `rank_of f x` is the size in units, counted up from the middle where the sign is
-- clear and down where it is set; the infinities are at the ends,
-- and both zeros in the middle. So `lt`, `le` and `eq` are those of the ranks (`rank_lt`, `rank_le`, `rank_eq`), and `omega` proves what follows from
-- several comparisons.
-- Assumes nothing.
use Rattle.std.specs.Prelude.{◌≡◌, ℕ, suc, ◌+◌, ◌-◌, ◌*◌, ◌/◌, ◌^◌, ◌<◌, ◌≤◌, Bool, true, false, cond, not, ◌&&◌, ◌||◌, T, ltb, ◌⊎◌, ◌==◌, nat_eq, nat_le}
use Rattle.std.specs.Prelude.{nat_lt, Float}
use Rattle.std.proofs.Math.Path.{refl, ap}
use Rattle.std.proofs.Common.{sym, ◌∙◌, subst, inl, inr, le_refl, le_trans, le_of_eq, le_of_lt, lt_irrefl, eq-or-lt_of_le, arith, pow_pos, le-ltb, lt-ltb}
use Rattle.std.proofs.Common.{ne_eqb}
use Rattle.std.proofs.Math.Nat.{mul-div_cancel}
use Rattle.std.specs.Bool.{beq}
use lib.Dec.{leb→le, le→leb, ltb→lt, lt→ltb, nltb→le, eqb→eq}
use Rattle.std.specs.Float.{nan, inf, fin, Format}
use Rattle.std.specs.Float.Ieee.{emax, low, up, down, lt, le, eq, below, level, fits, is_nan}
use Rattle.std.specs.Float.Ieee.Fits.{down_pos, eq→eqb, and_l, and_r, and_i}
use Rattle.std.specs.Float.Ieee.Scale.{overflow}
use Rattle.std.specs.Float.Ieee.Bits.{is_true}
use Rattle.floats.specs.UnitLaws.{Val, same_test, lt_val, eq_val, not_so, pos_plus, plus_pos, no_eqb}
use Rattle.floats.specs.RoundingLaws.{counted}
use Rattle.floats.specs.NonNegLaws.{or_l, or_r}

-- a sign and a size, as a distance from a middle O
abbrev pub place : ℕ → Bool → ℕ → ℕ
place O s n = cond s (O - n) (O + n)

unfoldable pub rank_of : Format → Float → ℕ
rank_of f nan = 0
rank_of f (inf s) = place (overflow f) s (overflow f)
rank_of f (fin s m e) = place (overflow f) s (m * up e * 2 ^ low f / down e)

-- a sign and a size for every value but the NaN: the infinities are `overflow f` in size
abbrev pub Sized : Format → Float → Bool → ℕ → Type 0
Sized f x s n = (Val f x s n × (n < overflow f)) ⊎ ((x ≡ inf s) × (n ≡ overflow f))

pub record Size (f : Format) (x : Float) : Type 0 where
  pub sign : Bool
  pub count : ℕ
  pub is : Sized f x sign count

pub sized : (f : Format) (x : Float) → T (fits f x) → T (not (is_nan x)) → Size f x
sized f nan p n = absurd (unfold is_nan in n)
sized f (inf s) p n = record { sign = s; count = overflow f; is = inr (refl, refl) }
sized f (fin s m e) p n = let c = counted f (fin s m e) p tt in record { sign = c.sign; count = c.count; is = inl (c.val, c.rep.4) }

size_le : (f : Format) (x : Float) (s : Bool) (n : ℕ) → Sized f x s n → n ≤ overflow f
size_le f x s n (inl v) = le_of_lt v.1
size_le f x s n (inr v) = le_of_eq v.1

pub rank_is : (f : Format) (x : Float) (s : Bool) (n : ℕ) → Sized f x s n → rank_of f x ≡ place (overflow f) s n
rank_is f x s n (inr v) = ap (rank_of f) v.0 ∙ unfold rank_of in (ap (place (overflow f) s) (sym v.1))
rank_is f x s n (inl v) = go x v.0
  where
    go : (x : Float) → Val f x s n → rank_of f x ≡ place (overflow f) s n
    go nan w = absurd w
    go (inf t) w = absurd w
    go (fin t m e) w =
        unfold rank_of in (ap (λ (z : ℕ). place (overflow f) t z) (ap (λ (z : ℕ). z / down e) w.1 ∙ mul-div_cancel n (down_pos e)) ∙
        ap (λ (b : Bool). place (overflow f) b n) w.0)

-- ---- the three comparisons of two such values
module _ (O : ℕ) (a b : ℕ) (A : a ≤ O) (B : b ≤ O) where
  below_place : (s t : Bool) → below s a t b ≡ nat_lt (place O s a) (place O t b)
  below_place false false =
      same_test (nat_lt a b) (nat_lt (O + a) (O + b)) (λ u. lt→ltb (O + a) (O + b) (p (ltb→lt a b u))) (λ u. lt→ltb a b (q (ltb→lt (O + a) (O + b) u)))
    where
      p : a < b → O + a < O + b
      p h = omega arith

      q : O + a < O + b → a < b
      q h = omega arith
  below_place false true = sym (not_so (nat_lt (O + a) (O - b)) (λ u. q (ltb→lt (O + a) (O - b) u)))
    where
      q : O + a < O - b → ⊥
      q h = omega arith
  below_place true false =
      same_test (nat_lt 0 (a + b)) (nat_lt (O - a) (O + b)) (λ u. lt→ltb (O - a) (O + b) (p (ltb→lt 0 (a + b) u)))
      (λ u. lt→ltb 0 (a + b) (q (ltb→lt (O - a) (O + b) u)))
    where
      p : 0 < a + b → O - a < O + b
      p h = omega arith

      q : O - a < O + b → 0 < a + b
      q h = omega arith
  below_place true true =
      same_test (nat_lt b a) (nat_lt (O - a) (O - b)) (λ u. lt→ltb (O - a) (O - b) (p (ltb→lt b a u))) (λ u. lt→ltb b a (q (ltb→lt (O - a) (O - b) u)))
    where
      p : b < a → O - a < O - b
      p h = omega arith

      q : O - a < O - b → b < a
      q h = omega arith

  -- the sizes as one test
  level_place : (s t : Bool) → level s a t b ≡ (place O s a == place O t b)
  level_place s t = same_test (level s a t b) (place O s a == place O t b) (there s t) (back s t)
    where
      zeros : a ≡ b → a ≡ 0 → O + a ≡ O - b
      zeros e z = omega arith

      zeros' : a ≡ b → a ≡ 0 → O - a ≡ O + b
      zeros' e z = omega arith

      there : (s t : Bool) → T (level s a t b) → T (place O s a == place O t b)
      there false false h = eq→eqb (ap (λ (z : ℕ). O + z) (eqb→eq a b (and_l (a == b) true h)))
      there true true h = eq→eqb (ap (λ (z : ℕ). O - z) (eqb→eq a b (and_l (a == b) true h)))
      there false true h = eq→eqb (zeros (eqb→eq a b (and_l (a == b) (a == 0) h)) (eqb→eq a 0 (and_r (a == b) (a == 0) h)))
      there true false h = eq→eqb (zeros' (eqb→eq a b (and_l (a == b) (a == 0) h)) (eqb→eq a 0 (and_r (a == b) (a == 0) h)))

      ff : O + a ≡ O + b → a ≡ b
      ff e = omega arith

      nn : O - a ≡ O - b → a ≡ b
      nn e = omega arith

      ft : O + a ≡ O - b → (a ≡ b) × (a ≡ 0)
      ft e = (omega arith, omega arith)

      tf : O - a ≡ O + b → (a ≡ b) × (a ≡ 0)
      tf e = (omega arith, omega arith)

      back : (s t : Bool) → T (place O s a == place O t b) → T (level s a t b)
      back false false h = and_i (a == b) true (eq→eqb (ff (eqb→eq (O + a) (O + b) h))) tt
      back true true h = and_i (a == b) true (eq→eqb (nn (eqb→eq (O - a) (O - b) h))) tt
      back false true h = let e = ft (eqb→eq (O + a) (O - b) h) in and_i (a == b) (a == 0) (eq→eqb e.0) (eq→eqb e.1)
      back true false h = let e = tf (eqb→eq (O - a) (O + b) h) in and_i (a == b) (a == 0) (eq→eqb e.0) (eq→eqb e.1)

-- `lt` and `eq` where an infinity takes part
module _ (O : ℕ) (P : 0 < O) where
  inf_right : (s : Bool) (a : ℕ) (t : Bool) → a < O → not t ≡ below s a t O
  inf_right false a false h = sym (lt-ltb a O h)
  inf_right false a true h = refl
  inf_right true a false h = sym (lt-ltb 0 (a + O) (plus_pos a O P))
  inf_right true a true h = sym (le-ltb O a (le_of_lt h))

  inf_left : (s : Bool) (t : Bool) (b : ℕ) → b < O → s ≡ below s O t b
  inf_left false false b h = sym (le-ltb O b (le_of_lt h))
  inf_left false true b h = refl
  inf_left true false b h = sym (lt-ltb 0 (O + b) (pos_plus O b P))
  inf_left true true b h = sym (lt-ltb b O h)

  inf_both : (s t : Bool) → (s && not t) ≡ below s O t O
  inf_both false false = sym (le-ltb O O (le_refl O))
  inf_both false true = refl
  inf_both true false = sym (lt-ltb 0 (O + O) (some O P))
    where
      some : (a : ℕ) → 0 < a → 0 < a + a
      some a h = omega arith
  inf_both true true = sym (le-ltb O O (le_refl O))

  eq_right : (s : Bool) (a : ℕ) (t : Bool) → a < O → false ≡ level s a t O
  eq_right s a t h = sym (ap (λ (z : Bool). z && (beq s t || a == 0)) (ne_eqb a O (λ e. lt_irrefl O (subst (λ (z : ℕ). z < O) e h))))

  eq_left : (s : Bool) (t : Bool) (b : ℕ) → b < O → false ≡ level s O t b
  eq_left s t b h = sym (ap (λ (z : Bool). z && (beq s t || O == 0)) (ne_eqb O b (λ e. lt_irrefl b (subst (λ (z : ℕ). b < z) e h))))

  eq_both : (s t : Bool) → beq s t ≡ level s O t O
  eq_both s t =
      sym (ap (λ (z : Bool). z && (beq s t || O == 0)) (is_true (O == O) (lib.Dec.eqb_refl O)) ∙
      ap (λ (z : Bool). beq s t || z) (no_eqb O P) ∙ drop_or (beq s t))
    where
      drop_or : (b : Bool) → (b || false) ≡ b
      drop_or true = refl
      drop_or false = refl

module _ (f : Format) where
  O-pos : 0 < overflow f
  O-pos = pow_pos (low f + suc (emax f))

  fin_inf : (x : Float) (s : Bool) (a : ℕ) (t : Bool) → Val f x s a → (lt x (inf t) ≡ not t) × (eq x (inf t) ≡ false) × (lt (inf t) x ≡ t) ×
      (eq (inf t) x ≡ false)
  fin_inf nan s a t v = absurd v
  fin_inf (inf u) s a t v = absurd v
  fin_inf (fin u m e) s a t v = unfold lt eq in (refl, refl, refl, refl)

  lt_sized : (x y : Float) (s : Bool) (a : ℕ) (t : Bool) (b : ℕ) → Sized f x s a → Sized f y t b → lt x y ≡ below s a t b
  lt_sized x y s a t b (inl v) (inl w) = lt_val f x y s a t b v.0 w.0
  lt_sized x y s a t b (inl v) (inr w) =
      ap (lt x) w.0 ∙ (fin_inf x s a t v.0).0 ∙ inf_right (overflow f) O-pos s a t v.1 ∙ ap (λ (z : ℕ). below s a t z) (sym w.1)
  lt_sized x y s a t b (inr v) (inl w) =
      ap (λ (z : Float). lt z y) v.0 ∙ (fin_inf y t b s w.0).2 ∙ inf_left (overflow f) O-pos s t b w.1 ∙ ap (λ (z : ℕ). below s z t b) (sym v.1)
  lt_sized x y s a t b (inr v) (inr w) =
      ap (λ (z : Float). lt z y) v.0 ∙ ap (lt (inf s)) w.0 ∙ unfold lt in (inf_both (overflow f) O-pos s t) ∙
      ap (λ (z : ℕ). below s z t (overflow f)) (sym v.1) ∙ ap (λ (z : ℕ). below s a t z) (sym w.1)

  eq_sized : (x y : Float) (s : Bool) (a : ℕ) (t : Bool) (b : ℕ) → Sized f x s a → Sized f y t b → eq x y ≡ level s a t b
  eq_sized x y s a t b (inl v) (inl w) = eq_val f x y s a t b v.0 w.0
  eq_sized x y s a t b (inl v) (inr w) =
      ap (eq x) w.0 ∙ (fin_inf x s a t v.0).1 ∙ eq_right (overflow f) O-pos s a t v.1 ∙ ap (λ (z : ℕ). level s a t z) (sym w.1)
  eq_sized x y s a t b (inr v) (inl w) =
      ap (λ (z : Float). eq z y) v.0 ∙ (fin_inf y t b s w.0).3 ∙ eq_left (overflow f) O-pos s t b w.1 ∙ ap (λ (z : ℕ). level s z t b) (sym v.1)
  eq_sized x y s a t b (inr v) (inr w) =
      ap (λ (z : Float). eq z y) v.0 ∙ ap (eq (inf s)) w.0 ∙ unfold eq in (eq_both (overflow f) O-pos s t) ∙
      ap (λ (z : ℕ). level s z t (overflow f)) (sym v.1) ∙ ap (λ (z : ℕ). level s a t z) (sym w.1)

leb_of : (a b : ℕ) → (nat_lt a b || a == b) ≡ nat_le a b
leb_of a b = same_test (nat_lt a b || a == b) (nat_le a b) (there (nat_lt a b) (ltb→lt a b)) back
  where
    there : (c : Bool) → (T c → a < b) → T (c || a == b) → T (nat_le a b)
    there true h u = le→leb a b (le_of_lt (h tt))
    there false h u = le→leb a b (le_of_eq (eqb→eq a b u))

    back : T (nat_le a b) → T (nat_lt a b || a == b)
    back u = elim (eq-or-lt_of_le (leb→le a b u)) [ inl e ↦ or_r (nat_lt a b) (a == b) (eq→eqb e) | inr l ↦ or_l (nat_lt a b) (a == b) (lt→ltb a b l) ]

module _ (f : Format) (x y : Float) (p : T (fits f x)) (q : T (fits f y)) (n : T (not (is_nan x))) (m : T (not (is_nan y))) where
  pub rank_lt : lt x y ≡ nat_lt (rank_of f x) (rank_of f y)
  rank_lt =
      let a = sized f x p n in
      let b = sized f y q m in
      lt_sized f x y a.sign a.count b.sign b.count a.is b.is
      ∙ below_place (overflow f) a.count b.count (size_le f x a.sign a.count a.is) (size_le f y b.sign b.count b.is) a.sign b.sign
      ∙ ap (λ (z : ℕ). ltb z (place (overflow f) b.sign b.count)) (sym (rank_is f x a.sign a.count a.is))
      ∙ ap (λ (z : ℕ). ltb (rank_of f x) z) (sym (rank_is f y b.sign b.count b.is))

  pub rank_eq : eq x y ≡ (rank_of f x == rank_of f y)
  rank_eq =
      let a = sized f x p n in
      let b = sized f y q m in
      eq_sized f x y a.sign a.count b.sign b.count a.is b.is
      ∙ level_place (overflow f) a.count b.count (size_le f x a.sign a.count a.is) (size_le f y b.sign b.count b.is) a.sign b.sign
      ∙ ap (λ (z : ℕ). nat_eq z (place (overflow f) b.sign b.count)) (sym (rank_is f x a.sign a.count a.is))
      ∙ ap (λ (z : ℕ). nat_eq (rank_of f x) z) (sym (rank_is f y b.sign b.count b.is))

  pub rank_le : le x y ≡ nat_le (rank_of f x) (rank_of f y)
  unfolding le
  rank_le = ap (λ (z : Bool). z || eq x y) rank_lt ∙ ap (λ (z : Bool). nat_lt (rank_of f x) (rank_of f y) || z) rank_eq ∙ leb_of (rank_of f x) (rank_of f y)

  -- as facts about numbers
  pub le→rank : T (le x y) → rank_of f x ≤ rank_of f y
  le→rank h = leb→le (rank_of f x) (rank_of f y) (subst T rank_le h)

  pub rank→le : rank_of f x ≤ rank_of f y → T (le x y)
  rank→le h = subst T (sym rank_le) (le→leb (rank_of f x) (rank_of f y) h)

  -- a test that failed
  pub not_lt→rank : lt x y ≡ false → rank_of f y ≤ rank_of f x
  not_lt→rank e = nltb→le (rank_of f x) (rank_of f y) (subst (λ (b : Bool). T (not b)) (sym e ∙ rank_lt) tt)

-- a comparison that holds has no NaN in it
pub lt_no_nan : (x y : Float) → T (lt x y) → T (not (is_nan x)) × T (not (is_nan y))
unfolding lt is_nan
lt_no_nan nan y h = absurd h
lt_no_nan (inf s) nan h = absurd h
lt_no_nan (inf s) (inf t) h = (tt, tt)
lt_no_nan (inf s) (fin t n d) h = (tt, tt)
lt_no_nan (fin s m e) nan h = absurd h
lt_no_nan (fin s m e) (inf t) h = (tt, tt)
lt_no_nan (fin s m e) (fin t n d) h = (tt, tt)

pub le_no_nan : (x y : Float) → T (le x y) → T (not (is_nan x)) × T (not (is_nan y))
unfolding le is_nan
le_no_nan nan y h = absurd h
le_no_nan (inf s) nan h = absurd h
le_no_nan (inf s) (inf t) h = (tt, tt)
le_no_nan (inf s) (fin t n d) h = (tt, tt)
le_no_nan (fin s m e) nan h = absurd h
le_no_nan (fin s m e) (inf t) h = (tt, tt)
le_no_nan (fin s m e) (fin t n d) h = (tt, tt)

-- ---- transitivity, whatever the signs, the zeros and the infinities
module _ (f : Format) (x y z : Float) (p : T (fits f x)) (q : T (fits f y)) (r : T (fits f z)) where
  pub le_le : T (le x y) → T (le y z) → T (le x z)
  le_le h k =
      let a = le_no_nan x y h in
      let b = le_no_nan y z k in
      rank→le f x z p r a.0 b.1 (le_trans (le→rank f x y p q a.0 a.1 h) (le→rank f y z q r b.0 b.1 k))

-- a failed test, for values that are no NaN: what a clamp needs
pub le_of_not_lt : (f : Format) (x y : Float) → T (fits f x) → T (fits f y) → T (not (is_nan x)) → T (not (is_nan y)) → lt x y ≡ false → T (le y x)
le_of_not_lt f x y p q n m e = rank→le f y x q p m n (not_lt→rank f x y p q n m e)

pub sized_no_nan : (f : Format) (x : Float) (s : Bool) (n : ℕ) → Sized f x s n → T (not (is_nan x))
sized_no_nan f x s n (inr v) = subst (λ (z : Float). T (not (is_nan z))) (sym v.0) (unfold is_nan in tt)
sized_no_nan f x s n (inl v) = go x v.0
  where
    go : (x : Float) → Val f x s n → T (not (is_nan x))
    go nan w = absurd w
    go (inf t) w = absurd w
    go (fin t m e) w = unfold is_nan in tt
