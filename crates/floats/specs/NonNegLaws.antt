-- `NonNeg f x n`: x is n units, and not below zero: its sign is clear, or it is -0. Such values are compared, added, subtracted and reduced as whole numbers,
-- and -0 needs no case of its own after this file. Assumes nothing.
use Rattle.std.specs.Prelude.{◌≡◌, ℕ, ◌+◌, ◌-◌, ◌^◌, ◌<◌, ◌≤◌, Bool, true, false, cond, not, ◌||◌, T, ◌⊎◌, pos, ◌==◌, nat_le, nat_lt, Float}
use Rattle.std.proofs.Math.Path.{refl, ap}
use Rattle.std.proofs.Common.{sym, ◌∙◌, subst, inl, inr, le_of_eq, le_of_lt, zero-mul, eq-or-lt_of_le, arith, leb→le, le→leb, ltb→lt, lt→ltb, nltb→le}
use Rattle.std.proofs.Common.{eqb→eq, le-ltb, lt-ltb}
use Rattle.std.specs.Bool.{beq}
use Rattle.std.specs.Float.{fin, Format}
use Rattle.std.specs.Float.Ieee.{low, round, sum, add, sub, lt, le, below, level}
use Rattle.std.specs.Float.Ieee.Fits.{and_i, and_l, eq→eqb}
use Rattle.std.specs.Float.Ieee.Scale.{overflow}
use Rattle.floats.specs.UnitLaws.{Val, same_test, lt_val, le_val, add_val, sub_val, not_so}
use Rattle.floats.specs.RoundingLaws.{R, Rep, round-R, R-zero, R-rep, rep_zero}

pub record NonNeg (f : Format) (x : Float) (n : ℕ) : Type 0 where
  pub sign : Bool
  pub val : Val f x sign n
  pub none : T sign → n ≡ 0
  pub rep : Rep f n

pub plus_nn : (f : Format) (x : Float) (n : ℕ) → Val f x false n → Rep f n → NonNeg f x n
plus_nn f x n v r = record { sign = false; val = v; none = λ t. absurd t; rep = r }

pub zero_nn : (f : Format) → NonNeg f (fin false 0 (pos 0)) 0
zero_nn f = plus_nn f (fin false 0 (pos 0)) 0 (refl, zero-mul (2 ^ low f)) (rep_zero f)

-- ---- order
not_below_zero : (a b : ℕ) → b ≡ 0 → a < b → ⊥
not_below_zero a b e h = omega arith

zero_and : (a b : ℕ) → a ≡ 0 → 0 < a + b → a < b
zero_and a b e h = omega arith

zero_or : (a b : ℕ) → a ≡ 0 → a < b → 0 < a + b
zero_or a b e h = omega arith

below_nn : (s : Bool) (a : ℕ) (t : Bool) (b : ℕ) → (T s → a ≡ 0) → (T t → b ≡ 0) → below s a t b ≡ nat_lt a b
below_nn false a false b p q = refl
below_nn false a true b p q = sym (not_so (nat_lt a b) (λ t. not_below_zero a b (q tt) (ltb→lt a b t)))
below_nn true a false b p q =
    same_test (nat_lt 0 (a + b)) (nat_lt a b) (λ t. lt→ltb a b (zero_and a b (p tt) (ltb→lt 0 (a + b) t)))
    (λ t. lt→ltb 0 (a + b) (zero_or a b (p tt) (ltb→lt a b t)))
below_nn true a true b p q =
    not_so (nat_lt b a) (λ t. not_below_zero b a (p tt) (ltb→lt b a t)) ∙ sym (not_so (nat_lt a b) (λ t. not_below_zero a b (q tt) (ltb→lt a b t)))

or_case : (a b : Bool) → T (a || b) → T a ⊎ T b
or_case true b t = inl tt
or_case false b t = inr t

pub or_l : (a b : Bool) → T a → T (a || b)
or_l true b t = tt
or_l false b t = absurd t

pub or_r : (a b : Bool) → T b → T (a || b)
or_r true b t = tt
or_r false b t = t

either_zero : (s t : Bool) (a : ℕ) → (T s → a ≡ 0) → (T t → a ≡ 0) → T (beq s t || a == 0)
either_zero true true a p q = tt
either_zero true false a p q = eq→eqb (p tt)
either_zero false true a p q = eq→eqb (q tt)
either_zero false false a p q = tt

le_nn : (s : Bool) (a : ℕ) (t : Bool) (b : ℕ) → (T s → a ≡ 0) → (T t → b ≡ 0) → (below s a t b || level s a t b) ≡ nat_le a b
le_nn s a t b p q = same_test (below s a t b || level s a t b) (nat_le a b) there back
  where
    there : T (below s a t b || level s a t b) → T (nat_le a b)
    there u = elim (or_case (below s a t b) (level s a t b) u) [
      | inl c ↦ le→leb a b (le_of_lt (ltb→lt a b (subst T (below_nn s a t b p q) c)))
      | inr c ↦ le→leb a b (le_of_eq (eqb→eq a b (and_l (a == b) (beq s t || a == 0) c)))
    ]

    back : T (nat_le a b) → T (below s a t b || level s a t b)
    back u = elim (eq-or-lt_of_le (leb→le a b u)) [
      | inl e ↦ or_r (below s a t b) (level s a t b) (and_i (a == b) (beq s t || a == 0) (eq→eqb e) (either_zero s t a p (λ (c : T t). e ∙ q c)))
      | inr l ↦ or_l (below s a t b) (level s a t b) (subst T (sym (below_nn s a t b p q)) (lt→ltb a b l))
    ]

module _ (f : Format) (x y : Float) (a b : ℕ) (h : NonNeg f x a) (k : NonNeg f y b) where
  pub lt_is : lt x y ≡ nat_lt a b
  lt_is = lt_val f x y h.sign a k.sign b h.val k.val ∙ below_nn h.sign a k.sign b h.none k.none

  pub le_is : le x y ≡ nat_le a b
  le_is = le_val f x y h.sign a k.sign b h.val k.val ∙ le_nn h.sign a k.sign b h.none k.none

  pub lt_of : a < b → T (lt x y)
  lt_of l = subst T (sym lt_is) (lt→ltb a b l)

  pub le_of : a ≤ b → T (le x y)
  le_of l = subst T (sym le_is) (le→leb a b l)

-- ---- `sum`, by the signs
module _ (f : Format) (a b c : ℕ) where
  pub sum_same : (s : Bool) → sum f s a s b c ≡ round f s (a + b) c
  unfolding sum
  sum_same true = refl
  sum_same false = refl

  pub sum_pn_ge : b ≤ a → sum f false a true b c ≡ round f false (a - b) c
  unfolding sum
  sum_pn_ge h = ap (λ (z : Bool). cond z (round f true (b - a) c) (round f false (a - b) c)) (le-ltb a b h)

  pub sum_pn_lt : a < b → sum f false a true b c ≡ round f true (b - a) c
  unfolding sum
  sum_pn_lt h = ap (λ (z : Bool). cond z (round f true (b - a) c) (round f false (a - b) c)) (lt-ltb a b h)

  pub sum_np_lt : a < b → sum f true a false b c ≡ round f false (b - a) c
  unfolding sum
  sum_np_lt h = ap (λ (z : Bool). cond z (round f false (b - a) c) (round f (nat_lt b a) (a - b) c)) (lt-ltb a b h)

  pub sum_np_gt : b < a → sum f true a false b c ≡ round f true (a - b) c
  unfolding sum
  sum_np_gt h =
      ap (λ (z : Bool). cond z (round f false (b - a) c) (round f (nat_lt b a) (a - b) c)) (le-ltb a b (le_of_lt h)) ∙
      ap (λ (z : Bool). round f z (a - b) c) (lt-ltb b a h)

  pub sum_np_eq : a ≡ b → sum f true a false b c ≡ round f false (a - b) c
  unfolding sum
  sum_np_eq h =
      ap (λ (z : Bool). cond z (round f false (b - a) c) (round f (nat_lt b a) (a - b) c)) (le-ltb a b (le_of_eq (sym h)))
      ∙ ap (λ (z : Bool). round f z (a - b) c) (le-ltb b a (le_of_eq h))

-- ---- rounded results
pub rounded : (f : Format) (x : Float) (s : Bool) (n : ℕ) → R f n < overflow f → x ≡ round f s n (2 ^ low f) → Val f x s (R f n)
rounded f x s n h e = subst (λ (z : Float). Val f z s (R f n)) (sym e) (round-R f s n h)

pub rounded_nn : (f : Format) (x : Float) (n : ℕ) → R f n < overflow f → x ≡ round f false n (2 ^ low f) → NonNeg f x (R f n)
rounded_nn f x n h e = plus_nn f x (R f n) (rounded f x false n h e) (R-rep f n h)

rounded_zero : (f : Format) (x : Float) (n : ℕ) → n ≡ 0 → R f n < overflow f → x ≡ round f true n (2 ^ low f) → NonNeg f x (R f n)
rounded_zero f x n z h e = record { sign = true; val = rounded f x true n h e; none = λ t. ap (R f) z ∙ R-zero f; rep = R-rep f n h }

same_sum : (a b : ℕ) → b ≡ 0 → a - b ≡ a + b
same_sum a b e = omega arith

both_none : (a b : ℕ) → a ≡ 0 → b ≡ 0 → a + b ≡ 0
both_none a b p q = omega arith

none_sub : (a b : ℕ) → a ≡ 0 → b - a ≡ a + b
none_sub a b p = omega arith

-- ---- the sum of two values that are not below zero
module _ (f : Format) (x y : Float) (a b : ℕ) where
  add_go : (s t : Bool) → Val f x s a → Val f y t b → (T s → a ≡ 0) → (T t → b ≡ 0) → R f (a + b) < overflow f → NonNeg f (add f x y) (R f (a + b))
  add_go false false v w p q h = rounded_nn f (add f x y) (a + b) h (add_val f x y false a false b v w ∙ sum_same f a b (2 ^ low f) false)
  add_go true true v w p q h =
      rounded_zero f (add f x y) (a + b) (both_none a b (p tt) (q tt)) h (add_val f x y true a true b v w ∙ sum_same f a b (2 ^ low f) true)
  add_go false true v w p q h =
      rounded_nn f (add f x y) (a + b) h
      (add_val f x y false a true b v w ∙ sum_pn_ge f a b (2 ^ low f) (le_zero a b (q tt)) ∙ ap (λ (z : ℕ). round f false z (2 ^ low f)) (same_sum a b (q tt)))
    where
      le_zero : (a b : ℕ) → b ≡ 0 → b ≤ a
      le_zero a b e = omega arith
  add_go true false v w p q h = rounded_nn f (add f x y) (a + b) h (add_val f x y true a false b v w ∙ pick (nat_lt a b) (ltb→lt a b) (nltb→le a b))
    where
      eq_zero : (a b : ℕ) → a ≡ 0 → b ≤ a → a ≡ b
      eq_zero a b e l = omega arith

      eq_sub : (a b : ℕ) → a ≡ 0 → b ≤ a → a - b ≡ a + b
      eq_sub a b e l = omega arith

      pick : (c : Bool) → (T c → a < b) → (T (not c) → b ≤ a) → sum f true a false b (2 ^ low f) ≡ round f false (a + b) (2 ^ low f)
      pick true l g = sum_np_lt f a b (2 ^ low f) (l tt) ∙ ap (λ (z : ℕ). round f false z (2 ^ low f)) (none_sub a b (p tt))
      pick false l g = sum_np_eq f a b (2 ^ low f) (eq_zero a b (p tt) (g tt)) ∙ ap (λ (z : ℕ). round f false z (2 ^ low f)) (eq_sub a b (p tt) (g tt))

  pub add_nn : NonNeg f x a → NonNeg f y b → R f (a + b) < overflow f → NonNeg f (add f x y) (R f (a + b))
  add_nn h k o = add_go h.sign k.sign h.val k.val h.none k.none o

  -- ---- the difference x - y: not below zero where y ≤ x, and -(y - x) where x < y
  sub_go : (s t : Bool) → Val f x s a → Val f y t b → (T s → a ≡ 0) → (T t → b ≡ 0) → b ≤ a → R f (a - b) < overflow f → NonNeg f (sub f x y) (R f (a - b))
  sub_go false false v w p q l h = rounded_nn f (sub f x y) (a - b) h (sub_val f x y false a false b v w ∙ sum_pn_ge f a b (2 ^ low f) l)
  sub_go false true v w p q l h =
      rounded_nn f (sub f x y) (a - b) h
      (sub_val f x y false a true b v w ∙ sum_same f a b (2 ^ low f) false ∙ ap (λ (z : ℕ). round f false z (2 ^ low f)) (sym (same_sum a b (q tt))))
  sub_go true false v w p q l h =
      rounded_zero f (sub f x y) (a - b) (gone a b (p tt)) h
      (sub_val f x y true a false b v w ∙ sum_same f a b (2 ^ low f) true ∙
      ap (λ (z : ℕ). round f true z (2 ^ low f)) (sym (same_sum a b (none_too a b (p tt) l))))
    where
      gone : (a b : ℕ) → a ≡ 0 → a - b ≡ 0
      gone a b e = omega arith

      none_too : (a b : ℕ) → a ≡ 0 → b ≤ a → b ≡ 0
      none_too a b e l = omega arith
  sub_go true true v w p q l h = rounded_nn f (sub f x y) (a - b) h (sub_val f x y true a true b v w ∙ sum_np_eq f a b (2 ^ low f) (p tt ∙ sym (q tt)))

  pub sub_nn : NonNeg f x a → NonNeg f y b → b ≤ a → R f (a - b) < overflow f → NonNeg f (sub f x y) (R f (a - b))
  sub_nn h k l o = sub_go h.sign k.sign h.val k.val h.none k.none l o

  sub_lt_go : (s t : Bool) → Val f x s a → Val f y t b → (T s → a ≡ 0) → (T t → b ≡ 0) → a < b → R f (b - a) < overflow f → Val f (sub f x y) true (R f (b - a))
  sub_lt_go false false v w p q l h = rounded f (sub f x y) true (b - a) h (sub_val f x y false a false b v w ∙ sum_pn_lt f a b (2 ^ low f) l)
  sub_lt_go true false v w p q l h =
      rounded f (sub f x y) true (b - a) h (sub_val f x y true a false b v w ∙ sum_same f a b (2 ^ low f) true ∙
      ap (λ (z : ℕ). round f true z (2 ^ low f)) (sym (none_sub a b (p tt))))
  sub_lt_go false true v w p q l h = absurd (not_below_zero a b (q tt) l)
  sub_lt_go true true v w p q l h = absurd (not_below_zero a b (q tt) l)

  pub sub_neg : NonNeg f x a → NonNeg f y b → a < b → R f (b - a) < overflow f → Val f (sub f x y) true (R f (b - a))
  sub_neg h k l o = sub_lt_go h.sign k.sign h.val k.val h.none k.none l o
