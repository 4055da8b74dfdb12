-- How the code finds a difference of two angles without `%`: within one turn of 0 the remainder by PI is one addition or none. Assumes nothing.
use Rattle.std.specs.Prelude.{◌≡◌, refl, Bool, true, false, not, ◌&&◌, ◌||◌, cond, ℕ, zero, suc, ◌+◌, ◌-◌, ◌%◌, ◌^◌, ◌≤◌, ◌<◌, T, leb, ltb, eqb, Float}
use Rattle.std.proofs.Common.{sym, ap, ◌∙◌, subst, inl, inr, le_of_lt, le_of_suc-le-suc, eq-or-lt_of_le, mod-eq_of_lt, add-sub_of_le, arith}
use Rattle.std.proofs.Common.{le→leb, ltb→lt, nltb→le, lit<, ltb-true, le-ltb, lt-ltb, ne_eqb}
use Rattle.std.specs.Bool.{beq}
use Rattle.std.proofs.lemmas.Bool.{false≢true}
use Rattle.std.proofs.Math.Nat.{add-mod_left}
use Rattle.std.specs.Float.{nan, inf, fin, binary32}
use Rattle.std.specs.Float.Ieee.{low, below, level, round, add, sub, neg, rem, lt, le, eq, fits, of_bits}
use Rattle.std.specs.Float.Ieee.Fits.{add-fits, sub-fits, neg-fits}
use Rattle.std.specs.Float.Ieee.Bits.{is_true}
use Rattle.std.specs.Float.Ieee.Scale.{overflow, finite}
use Rattle.floats.specs.Ops.{◌⊕◌, ◌⊖◌, nought, pi, tau, half_pi}
use Rattle.floats.specs.Library.{rem_euclid}
use Rattle.floats.specs.UnitLaws.{Val, lt_val, le_val, add_val, sub_val, neg_val}
use Rattle.floats.specs.RoundingLaws.{R, Rep, counted, R-exact, rep_mod}
use Rattle.floats.specs.NonNegLaws.{plus_nn, le_is, rounded, sum_pn_ge, sum_np_gt}
use Rattle.floats.specs.RemLaws.{P, W, pi_val, tau_val, pi_rep, pi_nn}
use Rattle.remainders.specs.RemainderLaws.{same_val, rem_is}
use Rattle.geometry.specs.Geometry.{signed_line_delta}
use Rattle.loops.specs.Loops.{tab}
use Rattle.floats.specs.Rows.{Row, at}

-- ---- the code's steps, for x = a - b + PI/2: whether it lies between -TAU and TAU, PI less or more, and the difference itself
unfoldable pub far_count : Float → ℕ
far_count x = cond (lt (neg tau) x) (cond (lt x tau) 0 1) 1

unfoldable pub less_pi : Float → Float
less_pi x = cond (le pi x) (x ⊖ pi) (cond (le x (neg pi)) (x ⊕ pi) x)

unfoldable pub raised_pi : Float → Float
raised_pi r = cond (lt r nought) (r ⊕ pi) r

unfoldable pub near_delta : Float → Float
near_delta x = raised_pi (less_pi x) ⊖ half_pi

-- a pixel's term, by the near difference and by the difference of any size; and the terms of n pixels
abbrev pub near_term : (Float → Float → Float) → Row → Row → Float → ℕ → Float
near_term g angles weights theta p = g (at weights p) (near_delta (at angles p ⊖ theta ⊕ half_pi))

abbrev pub far_term : (Float → Float → Float) → Row → Row → Float → ℕ → Float
far_term g angles weights theta p = g (at weights p) (signed_line_delta (at angles p) theta)

abbrev pub near_terms : (Float → Float → Float) → ℕ → Row → Row → Float → Row
near_terms g n angles weights theta = tab (near_term g angles weights theta) n

abbrev pub far_terms : (Float → Float → Float) → ℕ → Row → Row → Float → Row
far_terms g n angles weights theta = tab (far_term g angles weights theta) n

-- every difference lies between -TAU and TAU
pub record AllNear (n : ℕ) (angles : Row) (theta : Float) : Type 0 where
  pub near : (p : ℕ) → p < n → far_count (at angles p ⊖ theta ⊕ half_pi) ≡ 0

-- ---- what is near: finite, and below TAU in size
abbrev counts : Bool → Bool → ℕ
counts b c = cond b (cond c 0 1) 1

one_no : suc zero ≡ zero → ⊥
one_no e = omega arith

near_test : (b c : Bool) → counts b c ≡ 0 → (b ≡ true) × (c ≡ true)
near_test true true e = (refl, refl)
near_test true false e = absurd (one_no e)
near_test false c e = absurd (one_no e)

near_tests : (x : Float) → far_count x ≡ 0 → (lt (neg tau) x ≡ true) × (lt x tau ≡ true)
unfolding far_count
near_tests x e = near_test (lt (neg tau) x) (lt x tau) e

near_finite : (x : Float) → lt (neg tau) x ≡ true → lt x tau ≡ true → T (finite x)
unfolding lt neg of_bits
near_finite nan l h = absurd (false≢true h)
near_finite (inf true) l h = absurd (false≢true l)
near_finite (inf false) l h = absurd (false≢true h)
near_finite (fin s m e) l h = tt

near_size : (x : Float) (s : Bool) (a : ℕ) → Val binary32 x s a → lt (neg tau) x ≡ true → lt x tau ≡ true → a < W
near_size x false a v l h = ltb-true a W (sym (lt_val binary32 x tau false a false W v tau_val) ∙ h)
near_size x true a v l h = ltb-true a W (sym (lt_val binary32 (neg tau) x true W true a (neg_val binary32 tau false W tau_val) v) ∙ l)

-- ---- the tests of `less_pi`, by sign and size
less_above : (x : Float) (a : ℕ) → Val binary32 x false a → Rep binary32 a → P ≤ a → less_pi x ≡ x ⊖ pi
unfolding less_pi
less_above x a v r h =
    ap (λ (z : Bool). cond z (x ⊖ pi) (cond (le x (neg pi)) (x ⊕ pi) x))
    (le_is binary32 pi x P a pi_nn (plus_nn binary32 x a v r) ∙ is_true (leb P a) (le→leb P a h))

and_false : (b : Bool) → (b && false) ≡ false
and_false true = refl
and_false false = refl

or_false : (b c : Bool) → b ≡ false → c ≡ false → (b || c) ≡ false
or_false b c e h = ap (λ (z : Bool). z || c) e ∙ h

less_no : (D a : ℕ) → a < D → D ≡ a → ⊥
less_no D a h e = omega arith

less_no' : (D a : ℕ) → a < D → a ≡ D → ⊥
less_no' D a h e = omega arith

-- below D in size: neither test passes
under_over : (D : ℕ) (s : Bool) (a : ℕ) → a < D → (below false D s a || level false D s a) ≡ false
under_over D s a h =
    or_false (below false D s a) (level false D s a) (go s) (ap (λ (z : Bool). z && (beq false s || eqb D 0)) (ne_eqb D a (less_no D a h)))
  where
    go : (s : Bool) → below false D s a ≡ false
    go false = le-ltb D a (le_of_lt h)
    go true = refl

under_under : (D : ℕ) (s : Bool) (a : ℕ) → a < D → (below s a true D || level s a true D) ≡ false
under_under D s a h =
    or_false (below s a true D) (level s a true D) (go s) (ap (λ (z : Bool). z && (beq s true || eqb a 0)) (ne_eqb a D (less_no' D a h)))
  where
    go : (s : Bool) → below s a true D ≡ false
    go false = refl
    go true = le-ltb D a (le_of_lt h)

less_within : (x : Float) (s : Bool) (a : ℕ) → Val binary32 x s a → a < P → less_pi x ≡ x
unfolding less_pi
less_within x s a v h =
    ap (λ (z : Bool). cond z (x ⊖ pi) (cond (le x (neg pi)) (x ⊕ pi) x)) (le_val binary32 pi x false P s a pi_val v ∙ under_over P s a h)
    ∙ ap (λ (z : Bool). cond z (x ⊕ pi) x) (le_val binary32 x (neg pi) s a true P v (neg_val binary32 pi false P pi_val) ∙ under_under P s a h)

less_below : (x : Float) (a : ℕ) → Val binary32 x true a → P < a → less_pi x ≡ x ⊕ pi
unfolding less_pi
less_below x a v h =
    ap (λ (z : Bool). cond z (x ⊖ pi) (cond (le x (neg pi)) (x ⊕ pi) x)) (le_val binary32 pi x false P true a pi_val v ∙ and_false (eqb P a))
    ∙ ap (λ (z : Bool). cond z (x ⊕ pi) x)
    (le_val binary32 x (neg pi) true a true P v (neg_val binary32 pi false P pi_val) ∙ ap (λ (z : Bool). z || level true a true P) (lt-ltb P a h))

-- ---- between D and 2 D the remainder is D less
mod_once : (a D : ℕ) → D ≤ a → a < D + D → a % D ≡ a - D
mod_once a D h l = ap (λ (z : ℕ). z % D) (sym (add-sub_of_le h)) ∙ add-mod_left D (a - D) ∙ mod-eq_of_lt (rest a D h l)
  where
    rest : (a D : ℕ) → D ≤ a → a < D + D → a - D < D
    rest a D h l = omega arith

-- and the format holds it
module _ (y : Float) (s : Bool) (a : ℕ) (r : Rep binary32 a) (h : P ≤ a) (l : a < W) where
  once : a % P ≡ a - P
  once = mod_once a P h l

  held : R binary32 (a - P) ≡ a % P
  held = ap (R binary32) (sym once) ∙ R-exact binary32 (a % P) (rep_mod binary32 a P (lit< tt) r pi_rep)

  exact : y ≡ round binary32 s (a - P) (2 ^ low binary32) → Val binary32 y s (a % P)
  exact e =
      subst (λ (z : ℕ). Val binary32 y s z) held
      (rounded binary32 y s (a - P) (subst (λ (z : ℕ). z < overflow binary32) (sym held) (rep_mod binary32 a P (lit< tt) r pi_rep).4) e)

-- ---- the difference: from the remainder, or at -PI, where the remainder is -0 and the sum +0, by the numbers themselves
by_rem : (x : Float) → less_pi x ≡ rem binary32 x pi → rem_euclid binary32 x pi ⊖ half_pi ≡ near_delta x
unfolding near_delta raised_pi rem_euclid
by_rem x e = ap (λ (z : Float). cond (lt z nought) (z ⊕ pi) z ⊖ half_pi) (sym e)

at_minus_pi : rem_euclid binary32 (neg pi) pi ⊖ half_pi ≡ near_delta (neg pi)
unfolding near_delta raised_pi less_pi rem_euclid rem add sub le lt eq neg of_bits
at_minus_pi = refl

module _ (x : Float) (p : T (fits binary32 x)) (a : ℕ) (r : Rep binary32 a) (l : a < W) where
  is_rem : (s : Bool) → Val binary32 x s a → (y : Float) → T (fits binary32 y) → Val binary32 y s (a % P) → y ≡ rem binary32 x pi
  is_rem s v y q w = rem_is binary32 x pi s a P (lit< tt) p v pi_val pi_rep y q w

  inside : (s : Bool) → Val binary32 x s a → a < P → rem_euclid binary32 x pi ⊖ half_pi ≡ near_delta x
  inside s v h = by_rem x (less_within x s a v h ∙ is_rem s v x p (subst (λ (z : ℕ). Val binary32 x s z) (sym (mod-eq_of_lt h)) v))

  outside : (s : Bool) → Val binary32 x s a → P ≤ a → rem_euclid binary32 x pi ⊖ half_pi ≡ near_delta x
  outside false v h =
      by_rem x
      (less_above x a v r h
      ∙ is_rem false v (x ⊖ pi) (sub-fits binary32 x pi)
      (exact (x ⊖ pi) false a r h l (sub_val binary32 x pi false a false P v pi_val ∙ sum_pn_ge binary32 a P (2 ^ low binary32) h)))
  outside true v h = elim (eq-or-lt_of_le h) [
    | inl e ↦
        subst (λ (z : Float). rem_euclid binary32 z pi ⊖ half_pi ≡ near_delta z)
        (same_val binary32 (neg pi) x true P (neg-fits binary32 pi (pi_fits)) p (neg_val binary32 pi false P pi_val)
        (subst (λ (z : ℕ). Val binary32 x true z) (sym e) v)) at_minus_pi
    | inr g ↦
        by_rem x
        (less_below x a v g
        ∙ is_rem true v (x ⊕ pi) (add-fits binary32 x pi)
        (exact (x ⊕ pi) true a r h l (add_val binary32 x pi true a false P v pi_val ∙ sum_np_gt binary32 a P (2 ^ low binary32) g)))
  ]
    where
      pi_fits : T (fits binary32 pi)
      pi_fits = unfold fits of_bits in tt

near_is : (x : Float) → T (fits binary32 x) → far_count x ≡ 0 → rem_euclid binary32 x pi ⊖ half_pi ≡ near_delta x
near_is x p e =
    let t = near_tests x e in
    let c = counted binary32 x p (near_finite x t.0 t.1) in
    let a = c.count in
    let l = near_size x c.sign a c.val t.0 t.1 in
    go c.sign a c.val c.rep l (ltb a P) (ltb→lt a P) (nltb→le a P)
  where
    go :
        (s : Bool) (a : ℕ) → Val binary32 x s a → Rep binary32 a → a < W → (b : Bool) → (T b → a < P) → (T (not b) → P ≤ a) →
        rem_euclid binary32 x pi ⊖ half_pi ≡ near_delta x
    go s a v r l true u w = inside x p a r l s v (u tt)
    go s a v r l false u w = outside x p a r l s v (w tt)

pub near_delta_lem : (a theta : Float) → far_count (a ⊖ theta ⊕ half_pi) ≡ 0 → signed_line_delta a theta ≡ near_delta (a ⊖ theta ⊕ half_pi)
unfolding signed_line_delta
near_delta_lem a theta e = near_is (a ⊖ theta ⊕ half_pi) (add-fits binary32 (a ⊖ theta) half_pi) e

-- ---- the count of what is far
pub far_most : (x : Float) (r : ℕ) → r ≡ far_count x → r ≤ 1
unfolding far_count
far_most x r e = subst (λ (z : ℕ). z ≤ 1) (sym e) (go (lt (neg tau) x) (lt x tau))
  where
    go : (b c : Bool) → counts b c ≤ 1
    go true true = omega arith
    go true false = omega arith
    go false c = omega arith

-- a turn more: where the sum is 0 both its parts are
pub all_near_next :
    (k : ℕ) (angles : Row) (theta : Float) (n r : ℕ) → (n ≡ 0 → AllNear k angles theta) →
    r ≡ far_count (at angles k ⊖ theta ⊕ half_pi) → n + r ≡ 0 → AllNear (k + 1) angles theta
all_near_next k angles theta n r h e z = record {
  near = λ p l. elim (eq-or-lt_of_le (le_of_suc-le-suc (below_next p k l))) [
    | inl i ↦ subst (λ (z : ℕ). far_count (at angles z ⊖ theta ⊕ half_pi) ≡ 0) (sym i) (sym e ∙ right n r z)
    | inr g ↦ (h (left n r z)).near p g
  ];
}
  where
    left : (n r : ℕ) → n + r ≡ 0 → n ≡ 0
    left n r z = omega arith

    right : (n r : ℕ) → n + r ≡ 0 → r ≡ 0
    right n r z = omega arith

    below_next : (p k : ℕ) → p < k + 1 → suc p ≤ suc k
    below_next p k l = omega arith
