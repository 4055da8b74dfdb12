-- `%` and `rem_euclid` on whole numbers of units: `%` is exact, and `rem_euclid` by a divisor above zero lies from 0 to the divisor, which itself can
-- come out where the dividend is below zero.
-- Stated once over the format and the divisor, and then for PI and TAU. Assumes nothing.
use Rattle.std.specs.Prelude.{◌≡◌, ℕ, ◌+◌, ◌-◌, ◌*◌, ◌%◌, ◌^◌, ◌<◌, ◌≤◌, Bool, true, false, cond, not, T, pos, negsuc, Float}
use Rattle.std.proofs.Math.Path.{refl, ap}
use Rattle.std.proofs.Common.{sym, ◌∙◌, subst, inl, inr, zero-le, le_of_eq, le_of_lt, zero-mul, mod-lt, eq-zero-or-pos, sub-le, lit<, le-ltb, lt-ltb}
use Rattle.std.proofs.Math.Nat.{zero-mod}
use Rattle.std.specs.Float.{nan, inf, fin, Format, binary32}
use Rattle.std.specs.Float.Ieee.{low, add, rem, lt, le, below, fits, of_bits}
use Rattle.std.specs.Float.Ieee.Scale.{overflow, finite}
use Rattle.floats.specs.Ops.{nought, pi, tau}
use Rattle.floats.specs.Library.{rem_euclid}
use Rattle.floats.specs.UnitLaws.{Val, lt_val, add_val, rem_val, pos_plus}
use Rattle.floats.specs.RoundingLaws.{R, Rep, counted, R-exact, R-upper, rep_mod, rep_zero}
use Rattle.floats.specs.NonNegLaws.{NonNeg, rounded, rounded_nn, plus_nn, zero_nn, le_of, sum_np_lt}

module _ (f : Format) (x d : Float) (a D : ℕ) (P : 0 < D) (w : Val f d false D) (r : Rep f D) where
  -- `%` is exact: the remainder of the whole numbers, with the dividend's sign
  pub rem_exact : (s : Bool) → Val f x s a → Rep f a → Val f (rem f x d) s (a % D)
  rem_exact s v q =
      let e : R f (a % D) ≡ a % D = R-exact f (a % D) (rep_mod f a D P q r) in
      subst (λ (z : ℕ). Val f (rem f x d) s z) e
      (rounded f (rem f x d) s (a % D) (subst (λ (z : ℕ). z < overflow f) (sym e) (rep_mod f a D P q r).4) (rem_val f x d s a false D P v w))

  sign_test : (s : Bool) → Val f x s a → Rep f a → lt (rem f x d) (fin false 0 (pos 0)) ≡ below s (a % D) false 0
  sign_test s v q = lt_val f (rem f x d) (fin false 0 (pos 0)) s (a % D) false 0 (rem_exact s v q) (refl, zero-mul (2 ^ low f))

  kept : lt (rem f x d) (fin false 0 (pos 0)) ≡ false → rem_euclid f x d ≡ rem f x d
  unfolding rem_euclid of_bits
  kept e = ap (λ (z : Bool). cond z (add f (rem f x d) d) (rem f x d)) e

  moved : lt (rem f x d) (fin false 0 (pos 0)) ≡ true → rem_euclid f x d ≡ add f (rem f x d) d
  unfolding rem_euclid of_bits
  moved e = ap (λ (z : Bool). cond z (add f (rem f x d) d) (rem f x d)) e

  pub rem_euclid_nn : NonNeg f x a → NonNeg f (rem_euclid f x d) (a % D)
  rem_euclid_nn h = go h.sign h.val h.none
    where
      none_mod : a ≡ 0 → a % D ≡ 0
      none_mod e = ap (λ (z : ℕ). z % D) e ∙ zero-mod D

      out : (s : Bool) → Val f x s a → (T s → a ≡ 0) → below s (a % D) false 0 ≡ false → NonNeg f (rem_euclid f x d) (a % D)
      out s v n e =
          subst (λ (z : Float). NonNeg f z (a % D)) (sym (kept (sign_test s v h.rep ∙ e)))
          (record { sign = s; val = rem_exact s v h.rep; none = λ t. none_mod (n t); rep = rep_mod f a D P h.rep r })

      go : (s : Bool) → Val f x s a → (T s → a ≡ 0) → NonNeg f (rem_euclid f x d) (a % D)
      go false v n = out false v n (le-ltb (a % D) 0 zero-le)
      go true v n = out true v n (le-ltb 0 (a % D + 0) (le_of_eq (ap (λ (z : ℕ). z + 0) (none_mod (n tt)))))

  pub rem_euclid_zero : Val f x true a → Rep f a → a % D ≡ 0 → NonNeg f (rem_euclid f x d) 0
  rem_euclid_zero v q e =
      subst (λ (z : Float). NonNeg f z 0) (sym (kept (sign_test true v q ∙ le-ltb 0 (a % D + 0) (le_of_eq (ap (λ (z : ℕ). z + 0) e)))))
      (record { sign = true; val = subst (λ (z : ℕ). Val f (rem f x d) true z) e (rem_exact true v q); none = λ t. refl; rep = rep_zero f })

  pub rem_euclid_neg : Val f x true a → Rep f a → 0 < a % D → NonNeg f (rem_euclid f x d) (R f (D - a % D))
  rem_euclid_neg v q p =
      let u = R-upper f (D - a % D) D r (sub-le D (a % D)) in
      subst (λ (z : Float). NonNeg f z (R f (D - a % D))) (sym (moved (sign_test true v q ∙ lt-ltb 0 (a % D + 0) (pos_plus (a % D) 0 p))))
      (rounded_nn f (add f (rem f x d) d) (D - a % D) u.0
      (add_val f (rem f x d) d true (a % D) false D (rem_exact true v q) w ∙ sum_np_lt f (a % D) D (2 ^ low f) (mod-lt a P)))

  -- whatever the sign: from 0 up to the divisor
  pub rem_euclid_range : (s : Bool) → Val f x s a → Rep f a → (c : ℕ) × NonNeg f (rem_euclid f x d) c × (c ≤ D)
  rem_euclid_range false v q = (a % D, rem_euclid_nn (plus_nn f x a v q), le_of_lt (mod-lt a P))
  rem_euclid_range true v q = elim (eq-zero-or-pos (a % D)) [
    | inl e ↦ (0, rem_euclid_zero v q e, le_of_lt P)
    | inr p ↦ (R f (D - a % D), rem_euclid_neg v q p, (R-upper f (D - a % D) D r (sub-le D (a % D))).1)
  ]

-- of what is not finite it is not finite
pub rem_euclid_wild : (f : Format) (x d : Float) → T (not (finite x)) → rem_euclid f x d ≡ nan
unfolding rem_euclid rem of_bits
rem_euclid_wild f nan d t = unfold lt in refl
rem_euclid_wild f (inf s) d t = unfold lt in refl
rem_euclid_wild f (fin s m e) d t = absurd t

-- ---- PI and TAU in units of 2 ^ -149
abbrev pub P : ℕ
P = 13176795 * 2 ^ 127

abbrev pub W : ℕ
W = 13176795 * 2 ^ 128

pi_is : pi ≡ fin false 13176795 (negsuc 21)
unfolding of_bits
pi_is = refl

tau_is : tau ≡ fin false 13176795 (negsuc 20)
unfolding of_bits
tau_is = refl

pub nought_is : nought ≡ fin false 0 (pos 0)
unfolding of_bits
nought_is = refl

pub pi_val : Val binary32 pi false P
pi_val = subst (λ (z : Float). Val binary32 z false P) (sym pi_is) (refl, refl)

pub tau_val : Val binary32 tau false W
tau_val = subst (λ (z : Float). Val binary32 z false W) (sym tau_is) (refl, refl)

pub pi_rep : Rep binary32 P
pi_rep = (13176795, 127, lit< tt, refl, lit< tt)

pub tau_rep : Rep binary32 W
tau_rep = (13176795, 128, lit< tt, refl, lit< tt)

pub pi_nn : NonNeg binary32 pi P
pi_nn = plus_nn binary32 pi P pi_val pi_rep

pub tau_nn : NonNeg binary32 tau W
tau_nn = plus_nn binary32 tau W tau_val tau_rep

pub nought_val : Val binary32 nought false 0
unfolding of_bits
nought_val = (refl, refl)

pub nought_nn : NonNeg binary32 nought 0
nought_nn = subst (λ (z : Float). NonNeg binary32 z 0) (sym nought_is) (zero_nn binary32)

-- a divisor of D units, above zero
module _ (d : Float) (D : ℕ) (P : 0 < D) (w : Val binary32 d false D) (r : Rep binary32 D) where
  -- from 0 up to the divisor, both included
  pub rem_between : (x : Float) → T (fits binary32 x) → T (finite x) → T (le nought (rem_euclid binary32 x d)) × T (le (rem_euclid binary32 x d) d)
  rem_between x p t =
      let q = counted binary32 x p t in
      let s = rem_euclid_range binary32 x d q.count D P w r q.sign q.val q.rep in (
        le_of binary32 nought (rem_euclid binary32 x d) 0 s.0 nought_nn s.1 zero-le,
        le_of binary32 (rem_euclid binary32 x d) d s.0 D s.1 (plus_nn binary32 d D w r) s.2,
      )

pub rem_pi : (x : Float) → T (fits binary32 x) → T (finite x) → T (le nought (rem_euclid binary32 x pi)) × T (le (rem_euclid binary32 x pi) pi)
rem_pi = rem_between pi P (lit< tt) pi_val pi_rep

pub rem_tau : (x : Float) → T (fits binary32 x) → T (finite x) → T (le nought (rem_euclid binary32 x tau)) × T (le (rem_euclid binary32 x tau) tau)
rem_tau = rem_between tau W (lit< tt) tau_val tau_rep
