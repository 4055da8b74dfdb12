-- The range of the canonical axes, for every pair of f32 angles and every amplitude, NaN and the infinities included.
-- In units of 2 ^ -149, PI is 13176795 * 2 ^ 127 and TAU twice that; each step is a sum or a remainder of whole numbers and one rounding. Assumes nothing.
use Rattle.std.specs.Prelude.{◌≡◌, refl, ℕ, ◌+◌, ◌-◌, ◌*◌, ◌%◌, ◌^◌, ◌≤◌, ◌<◌, true, false, not, ◌||◌, leb}
use Rattle.std.proofs.Common.{sym, ◌∙◌, subst, inl, inr, zero-le, le_trans, le_of_eq, le_of_lt, lt_of_lt_of_le, lt_of_le_of_lt, not-le_of_lt, sub-le}
use Rattle.std.proofs.Common.{lt_of_not-le, mod-lt, eq-zero-or-pos, eq-or-lt_of_le, le_of_suc-le-suc, add-le-add, le-add_right, mul_comm}
use Rattle.std.proofs.Common.{mul-le-mul_right, le_of_mul-le-mul_right, lt_of_mul-lt-mul_right, arith, lit≤, lit<, le-ltb, lt-ltb}
use Rattle.std.proofs.Math.Path.{ap}
use Rattle.std.proofs.Math.Nat.{zero-mod, mul-sub, sub-le-sub_left, sub_self}
use Rattle.std.proofs.Math.Bool.{Bool, cond}
use Rattle.std.proofs.Math.Dec.{T, leb→le, nleb→lt}
use lib.Ieee.{Float, nan, inf, fin, binary32, neg, lt, le, eq, fits, of_bits, is_nan}
use Rattle.std.specs.Float.Ieee.Fits.{add-fits}
use Rattle.std.specs.Float.Ieee.Scale.{overflow, finite}
use Rattle.floats.specs.Ops.{◌⊕◌, ◌⊖◌, nought, pi, tau}
use Rattle.floats.specs.Library.{rem_euclid}
use Rattle.floats.specs.UnitLaws.{Val, lt_val, neg_val, pos_plus}
use Rattle.floats.specs.RoundingLaws.{R, Rep, counted, R-exact, R-mono, R-upper, R-lower, R-zero, R-rep, rep_step, rep_mod}
use Rattle.floats.specs.NonNegLaws.{NonNeg, or_r, plus_nn, lt_is, le_is, lt_of, le_of, add_nn, sub_nn, sub_neg}
use Rattle.floats.specs.RemLaws.{P, W, pi_val, tau_val, pi_rep, tau_rep, pi_nn, tau_nn, nought_val, nought_nn}
use Rattle.floats.specs.RemLaws.{rem_euclid_nn, rem_euclid_neg, rem_euclid_zero, rem_euclid_range, rem_euclid_wild}
use Rattle.solver_axes.specs.declared.Axes.{Axes}
use Rattle.solver_axes.specs.Canonical.{wrap_to_tau, arc, placed, axes_settled, canonicalize_tracking_swap, WrappedTau, CanonicalRange}

-- ---- wrapping
abbrev Wrapped : Float → Type 0
Wrapped x = (c : ℕ) × NonNeg binary32 (wrap_to_tau x) c × (c ≤ W)

wrap_go : (x : Float) (b : Bool) → T (fits binary32 x) → (T b → T (finite x)) → (T (not b) → T (not (finite x))) → Wrapped x
unfolding wrap_to_tau
wrap_go x true p h n =
    let q = counted binary32 x p (h tt) in
    let r = rem_euclid_range binary32 x tau q.count W (lit< tt) tau_val tau_rep q.sign q.val q.rep in
    let y = rem_euclid binary32 x tau in
    (r.0, subst (λ (b : Bool). NonNeg binary32 (cond b y nought) r.0) (sym (fine y r.0 r.1)) r.1, r.2)
  where
    fine : (z : Float) (c : ℕ) → NonNeg binary32 z c → finite z ≡ true
    fine nan c v = absurd v.val
    fine (inf s) c v = absurd v.val
    fine (fin s m e) c v = refl
wrap_go x false p h n =
    (0, subst (λ (z : Float). NonNeg binary32 (cond (finite z) z nought) 0) (sym (rem_euclid_wild binary32 x tau (n tt))) nought_nn, zero-le)

wrap_range : (x : Float) → T (fits binary32 x) → Wrapped x
wrap_range x p = wrap_go x (finite x) p (λ t. t) (λ t. t)

pub wrap_to_tau_range : (x : Float) → T (fits binary32 x) → WrappedTau x (wrap_to_tau x)
wrap_to_tau_range x p =
    let r = wrap_range x p in
    record {
      low = le_of binary32 nought (wrap_to_tau x) 0 r.0 nought_nn r.1 zero-le;
      high = le_of binary32 (wrap_to_tau x) tau r.0 W r.1 tau_nn r.2;
      wild = λ t. unfold wrap_to_tau in ap (λ (z : Float). cond (finite z) z nought) (rem_euclid_wild binary32 x tau t);
    }

-- ---- the arc from one wrapped axis to another
-- a difference of two wrapped angles rounds to at most TAU
within : (a b : ℕ) → b ≤ W → (R binary32 (b - a) < overflow binary32) × (R binary32 (b - a) ≤ W)
within a b h = R-upper binary32 (b - a) W tau_rep (le_trans (sub-le b a) h)

module _ (x y : Float) (a b : ℕ) (h : NonNeg binary32 x a) (g : NonNeg binary32 y b) where
  turn_up : a ≤ b → b ≤ W → NonNeg binary32 (arc x y) (R binary32 (b - a) % W)
  unfolding arc
  turn_up l u = rem_euclid_nn binary32 (y ⊖ x) tau (R binary32 (b - a)) W (lit< tt) tau_val tau_rep (sub_nn binary32 y x b a g h l (within a b u).0)

  turn_none : b < a → a ≤ W → R binary32 (a - b) % W ≡ 0 → NonNeg binary32 (arc x y) 0
  unfolding arc
  turn_none l u e =
      let z = (within b a u).0 in
      let v = sub_neg binary32 y x b a g h l z in
      rem_euclid_zero binary32 (y ⊖ x) tau (R binary32 (a - b)) W (lit< tt) tau_val tau_rep v (R-rep binary32 (a - b) z) e

  turn_down : b < a → a ≤ W → 0 < R binary32 (a - b) % W → NonNeg binary32 (arc x y) (R binary32 (W - R binary32 (a - b) % W))
  unfolding arc
  turn_down l u e =
      let z = (within b a u).0 in
      let v = sub_neg binary32 y x b a g h l z in
      rem_euclid_neg binary32 (y ⊖ x) tau (R binary32 (a - b)) W (lit< tt) tau_val tau_rep v (R-rep binary32 (a - b) z) e

-- ---- the whole numbers of it
-- e units, a value the format holds, above PI and below TAU: TAU - e is held too, so the difference is exact, and below PI
-- (`omega` takes no number of more than 38 digits, so 2 ^ 127 is divided out first)
rest : (e m : ℕ) → e ≡ m * 2 ^ 127 → W - e ≡ (26353590 - m) * 2 ^ 127
rest e m h = ap (λ (z : ℕ). 26353590 * 2 ^ 127 - z) (h ∙ mul_comm m (2 ^ 127)) ∙ sym (mul-sub (2 ^ 127) 26353590 m) ∙ mul_comm (2 ^ 127) (26353590 - m)

above : (e m : ℕ) → e ≡ m * 2 ^ 127 → P < e → 13176795 < m
above e m h l = lt_of_mul-lt-mul_right (2 ^ 127) (subst (λ (z : ℕ). P < z) h l)

few : (m : ℕ) → 13176795 < m → 26353590 - m < 2 ^ 24
few m h = omega arith

clash : (m : ℕ) → 13176795 < m → 13176795 ≤ 26353590 - m → ⊥
clash m h l = omega arith

short : (e : ℕ) → Rep binary32 e → P < e → P ≤ R binary32 (W - e) → ⊥
short e r lo c =
    let s = rep_step binary32 127 e r (le_trans (lit≤ tt) (le_of_lt lo)) in
    let m : ℕ = s.0 in
    let big : 13176795 < m = above e m s.1 lo in
    let d : W - e ≡ (26353590 - m) * 2 ^ 127 = rest e m s.1 in
    let held : Rep binary32 (W - e) = (26353590 - m, 127, few m big, d, lt_of_le_of_lt (sub-le W e) (lit< tt)) in
    clash m big (le_of_mul-le-mul_right (subst (λ (z : ℕ). P ≤ z) (R-exact binary32 (W - e) held ∙ d) c) (lit< {m = 0} {n = 2 ^ 127} tt))

-- below PI the format's next value down is one unit of 2 ^ 127 away
next_down : (n : ℕ) → Rep binary32 n → n < P → n ≤ 13176794 * 2 ^ 127
next_down n r h = go (leb (2 ^ 150) n) (leb→le (2 ^ 150) n) (nleb→lt (2 ^ 150) n)
  where
    step : (m : ℕ) → n ≡ m * 2 ^ 127 → n ≤ 13176794 * 2 ^ 127
    step m e =
        let l = lt_of_mul-lt-mul_right (2 ^ 127) {m = m} {n = 13176795} (subst (λ (z : ℕ). z < P) e h) in
        le_trans (le_of_eq e) (mul-le-mul_right (2 ^ 127) (le_of_suc-le-suc l))

    go : (b : Bool) → (T b → 2 ^ 150 ≤ n) → (T (not b) → n < 2 ^ 150) → n ≤ 13176794 * 2 ^ 127
    go true u v = let s = rep_step binary32 127 n r (u tt) in step s.0 s.1
    go false u v = le_trans (le_of_lt (v tt)) (lit≤ tt)

-- the largest sum, a tie that goes to the even neighbour
tie : R binary32 (26353589 * 2 ^ 127) ≡ 13176794 * 2 ^ 128
unfolding R lib.Ieee.size
tie = refl

-- ---- after the exchange the arc is at most PI
record Turned (x y : Float) : Type 0 where
  c : ℕ
  here : NonNeg binary32 (arc x y) c
  back : P ≤ c → (d : ℕ) × NonNeg binary32 (arc y x) d × (d ≤ P)

gap : (c : ℕ) → P ≤ c → W - c ≤ P
gap c h = le_trans (sub-le-sub_left h W) (lit≤ tt)

turned : (x y : Float) (a b : ℕ) → NonNeg binary32 x a → a ≤ W → NonNeg binary32 y b → b ≤ W → Turned x y
turned x y a b h A g B = go (leb a b) (leb→le a b) (nleb→lt a b)
  where
    no : {n : ℕ} → n ≡ 0 → P ≤ n → ⊥
    no e l = not-le_of_lt (lit< {m = 0} {n = P} tt) (subst (λ (z : ℕ). P ≤ z) e l)

    nothing : a ≡ b → b - a ≡ 0
    nothing e = ap (λ (z : ℕ). b - z) e ∙ sub_self b

    -- y is above x: the way back is TAU less the arc
    flip : a ≤ b → P ≤ R binary32 (b - a) % W → (d : ℕ) × NonNeg binary32 (arc y x) d × (d ≤ P)
    flip l p = elim (eq-or-lt_of_le l) [
      | inl e ↦ absurd (no (ap (λ (z : ℕ). R binary32 z % W) (nothing e) ∙ ap (λ (z : ℕ). z % W) (R-zero binary32) ∙ zero-mod W) p)
      | inr u ↦ (
        R binary32 (W - R binary32 (b - a) % W),
        turn_down y x b a g h u B (lt_of_lt_of_le (lit< tt) p),
        (R-upper binary32 (W - R binary32 (b - a) % W) P pi_rep (gap (R binary32 (b - a) % W) p)).1,
      )
    ]

    -- y is below x: the way back is what TAU was less
    down : b < a → Turned x y
    down l =
        let e = R binary32 (a - b) % W in
        let held : Rep binary32 e = rep_mod binary32 (R binary32 (a - b)) W (lit< tt) (R-rep binary32 (a - b) (within b a A).0) tau_rep in
        elim (eq-zero-or-pos e) [
          | inl z ↦ record { c = 0; here = turn_none x y a b h g l A z; back = λ p. absurd (no refl p) }
          | inr u ↦ record {
            c = R binary32 (W - e);
            here = turn_down x y a b h g l A u;
            back = λ p. (e, turn_up y x b a g h (le_of_lt l) A, at_most e held p);
          }
        ]
      where
        at_most : (e : ℕ) → Rep binary32 e → P ≤ R binary32 (W - e) → e ≤ P
        at_most e r p = le_of_not_lt e (λ u. short e r u p)
          where
            le_of_not_lt : (e : ℕ) → (P < e → ⊥) → e ≤ P
            le_of_not_lt e n = le_of_suc-le-suc (lt_of_not-le n)

    go : (t : Bool) → (T t → a ≤ b) → (T (not t) → b < a) → Turned x y
    go true u v = record { c = R binary32 (b - a) % W; here = turn_up x y a b h g (u tt) B; back = flip (u tt) }
    go false u v = down (v tt)

-- ---- the amplitude: not below zero, or a NaN
abbrev AmpRange : Float → Type 0
AmpRange a = T (is_nan a || le nought a)

abbrev sized : Bool → Float → Float
sized n a = cond n (neg a) a

amp_kept : (a : Float) (n : ℕ) → NonNeg binary32 a n → AmpRange (sized (lt a nought) a)
amp_kept a n h =
    let e = lt_is binary32 a nought n 0 h nought_nn ∙ le-ltb n 0 zero-le in
    subst (λ (b : Bool). AmpRange (sized b a)) (sym e) (or_r (is_nan a) (le nought a) (le_of binary32 nought a 0 n nought_nn h zero-le))

amp_turned : (a : Float) (n : ℕ) → Val binary32 a true n → Rep binary32 n → 0 < n → AmpRange (sized (lt a nought) a)
amp_turned a n v r p =
    let e = lt_val binary32 a nought true n false 0 v nought_val ∙ lt-ltb 0 (n + 0) (pos_plus n 0 p) in
    let h = plus_nn binary32 (neg a) n (neg_val binary32 a true n v) r in
    subst (λ (b : Bool). AmpRange (sized b a)) (sym e)
    (or_r (is_nan (neg a)) (le nought (neg a)) (le_of binary32 nought (neg a) 0 n nought_nn h zero-le))

amp_counted : (a : Float) (s : Bool) (n : ℕ) → Val binary32 a s n → Rep binary32 n → AmpRange (sized (lt a nought) a)
amp_counted a false n v r = amp_kept a n (plus_nn binary32 a n v r)
amp_counted a true n v r = elim (eq-zero-or-pos n) [
  | inl e ↦ amp_kept a n (record { sign = true; val = v; none = λ t. e; rep = r })
  | inr p ↦ amp_turned a n v r p
]

amp_all : (a : Float) → T (fits binary32 a) → AmpRange (sized (lt a nought) a)
amp_all nan p = unfold is_nan lt of_bits in tt
amp_all (inf true) p = unfold is_nan lt le neg eq of_bits in tt
amp_all (inf false) p = unfold is_nan lt le neg eq of_bits in tt
amp_all (fin s m e) p = let q = counted binary32 (fin s m e) p tt in amp_counted (fin s m e) q.sign q.count q.val q.rep

pub canonical_amp : (t1 t2 a : Float) → T (fits binary32 a) → let r = canonicalize_tracking_swap t1 t2 a in T (is_nan r.amp || le nought r.amp)
unfolding canonicalize_tracking_swap axes_settled placed
canonical_amp t1 t2 a p = amp_all a p

-- ---- the range
abbrev InRange : Axes → Type 0
InRange r = CanonicalRange r.theta1 r.theta2 r.amp

placed_range : (t d a : Float) (w : Bool) (n c : ℕ) → NonNeg binary32 t n → NonNeg binary32 d c → c ≤ P → AmpRange a → InRange (placed t d a w)
unfolding placed
placed_range t d a w n c h g l z =
    let x = rem_euclid binary32 t pi in
    let m = n % P in
    let u : NonNeg binary32 x m = rem_euclid_nn binary32 t pi n P (lit< tt) pi_val pi_rep h in
    let m-lt : m < P = mod-lt n (lit< tt) in
    let top : m + c ≤ 26353589 * 2 ^ 127 = le_trans (add-le-add (next_down m u.rep m-lt) l) (lit≤ tt) in
    let s = R-mono binary32 (m + c) (26353589 * 2 ^ 127) top (lt_of_le_of_lt (le_of_eq tie) (lit< tt)) in
    let v : NonNeg binary32 (x ⊕ d) (R binary32 (m + c)) = add_nn binary32 x d m c u g s.0 in
    let o = R-lower binary32 m (m + c) u.rep (le-add_right m c) s.0 in
    record {
      low = le_of binary32 nought x 0 m nought_nn u zero-le;
      first = lt_of binary32 x pi m P u pi_nn m-lt;
      order = le_of binary32 x (x ⊕ d) m (R binary32 (m + c)) u v o;
      second = lt_of binary32 (x ⊕ d) tau (R binary32 (m + c)) W v tau_nn (lt_of_le_of_lt (le_trans s.1 (le_of_eq tie)) (lit< tt));
      size = z;
    }

module _ (t1 t2 a : Float) (m n : ℕ) (h : NonNeg binary32 t1 m) (M : m ≤ W) (g : NonNeg binary32 t2 n) (N : n ≤ W) (z : AmpRange a) where
  settled_range : InRange (axes_settled t1 t2 a)
  unfolding axes_settled
  settled_range =
      go (le pi (arc t1 t2)) (λ t. leb→le P q.c (subst T is t)) (λ t. nleb→lt P q.c (subst (λ (b : Bool). T (not b)) is t))
    where
      q : Turned t1 t2
      q = turned t1 t2 m n h M g N

      is : le pi (arc t1 t2) ≡ leb P q.c
      is = le_is binary32 pi (arc t1 t2) P q.c pi_nn q.here

      go : (w : Bool) → (T w → P ≤ q.c) → (T (not w) → q.c < P) → InRange (placed (cond w t2 t1) (cond w (arc t2 t1) (arc t1 t2)) a w)
      go true u v = let b = q.back (u tt) in placed_range t2 (arc t2 t1) a true n b.0 g b.1 b.2 z
      go false u v = placed_range t1 (arc t1 t2) a false m q.c h q.here (le_of_lt (v tt)) z

module _ (t1 t2 a : Float) (p : T (fits binary32 t1)) (q : T (fits binary32 t2)) (r : T (fits binary32 a)) where
  pub canonical_range : let r = canonicalize_tracking_swap t1 t2 a in CanonicalRange r.theta1 r.theta2 r.amp
  unfolding canonicalize_tracking_swap
  canonical_range = go (lt a nought) (amp_all a r)
    where
      first : Bool → Float
      first n = cond n (wrap_to_tau (wrap_to_tau t1 ⊕ pi)) (wrap_to_tau t1)

      go : (n : Bool) → AmpRange (cond n (neg a) a) → InRange (axes_settled (first n) (wrap_to_tau t2) (cond n (neg a) a))
      go true z =
          let x = wrap_to_tau t1 ⊕ pi in
          let u = wrap_range x (add-fits binary32 (wrap_to_tau t1) pi) in
          let v = wrap_range t2 q in
          settled_range (wrap_to_tau x) (wrap_to_tau t2) (neg a) u.0 v.0 u.1 u.2 v.1 v.2 z
      go false z =
          let u = wrap_range t1 p in
          let v = wrap_range t2 q in
          settled_range (wrap_to_tau t1) (wrap_to_tau t2) a u.0 v.0 u.1 u.2 v.1 v.2 z
