-- The ranges of angles modulo PI, for every f32: from 0 to PI, PI itself included; a difference at most PI/2 in size; NaN where the value before the
-- reduction is not finite. Assumes nothing.
use Rattle.std.specs.Prelude.{◌≡◌, ℕ, ◌+◌, ◌-◌, ◌*◌, ◌^◌, ◌≤◌, ◌<◌, Bool, true, false, not, ◌&&◌, ◌||◌, negsuc, T, leb, ltb, eqb}
use Rattle.std.proofs.Math.Path.{refl}
use Rattle.std.proofs.Common.{sym, ap, ◌∙◌, subst, inl, inr, zero-le, le_trans, sub-le, eq-or-lt_of_le, arith, leb→le, lt→ltb, lit≤, lit<}
use Rattle.std.proofs.Math.Dec.{nleb→lt}
use Rattle.std.specs.Float.Ieee.{Float, binary32, add, sub, neg, le, below, level, fits, of_bits}
use Rattle.std.specs.Float.{nan, fin}
use Rattle.std.specs.Float.Ieee.Fits.{add-fits, sub-fits, eq→eqb, and_i}
use Rattle.std.specs.Float.Ieee.Scale.{finite}
use Rattle.floats.specs.Ops.{◌⊕◌, ◌⊖◌, nought, pi, half_pi}
use Rattle.floats.specs.Library.{abs, rem_euclid}
use Rattle.floats.specs.UnitLaws.{Val, le_val, neg_val}
use Rattle.floats.specs.RoundingLaws.{R, Rep, counted, R-upper, rep_of}
use Rattle.floats.specs.NonNegLaws.{NonNeg, plus_nn, or_l, or_r, le_of, sub_nn, sub_neg}
use Rattle.floats.specs.RemLaws.{P, pi_val, pi_rep, nought_nn, rem_pi, rem_euclid_range, rem_euclid_wild}
use Rattle.floats.specs.SignLaws.{abs_val, abs_fits}
use Rattle.geometry.specs.Geometry.{wrap_pi, signed_line_delta, line_delta, WrappedBetween}

-- PI/2 in units of 2 ^ -149
abbrev H : ℕ
H = 13176795 * 2 ^ 126

half_val : Val binary32 half_pi false H
half_val = subst (λ (z : Float). Val binary32 z false H) (sym is) (refl, refl)
  where
    is : half_pi ≡ fin false 13176795 (negsuc 22)
    is = unfold of_bits in refl

half_rep : Rep binary32 H
half_rep = (13176795, 126, lit< tt, refl, lit< tt)

half_nn : NonNeg binary32 half_pi H
half_nn = plus_nn binary32 half_pi H half_val half_rep

-- the result can be PI itself
pub wrap_pi_between : (x : Float) → T (fits binary32 x) → WrappedBetween nought pi x (wrap_pi x)
unfolding wrap_pi
wrap_pi_between x p = record {
  low = λ t. (rem_pi x p t).0;
  high = λ t. (rem_pi x p t).1;
  wild = λ t. rem_euclid_wild binary32 x pi t;
}

-- less PI/2: at most PI/2 in size, on either side
less_half : (y : Float) (c : ℕ) → NonNeg binary32 y c → c ≤ P → (s : Bool) × (n : ℕ) × Val binary32 (y ⊖ half_pi) s n × (n ≤ H)
less_half y c h l = go (leb H c) (leb→le H c) (nleb→lt H c)
  where
    gap : c - H ≤ H
    gap = le_trans (mono c P H l) (lit≤ tt)
      where
        mono : (a b d : ℕ) → a ≤ b → a - d ≤ b - d
        mono a b d h = omega arith

    go : (b : Bool) → (T b → H ≤ c) → (T (not b) → c < H) → (s : Bool) × (n : ℕ) × Val binary32 (y ⊖ half_pi) s n × (n ≤ H)
    go true u v =
        let r = R-upper binary32 (c - H) H half_rep gap in
        let w = sub_nn binary32 y half_pi c H h half_nn (u tt) r.0 in
        (w.sign, R binary32 (c - H), w.val, r.1)
    go false u v =
        let r = R-upper binary32 (H - c) H half_rep (sub-le H c) in
        (true, R binary32 (H - c), sub_neg binary32 y half_pi c H h half_nn (v tt) r.0, r.1)

-- a size of at most h units, on either side of zero, lies from -h to h
inside : (h n : ℕ) (s : Bool) → 0 < h → n ≤ h → T (below true h s n || level true h s n) × T (below s n false h || level s n false h)
inside h n s p l = go s
  where
    up_to : (e : Bool) → (n ≡ h → T e) → T (ltb n h || (e && true))
    up_to e f = elim (eq-or-lt_of_le l) [
      | inl q ↦ or_r (ltb n h) (e && true) (and_i e true (f q) tt)
      | inr k ↦ or_l (ltb n h) (e && true) (lt→ltb n h k)
    ]

    go : (s : Bool) → T (below true h s n || level true h s n) × T (below s n false h || level s n false h)
    go false = (or_l (ltb 0 (h + n)) _ (lt→ltb 0 (h + n) (omega arith)), up_to (eqb n h) eq→eqb)
    go true = (up_to (eqb h n) (λ q. eq→eqb (sym q)), or_l (ltb 0 (n + h)) _ (lt→ltb 0 (n + h) (omega arith)))

-- what is finite, less PI/2 and reduced, is a number of units
delta_size : (a b : Float) → T (finite (a ⊖ b ⊕ half_pi)) → (s : Bool) × (n : ℕ) × Val binary32 (signed_line_delta a b) s n × (n ≤ H)
unfolding signed_line_delta
delta_size a b t =
    let x = a ⊖ b ⊕ half_pi in
    let q = counted binary32 x (add-fits binary32 (a ⊖ b) half_pi) t in
    let r = rem_euclid_range binary32 x pi q.count P (lit< tt) pi_val pi_rep q.sign q.val q.rep in
    less_half (rem_euclid binary32 x pi) r.0 r.1 r.2

delta_wild : (a b : Float) → T (not (finite (a ⊖ b ⊕ half_pi))) → signed_line_delta a b ≡ nan
unfolding signed_line_delta
delta_wild a b t = ap (λ (z : Float). z ⊖ half_pi) (rem_euclid_wild binary32 (a ⊖ b ⊕ half_pi) pi t) ∙ unfold sub add in refl

pub signed_line_delta_range : (a b : Float) → WrappedBetween (neg half_pi) half_pi (a ⊖ b ⊕ half_pi) (signed_line_delta a b)
signed_line_delta_range a b = record { low = λ t. (both t).0; high = λ t. (both t).1; wild = delta_wild a b }
  where
    x : Float
    x = signed_line_delta a b

    both : T (finite (a ⊖ b ⊕ half_pi)) → T (le (neg half_pi) x) × T (le x half_pi)
    both t =
        let r = delta_size a b t in
        let i = inside H r.1 r.0 (lit< tt) r.3 in
        let low = le_val binary32 (neg half_pi) x true H r.0 r.1 (neg_val binary32 half_pi false H half_val) r.2 in
        let high = le_val binary32 x half_pi r.0 r.1 false H r.2 half_val in
        (subst T (sym low) i.0, subst T (sym high) i.1)

pub line_delta_range : (a b : Float) → WrappedBetween nought half_pi (a ⊖ b ⊕ half_pi) (line_delta a b)
unfolding line_delta
line_delta_range a b = record { low = λ t. (both t).0; high = λ t. (both t).1; wild = λ t. ap abs (delta_wild a b t) ∙ unfold abs in refl }
  where
    x : Float
    x = signed_line_delta a b

    held : T (fits binary32 x)
    held = unfold signed_line_delta in sub-fits binary32 (rem_euclid binary32 (a ⊖ b ⊕ half_pi) pi) half_pi

    both : T (finite (a ⊖ b ⊕ half_pi)) → T (le nought (abs x)) × T (le (abs x) half_pi)
    both t =
        let r = delta_size a b t in
        let n = r.1 in
        let v = abs_val binary32 x r.0 n r.2 in
        let h : NonNeg binary32 (abs x) n = plus_nn binary32 (abs x) n v (rep_of binary32 (abs x) false n (abs_fits binary32 x held) v) in
        (le_of binary32 nought (abs x) 0 n nought_nn h zero-le, le_of binary32 (abs x) half_pi n H h half_nn r.3)
