-- A negated square is never above 0, where the code's `exp_neg` is `exp`; and a sum of terms that were stored first is the sum. Assumes nothing.
use Rattle.std.specs.Prelude.{◌≡◌, refl, Bool, true, false, not, cond, ℕ, ◌*◌, eqb, length, Float}
use Rattle.std.proofs.Common.{sym, ◌∙◌, subst, inl, inr}
use Rattle.std.proofs.Math.Path.{ap}
use Rattle.std.specs.Float.Ieee.{nan, up, down, unlike, below, round, mul, div, neg, lt, of_bits}
use Rattle.std.specs.Float.{inf, fin, Format, binary32}
use Rattle.floats.specs.Ops.{◌⊕◌, ◌⊗◌, ◌⊘◌, lit, minus, nought, one}
use Rattle.floats.specs.Library.{to_radians, negative}
use Rattle.floats.specs.RankLaws.{Sized}
use Rattle.floats.specs.NarrowOrderLaws.{G, fraction_sized}
use Rattle.elementary.specs.Elementary.{exp, exp_neg}
use Rattle.loops.specs.Loops.{iter, tab}
use Rattle.loops.proofs.IterLaws.{iter_same, pick_false}
use Rattle.loops.proofs.TabLaws.{tab_length, tab_at, tab_same}
use Rattle.floats.specs.Rows.{Row, at}
use Rattle.score_edges.specs.Edges.{sigma, inv2_sigma2, ordered_sum}
use Rattle.score_edges.specs.NearLaws.{AllNear, near_term, far_term, near_terms, near_delta_lem}

-- ---- the constants of the code, as the Rust makes them
pub sigma_is : sigma ≡ lit 0x3d8e_fa35
unfolding to_radians mul of_bits
sigma_is = refl

pub inv_2sigma2_is : inv2_sigma2 ≡ lit 0x42cd_2ce7
unfolding to_radians mul div of_bits
inv_2sigma2_is = refl

-- ---- the sign of a product is that of the signs, and the NaN has none
abbrev Signed : Bool → Float → Type 0
Signed s nan = Unit {0}
Signed s (inf t) = t ≡ s
Signed s (fin t m e) = t ≡ s

sized_signed : (f : Format) (x : Float) (s : Bool) (n : ℕ) → Sized f x s n → Signed s x
sized_signed f x s n (inr v) = subst (Signed s) (sym v.0) refl
sized_signed f nan s n (inl v) = tt
sized_signed f (inf t) s n (inl v) = absurd v.0
sized_signed f (fin t m e) s n (inl v) = v.0.0

round_signed : (f : Format) (s : Bool) (n c : ℕ) → Signed s (round f s n c)
round_signed f s n c = sized_signed f (round f s n c) s (G f c n) (fraction_sized f s n c)

none_or : (s b : Bool) → Signed s (cond b nan (inf s))
none_or s true = tt
none_or s false = refl

own : (x : Float) → Signed (negative x) x
unfolding negative
own nan = tt
own (inf s) = refl
own (fin s m e) = refl

neg_signed : (s : Bool) (x : Float) → Signed s x → Signed (not s) (neg x)
unfolding neg
neg_signed s nan h = tt
neg_signed s (inf t) h = ap not h
neg_signed s (fin t m e) h = ap not h

mul_own : (f : Format) (x y : Float) → Signed (unlike (negative x) (negative y)) (mul f x y)
unfolding mul negative
mul_own f nan y = tt
mul_own f (inf s) nan = tt
mul_own f (inf s) (inf t) = refl
mul_own f (inf s) (fin t n d) = none_or (unlike s t) (eqb n 0)
mul_own f (fin s m e) nan = tt
mul_own f (fin s m e) (inf t) = none_or (unlike s t) (eqb m 0)
mul_own f (fin s m e) (fin t n d) = round_signed f (unlike s t) (m * up e * (n * up d)) (down e * down d)

both : {s t s' t' : Bool} → s' ≡ s → t' ≡ t → unlike s' t' ≡ unlike s t
both {s} {t} {s'} {t'} p q = ap (λ (z : Bool). unlike z t') p ∙ ap (unlike s) q

mul_signed : (f : Format) (s t : Bool) (x y : Float) → Signed s x → Signed t y → Signed (unlike s t) (mul f x y)
unfolding mul negative
mul_signed f s t nan y p q = tt
mul_signed f s t (inf s') nan p q = tt
mul_signed f s t (fin s' m e) nan p q = tt
mul_signed f s t (inf s') (inf t') p q = both p q
mul_signed f s t (inf s') (fin t' n d) p q = subst (λ (z : Bool). Signed z (mul f (inf s') (fin t' n d))) (both p q) (mul_own f (inf s') (fin t' n d))
mul_signed f s t (fin s' m e) (inf t') p q = subst (λ (z : Bool). Signed z (mul f (fin s' m e) (inf t'))) (both p q) (mul_own f (fin s' m e) (inf t'))
mul_signed f s t (fin s' m e) (fin t' n d) p q =
    subst (λ (z : Bool). Signed z (mul f (fin s' m e) (fin t' n d))) (both p q) (mul_own f (fin s' m e) (fin t' n d))

-- what has its sign set is not above 0, and `exp` of it is `exp_neg`
not_above : (x : Float) → Signed true x → lt nought x ≡ false
unfolding lt of_bits
not_above nan h = refl
not_above (inf t) h = ap not h
not_above (fin t m e) h = ap (λ (z : Bool). below false (0 * 1 * down e) z (m * up e * 1)) h

exp_is : (x : Float) → Signed true x → exp x ≡ exp_neg x
unfolding exp
exp_is x h = pick_false (one ⊘ exp_neg (neg x)) (exp_neg x) (not_above x h)

const_clear : Signed false inv2_sigma2
const_clear = subst (Signed false) (sym inv_2sigma2_is) (unfold of_bits in refl)

const_set : Signed true (minus 0x3f00_0000)
unfolding of_bits neg
const_set = refl

turned : (s : Bool) → unlike (unlike (not s) s) false ≡ true
turned true = refl
turned false = refl

turned' : (s : Bool) → unlike (unlike true s) s ≡ true
turned' true = refl
turned' false = refl

pub exp_ranked : (d : Float) → exp (neg d ⊗ d ⊗ inv2_sigma2) ≡ exp_neg (neg d ⊗ d ⊗ inv2_sigma2)
exp_ranked d =
    let s = negative d in
    exp_is (neg d ⊗ d ⊗ inv2_sigma2)
    (subst (λ (z : Bool). Signed z (neg d ⊗ d ⊗ inv2_sigma2)) (turned s)
    (mul_signed binary32 (unlike (not s) s) false (neg d ⊗ d) inv2_sigma2
    (mul_signed binary32 (not s) s (neg d) d (neg_signed s d (own d)) (own d)) const_clear))

pub exp_refined : (q : Float) → exp (minus 0x3f00_0000 ⊗ q ⊗ q) ≡ exp_neg (minus 0x3f00_0000 ⊗ q ⊗ q)
exp_refined q =
    let s = negative q in
    exp_is (minus 0x3f00_0000 ⊗ q ⊗ q)
    (subst (λ (z : Bool). Signed z (minus 0x3f00_0000 ⊗ q ⊗ q)) (turned' s)
    (mul_signed binary32 (unlike true s) s (minus 0x3f00_0000 ⊗ q) q (mul_signed binary32 true s (minus 0x3f00_0000) q const_set (own q)) (own q)))

-- ---- the sum of a row whose terms were stored first
module _ (n : ℕ) (l : Row) (r : Float) where
  pub sum_stored : (f : ℕ → Float) → l ≡ tab f n → r ≡ ordered_sum (length l) l → r ≡ iter (λ p s. s ⊕ f p) nought n
  unfolding ordered_sum
  sum_stored f e h =
      h ∙ ap (λ (k : Row). ordered_sum (length k) k) e ∙ ap (λ (k : ℕ). ordered_sum k (tab f n)) (tab_length f n)
      ∙ iter_same (λ p s. s ⊕ at (tab f n) p) (λ p s. s ⊕ f p) nought n (λ p h s. ap (λ (z : Float). s ⊕ z) (tab_at f nan n p h))

  -- where all are near, the terms of the near differences
  pub sum_near :
      (g : Float → Float → Float) (angles weights : Row) (theta : Float) → AllNear n angles theta →
      l ≡ near_terms g n angles weights theta → r ≡ ordered_sum (length l) l → r ≡ iter (λ p s. s ⊕ far_term g angles weights theta p) nought n
  sum_near g angles weights theta a e h =
      sum_stored (far_term g angles weights theta)
      (e
      ∙ tab_same (near_term g angles weights theta) (far_term g angles weights theta) n
      (λ p l. ap (g (at weights p)) (sym (near_delta_lem (at angles p) theta (a.near p l)))))
      h
