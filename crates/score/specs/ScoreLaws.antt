-- Every scored pair's axes lie in their ranges and its amplitude is NaN or not below zero, since both are canonical; its width is the
-- one given; both errors of a fit lie from 0 to PI, as those of every matrix do. The candidates' edge sums are stored one by one, unless
-- the weights' total is at most 1e-9. Assumes nothing.
use Rattle.std.specs.Prelude.{◌≡◌, refl, Bool, true, false, cond, ℕ, T, Option, Some, None}
use Rattle.std.proofs.Common.{sym}
use Rattle.std.proofs.Math.Path.{subst}
use Rattle.std.specs.Float.Ieee.{Float, binary32, lt, le, fits}
use Rattle.std.specs.Float.Ieee.Fits.{div-fits}
use Rattle.std.specs.Option.{unwrap_or, option_or}
use Rattle.floats.specs.Ops.{◌⊕◌, ◌⊖◌, ◌⊗◌, ◌⊘◌, nought, one}
use Rattle.floats.specs.Library.{abs, narrow}
use Rattle.floats.specs.SquareSumLaws.{Upright}
use Rattle.floats.specs.UprightLaws.{narrow_upright, max_upright}
use Rattle.geometry.specs.Geometry.{valid_pair}
use Rattle.solver_axes.specs.Canonical.{CanonicalRange}
use Rattle.solver_axes.proofs.CanonicalLaws.{canonical_range}
use Rattle.solver_errors.proofs.StdErrorsLaws.{Bounded, errors_bounded}
use Rattle.floats.specs.Rows.{Row, at, count}
use Rattle.data.specs.Data.{DiskData}
use Rattle.candidates.specs.declared.CandidateSet.{CandidateSet}
use Rattle.score_edges.specs.Edges.{edge_weight_total, ranked_sum}
use Rattle.loops.proofs.TabLaws.{Stores}
use Rattle.score.specs.declared.Fit.{Fit}
use Rattle.score.specs.declared.Sums.{Sums}
use Rattle.score.specs.Score as S
use Rattle.score.specs.Score.{lower, higher, lower_told, higher_told, fit_is_better}
use Rattle.score.specs.Score.{margin, fit_of, cached_sums, scored_sums, score_pair_cached, Alignments, precompute_edge_alignments, fit_std_errors, error_sum}

-- ---- what every fit has that a pair's score can answer: P of every fit made of the two axes at the width
abbrev Every : (Fit → Type 0) → Option Fit → Type 0
Every P None = T true
Every P (Some f) = P f

module _ (P : Fit → Type 0) (theta0 theta1 width edge_score : Float) where
  sums_every :
      ((val_energy n_inv dot denom : Float) → P (fit_of val_energy n_inv dot denom theta0 theta1 width edge_score)) →
      (val_energy n_inv : Float) (s : Sums) → Every P (scored_sums val_energy n_inv s theta0 theta1 width edge_score)
  unfolding scored_sums
  sums_every h val_energy n_inv s = go (le denom margin)
    where
      denom : Float
      denom = s.q2 ⊖ s.q ⊗ s.q ⊗ n_inv

      go : (b : Bool) → Every P (cond b None (Some (fit_of val_energy n_inv s.dot denom theta0 theta1 width edge_score)))
      go true = tt
      go false = h val_energy n_inv s.dot denom

  scored_every :
      ((val_energy n_inv dot denom : Float) → P (fit_of val_energy n_inv dot denom theta0 theta1 width edge_score)) →
      (D : DiskData) (h0 h1 : Row) (f : Fit) → score_pair_cached D theta0 theta1 width edge_score h0 h1 ≡ Some f → P f
  unfolding score_pair_cached
  scored_every h D h0 h1 f e = subst (Every P) e (go (valid_pair theta0 theta1) (le D.val_energy margin))
    where
      made : Option Fit
      made =
          scored_sums D.val_energy (one ⊘ count D.n) (cached_sums D.n D.vals_centered h0 h1) theta0 theta1 width edge_score

      go : (b d : Bool) → Every P (cond b (cond d None made) None)
      go false d = tt
      go true true = tt
      go true false = sums_every h D.val_energy (one ⊘ count D.n) (cached_sums D.n D.vals_centered h0 h1)

-- ---- the order of fits: the first key that tells decides
next_told : (x y : Option Bool) (d : Bool) → unwrap_or (option_or x y) d ≡ unwrap_or x (unwrap_or y d)
next_told None y d = refl
next_told (Some t) y d = refl

lower_tells : (a b : Float) (d : Bool) → unwrap_or (lower_told a b) d ≡ lower a b d
unfolding lower_told
lower_tells a b d = go (lt a (b ⊖ margin)) (lt margin (abs (a ⊖ b)))
  where
    go : (t u : Bool) → unwrap_or (cond t (Some true) (cond u (Some false) None)) d ≡ cond t true (cond u false d)
    go true u = refl
    go false true = refl
    go false false = refl

higher_tells : (a b : Float) (d : Bool) → unwrap_or (higher_told a b) d ≡ higher a b d
unfolding higher_told
higher_tells a b d = go (lt (b ⊕ margin) a) (lt margin (abs (a ⊖ b)))
  where
    go : (t u : Bool) → unwrap_or (cond t (Some true) (cond u (Some false) None)) d ≡ cond t true (cond u false d)
    go true u = refl
    go false true = refl
    go false false = refl

pub better_told :
    (a b : Fit) →
    unwrap_or
    (option_or
    (option_or
    (option_or
    (option_or (lower_told a.objective b.objective) (lower_told a.rel_rms b.rel_rms))
    (higher_told a.edge_score b.edge_score))
    (lower_told a.width b.width))
    (lower_told a.theta1 b.theta1))
    (lt a.theta2 b.theta2)
    ≡ fit_is_better a b
unfolding fit_is_better
better_told a b = rw (next_told, next_told, next_told, next_told, lower_tells, lower_tells, lower_tells, lower_tells, higher_tells)

-- ---- a sound fit
abbrev pub SoundFit : Fit → Type 0
SoundFit f = CanonicalRange f.theta1 f.theta2 f.amp

-- where theta0 and theta1 are values that an f32 holds
module _ (D : DiskData) (theta0 theta1 width edge_score : Float) (h0 h1 : Row) (f : Fit) where
  pub scored_sound :
      T (fits binary32 theta0) → T (fits binary32 theta1) → score_pair_cached D theta0 theta1 width edge_score h0 h1 ≡ Some f → SoundFit f
  unfolding fit_of
  scored_sound p q =
      scored_every SoundFit theta0 theta1 width edge_score
      (λ val_energy n_inv dot denom. canonical_range theta0 theta1 (dot ⊘ denom) p q (div-fits binary32 dot denom)) D h0 h1 f

  -- a scored fit has the width that was given
  pub scored_width : score_pair_cached D theta0 theta1 width edge_score h0 h1 ≡ Some f → f.width ≡ width
  unfolding fit_of
  scored_width = scored_every (λ g. g.width ≡ width) theta0 theta1 width edge_score (λ val_energy n_inv dot denom. refl) D h0 h1 f

-- ---- the errors
pub errors_sound : (D : DiskData) (fit : Fit) → Bounded (fit_std_errors D fit)
unfolding fit_std_errors
errors_sound D fit =
    let m = S.moments_of D.n D.xs D.ys D.vals_centered fit in
    errors_bounded (S.normal D.n m) (narrow (S.residual D.n fit.amp m)) D.n

-- the sum that they are made of is not below zero: the residual is the greater of a difference and 0
pub error_sum_upright : (D : DiskData) (fit : Fit) → Upright (error_sum D fit)
unfolding S.residual
error_sum_upright D fit = narrow_upright _ (max_upright _)

-- ---- the edge sums of a disk of n pixels: t is the total of the m weights, which are as many
module _
    (D : DiskData) (n m : ℕ) (candidates : CandidateSet) (out : Row) (t : Float)
    (e : t ≡ edge_weight_total m D.grad_weights) (l : m ≡ n) (k : D.n ≡ n) where
  total_is : edge_weight_total D.n D.grad_weights ≡ t
  total_is = rw (k, ← l) (sym e)

  pub aligned_none : le t margin ≡ true → ◌≡◌ {A = Alignments} (record { total = nought; out = out }) (precompute_edge_alignments D candidates out)
  unfolding precompute_edge_alignments
  aligned_none h = rw (total_is, h)

  pub aligned_all :
      (ys : Row) (c : ℕ) → le t margin ≡ false →
      Stores (λ c. ranked_sum n D.grad_angles D.grad_weights (at candidates.angles c)) out ys c → c ≡ candidates.n →
      ◌≡◌ {A = Alignments} (record { total = t; out = ys }) (precompute_edge_alignments D candidates out)
  unfolding precompute_edge_alignments
  aligned_all ys c h g d = rw (total_is, h, k, ← d) (rw g.is)
