-- The score of a pair of axes, the order of fits and the errors of a fit: disk_sector/score.rs. Definitions only.
use Rattle.std.specs.Prelude.{Bool, true, false, cond, [], ◌∷◌, ℕ, pos, set, Float, Option, Some, None}
use Rattle.std.specs.Float.{binary32, binary64}
use Rattle.std.specs.Float.Ieee.{neg, lt, le, of_int}
use Rattle.floats.specs.Ops.{◌⊕◌, ◌⊖◌, ◌⊗◌, ◌⊘◌, ◌⊞◌, ◌⊟◌, ◌⊠◌, ◌⧄◌, lit, nought, one}
use Rattle.floats.specs.Library.{abs, max, sqrt, narrow}
use Rattle.elementary.specs.Elementary.{sin_cos, tanh}
use Rattle.elementary.specs.declared.SinCos.{SinCos}
use Rattle.geometry.specs.Geometry.{valid_pair}
use Rattle.solver_axes.specs.Canonical.{canonicalize_tracking_swap}
use Rattle.solver_elimination.specs.Solve.{Matrix}
use Rattle.solver_errors.specs.StdErrors.{axis_std_errors, standing}
use Rattle.solver_errors.specs.declared.Errors.{Errors}
use Rattle.solver_errors.specs.declared.Standing.{Standing}
use Rattle.solver_errors.specs.declared.Estimate.{Estimate}
use Rattle.floats.specs.Rows.{Row, at, count}
use Rattle.data.specs.Data.{DiskData}
use Rattle.candidates.specs.declared.CandidateSet.{CandidateSet}
use Rattle.score_edges.specs.Edges.{edge_weight_total, ranked_sum}
use Rattle.loops.specs.Loops.{iter, tab}
use Rattle.score.specs.declared.Fit.{Fit}
use Rattle.score.specs.declared.Sums.{Sums}
use Rattle.score.specs.declared.Slopes.{Slopes}
use Rattle.score.specs.declared.Moments.{Moments}

-- WIDTHS_PX: 0.35, 0.70, 1.40, 2.80
abbrev pub widths_px : Row
widths_px = lit 0x3eb3_3333 ∷ lit 0x3f33_3333 ∷ lit 0x3fb3_3333 ∷ lit 0x4033_3333 ∷ []

-- 1e-9
abbrev pub margin : Float
margin = lit 0x3089_705f

-- ---- the row of an axis, which score_pair has in its loop, and best_disk_fit and build_axis_rows of search.rs keep:
-- d = -s * x + c * y, and then (d / width).tanh()
abbrev pub row_at : SinCos → Float → Row → Row → ℕ → Float
row_at t width xs ys p = tanh ((neg t.s ⊗ at xs p ⊕ t.c ⊗ at ys p) ⊘ width)

unfoldable pub axis_row : ℕ → Row → Row → Float → Float → Row
axis_row n xs ys theta width = tab (row_at (sin_cos theta) width xs ys) n

-- ---- score_pair_cached
abbrev pub zero_sums : Sums
zero_sums = record { q = nought; q2 = nought; dot = nought }

unfoldable pub pixel_summed : Row → Row → Row → ℕ → Sums → Sums
pixel_summed vals_centered h0 h1 p s =
    let q = at h0 p ⊗ at h1 p in
    record { q = s.q ⊕ q; q2 = s.q2 ⊕ q ⊗ q; dot = s.dot ⊕ q ⊗ at vals_centered p }

unfoldable pub cached_sums : ℕ → Row → Row → Row → Sums
cached_sums n vals_centered h0 h1 = iter (pixel_summed vals_centered h0 h1) zero_sums n

unfoldable pub fit_of : Float → Float → Float → Float → Float → Float → Float → Float → Fit
fit_of val_energy n_inv dot denom theta0 theta1 width edge_score =
    let amp = dot ⊘ denom in
    let ssr = max (val_energy ⊖ dot ⊗ dot ⊘ denom) nought in
    let rms = sqrt binary32 (ssr ⊗ n_inv) in
    let corr = abs dot ⊘ sqrt binary32 (denom ⊗ val_energy) in
    let rel_rms = rms ⊘ max (abs amp) one in
    let a = canonicalize_tracking_swap theta0 theta1 amp in
    record {
      theta1 = a.theta1;
      theta2 = a.theta2;
      width = width;
      amp = a.amp;
      rms = rms;
      rel_rms = rel_rms;
      corr = corr;
      edge_score = edge_score;
      objective = rel_rms ⊖ lit 0x3fa0_0000 ⊗ edge_score;
    }

unfoldable pub scored_sums : Float → Float → Sums → Float → Float → Float → Float → Option Fit
scored_sums val_energy n_inv s theta0 theta1 width edge_score =
    let denom = s.q2 ⊖ s.q ⊗ s.q ⊗ n_inv in
    cond (le denom margin) None (Some (fit_of val_energy n_inv s.dot denom theta0 theta1 width edge_score))

-- a pair that is not allowed, and a disk without energy, answer nothing
unfoldable pub score_pair_cached : DiskData → Float → Float → Float → Float → Row → Row → Option Fit
score_pair_cached D theta0 theta1 width edge_score h0 h1 =
    let n_inv = one ⊘ count D.n in
    cond (valid_pair theta0 theta1)
    (cond (le D.val_energy margin) None
    (scored_sums D.val_energy n_inv (cached_sums D.n D.vals_centered h0 h1) theta0 theta1 width edge_score))
    None

-- ---- precompute_edge_alignments: what is returned, and what stands in `out` then
pub record Alignments : Type 0 where
  pub total : Float
  pub out : Row

-- a disk without weight leaves the sums as they are, and its total counts as 0
unfoldable pub precompute_edge_alignments : DiskData → CandidateSet → Row → Alignments
precompute_edge_alignments D candidates out =
    let total = edge_weight_total D.n D.grad_weights in
    let sum : ℕ → Float = λ c. ranked_sum D.n D.grad_angles D.grad_weights (at candidates.angles c) in
    cond (le total margin) (record { total = nought; out = out })
    (record { total = total; out = iter (λ c l. set l c (sum c)) out candidates.n })

-- ---- fit_is_better: the first key that tells decides
abbrev pub lower : Float → Float → Bool → Bool
lower a b next = cond (lt a (b ⊖ margin)) true (cond (lt margin (abs (a ⊖ b))) false next)

abbrev pub higher : Float → Float → Bool → Bool
higher a b next = cond (lt (b ⊕ margin) a) true (cond (lt margin (abs (a ⊖ b))) false next)

unfoldable pub fit_is_better : Fit → Fit → Bool
fit_is_better a b =
    lower a.objective b.objective
    (lower a.rel_rms b.rel_rms
    (higher a.edge_score b.edge_score
    (lower a.width b.width
    (lower a.theta1 b.theta1 (lt a.theta2 b.theta2)))))

-- what a key tells by itself: nothing within the margin
unfoldable pub lower_told : Float → Float → Option Bool
lower_told a b = cond (lt a (b ⊖ margin)) (Some true) (cond (lt margin (abs (a ⊖ b))) (Some false) None)

unfoldable pub higher_told : Float → Float → Option Bool
higher_told a b = cond (lt (b ⊕ margin) a) (Some true) (cond (lt margin (abs (a ⊖ b))) (Some false) None)

-- ---- fit_std_errors
-- a pixel's model, its two slopes and its error, in f32
unfoldable pub slopes_at : Float → Float → SinCos → SinCos → Float → Float → Float → Slopes
slopes_at amp inv_w t1 t2 x y v =
    let h1 = tanh ((neg t1.s ⊗ x ⊕ t1.c ⊗ y) ⊗ inv_w) in
    let h2 = tanh ((neg t2.s ⊗ x ⊕ t2.c ⊗ y) ⊗ inv_w) in
    let q = h1 ⊗ h2 in
    record {
      q = q;
      j1 = amp ⊗ (one ⊖ h1 ⊗ h1) ⊗ inv_w ⊗ (neg t1.c ⊗ x ⊖ t1.s ⊗ y) ⊗ h2;
      j2 = amp ⊗ h1 ⊗ (one ⊖ h2 ⊗ h2) ⊗ inv_w ⊗ (neg t2.c ⊗ x ⊖ t2.s ⊗ y);
      e = v ⊖ amp ⊗ q;
    }

abbrev pub no_moments : Moments
no_moments =
    record {
      sq = nought;
      sqq = nought;
      sj1 = nought;
      sj2 = nought;
      sqj1 = nought;
      sqj2 = nought;
      sj1j1 = nought;
      sj1j2 = nought;
      sj2j2 = nought;
      see = nought;
    }

-- the sums of the columns 1, q, j1, j2 and of the squared errors, in f64
unfoldable pub gathered : Slopes → Moments → Moments
gathered t m =
    record {
      sq = m.sq ⊞ t.q;
      sqq = m.sqq ⊞ t.q ⊠ t.q;
      sj1 = m.sj1 ⊞ t.j1;
      sj2 = m.sj2 ⊞ t.j2;
      sqj1 = m.sqj1 ⊞ t.q ⊠ t.j1;
      sqj2 = m.sqj2 ⊞ t.q ⊠ t.j2;
      sj1j1 = m.sj1j1 ⊞ t.j1 ⊠ t.j1;
      sj1j2 = m.sj1j2 ⊞ t.j1 ⊠ t.j2;
      sj2j2 = m.sj2j2 ⊞ t.j2 ⊠ t.j2;
      see = m.see ⊞ t.e ⊠ t.e;
    }

unfoldable pub moments_of : ℕ → Row → Row → Row → Fit → Moments
moments_of n xs ys vals_centered fit =
    let slopes = slopes_at fit.amp (one ⊘ fit.width) (sin_cos fit.theta1) (sin_cos fit.theta2) in
    iter (λ p. gathered (slopes (at xs p) (at ys p) (at vals_centered p))) no_moments n

abbrev pub count64 : ℕ → Float
count64 n = of_int binary64 (pos n)

-- the residual with the least-squares offset: a_qbar is amp * sq / n
unfoldable pub residual : ℕ → Float → Moments → Float
residual n amp m =
    let a_qbar = amp ⊠ m.sq ⧄ count64 n in
    max (m.see ⊟ count64 n ⊠ a_qbar ⊠ a_qbar) nought

unfoldable pub normal : ℕ → Moments → Matrix
normal n m =
    (narrow (count64 n) ∷ narrow m.sq ∷ narrow m.sj1 ∷ narrow m.sj2 ∷ []) ∷
    (narrow m.sq ∷ narrow m.sqq ∷ narrow m.sqj1 ∷ narrow m.sqj2 ∷ []) ∷
    (narrow m.sj1 ∷ narrow m.sqj1 ∷ narrow m.sj1j1 ∷ narrow m.sj1j2 ∷ []) ∷
    (narrow m.sj2 ∷ narrow m.sqj2 ∷ narrow m.sj1j2 ∷ narrow m.sj2j2 ∷ []) ∷ []

unfoldable pub fit_std_errors : DiskData → Fit → Errors
fit_std_errors D fit =
    let m = moments_of D.n D.xs D.ys D.vals_centered fit in
    axis_std_errors (normal D.n m) (narrow (residual D.n fit.amp m)) D.n

-- ours: whether they are known, by the matrix and the sum that they are made of
abbrev pub error_matrix : DiskData → Fit → Matrix
error_matrix D fit = normal D.n (moments_of D.n D.xs D.ys D.vals_centered fit)

abbrev pub error_sum : DiskData → Fit → Float
error_sum D fit = narrow (residual D.n fit.amp (moments_of D.n D.xs D.ys D.vals_centered fit))

unfoldable pub fit_standing : DiskData → Fit → Standing
fit_standing D fit = standing (error_matrix D fit) (error_sum D fit) D.n

abbrev pub fit_estimate : DiskData → Fit → Estimate
fit_estimate D fit = record { errors = fit_std_errors D fit; standing = fit_standing D fit }
