-- Whatever the trials answer with, and every neighbour of such a fit, the answer has: it is one of their fits. So its axes lie in their ranges,
-- its amplitude is NaN or not below zero, and its width is one of the four. Assumes nothing.
use Rattle.std.specs.Prelude.{◌≡◌, refl, Bool, cond, ℕ, ◌≤◌, ◌<◌, length, get_or, T, Float, Option, Some, None, Ok, Err}
use Rattle.std.proofs.Common.{sym, ◌∙◌}
use Rattle.std.proofs.Math.Path.{subst}
use Rattle.std.proofs.Math.Bool.{true, false}
use native.Mathlib.Omega.{arith}
use Rattle.std.specs.Float.{binary32}
use Rattle.std.specs.Float.Ieee.{fits}
use Rattle.std.specs.Float.Ieee.Fits.{add-fits}
use Rattle.floats.specs.Rows.{Row, at}
use Rattle.loops.proofs.IterLaws.{iter_keeps, iter_keeps_below}
use Rattle.data.specs.Data.{DiskData}
use Rattle.search_ranking.specs.Ranking.{blank}
use Rattle.score.specs.Score.{widths_px, score_pair_cached, fit_is_better}
use Rattle.score.specs.ScoreLaws.{SoundFit, scored_sound, scored_width}
use Rattle.score.specs.declared.Fit.{Fit}
use Rattle.search_refine.specs.Refine.{offsets, neighbour, tried, best_after, refine_fit_cached}
use Rattle.search_refine.proofs.TurnLaws.{better_keeps}
use Rattle.search_refine.specs.declared.Offset.{Offset}
use Rattle.search_refine.specs.declared.Refined.{Refined}
use Rattle.search.specs.declared.Top.{Top}
use Rattle.search.specs.declared.Leaders.{Leaders}
use Rattle.search.specs.Search.{DiskFit, behind, insert_at, insert_top, entered, no_leaders, pair_scored, tried_at, tried_all}
use Rattle.search.specs.Search.{lead, second_led, first_led, led, best_disk_fit}
use Rattle.search.specs.Bill.{pairs_tried, trial, leaders_of}
use Rattle.search.proofs.BillLaws.{best_is_led}
use Rattle.search.specs.AnglesLaws.{candidates_fit}

-- ---- what every answer has
module _ (P : Fit → Type 0) where
  abbrev Has : Option Fit → Type 0
  Has None = 0 ≤ 0
  Has (Some f) = P f

  has : (x : Option Fit) → ((f : Fit) → x ≡ Some f → P f) → Has x
  has None h = omega arith
  has (Some f) h = h f refl

  better : (t : Bool) (f g : Fit) → P f → P g → P (cond t f g)
  better true f g p q = p
  better false f g p q = q

  -- ---- the places of the leaders
  record Both (top : Top) : Type 0 where
    first : Has top.first
    second : Has top.second

  behind_has : (b : Option Fit) (f : Fit) → Has b → P f → Has (behind b f)
  unfolding behind
  behind_has None f h p = p
  behind_has (Some w) f h p = go (fit_is_better f w)
    where
      go : (t : Bool) → Has (cond t (Some f) (Some w))
      go true = p
      go false = h

  insert_has : (a b : Option Fit) (f : Fit) → Has a → Has b → P f → Both (insert_at a b f)
  unfolding insert_at
  insert_has None b f h k p = record { first = p; second = omega arith }
  insert_has (Some v) b f h k p = go (fit_is_better f v)
    where
      go : (t : Bool) → Both (cond t (record { first = Some f; second = Some v }) (record { first = Some v; second = behind b f }))
      go true = record { first = p; second = h }
      go false = record { first = h; second = behind_has b f k p }

  entered_has : (l : Leaders) (x : Option Fit) → Has x → Both l.top → Both (entered l x).top
  unfolding entered insert_top
  entered_has l None h b = b
  entered_has l (Some f) h b = insert_has l.top.first l.top.second f b.first b.second h

  -- ---- a refinement
  module _
      (D : DiskData)
      (near : (best : Fit) → P best → (total : Float) (o : Offset) (f : Fit) → neighbour D total o best ≡ Some f → P f) where
    refined_has : (seed : Fit) → P seed → P (refine_fit_cached D seed).best
    unfolding refine_fit_cached best_after tried
    refined_has seed p = iter_keeps P _ seed (length offsets) p (λ t best q. better_keeps P _ best (λ f e. near best q _ _ f e) q)

    -- ---- the leaders
    abbrev Says : DiskFit → Type 0
    Says (Ok r) = P r.best
    Says (Err t) = 0 ≤ 0

    lead_has : (seed : Fit) (s : Refined) → P seed → P s.best → P (lead D seed s).best
    unfolding lead
    lead_has seed s p q =
        better (fit_is_better (refine_fit_cached D seed).best s.best) (refine_fit_cached D seed).best s.best (refined_has seed p) q

    second_has : (b : Option Fit) (s : Refined) → Has b → P s.best → Says (second_led D b s)
    unfolding second_led
    second_has None s h p = p
    second_has (Some w) s h p = lead_has w s h p

    first_has : (t : ℕ) (a b : Option Fit) → Has a → Has b → Says (first_led D t a b)
    unfolding first_led
    first_has t None b h k = omega arith
    first_has t (Some v) b h k = second_has b _ k (lead_has v (record { best = v; trials = t }) h h)

    -- ---- the whole search: what every trial answers with and every neighbour keeps, the answer has
    search_inherits :
        (base0 base1 : Float) →
        ((w : ℕ) → w < length widths_px → (r : ℕ) (f : Fit) → trial D base0 base1 (at widths_px w) r ≡ Some f → P f) →
        (r : Refined) → best_disk_fit D base0 base1 ≡ Ok r → P r.best
    unfolding led leaders_of tried_all tried_at trial
    search_inherits base0 base1 seeds r e =
        let l = leaders_of D base0 base1 in
        let b : Both l.top =
        iter_keeps_below (λ (l : Leaders). Both l.top) _ no_leaders (length widths_px) (record { first = omega arith; second = omega arith })
        (λ w l h b. iter_keeps (λ (l : Leaders). Both l.top) _ l (length (pairs_tried D base0 base1)) b
        (λ r l b. entered_has l _ (has _ (λ f e. seeds w h r f e)) b)) in
        subst Says (sym (best_is_led D base0 base1) ∙ e) (first_has l.trials l.top.first l.top.second b.first b.second)

-- what every score of two axes that f32 holds has, the answer has
search_keeps :
    (D : DiskData) (base0 base1 : Float) (P : Fit → Type 0) →
    ((theta0 theta1 width edge_score : Float) (h0 h1 : Row) (f : Fit) → T (fits binary32 theta0) → T (fits binary32 theta1) →
    score_pair_cached D theta0 theta1 width edge_score h0 h1 ≡ Some f → P f) →
    (r : Refined) → best_disk_fit D base0 base1 ≡ Ok r → P r.best
unfolding neighbour trial pair_scored
search_keeps D base0 base1 P each r e =
    let held = candidates_fit D base0 base1 in
    search_inherits P D
    (λ best p total o f e. each _ _ _ _ _ _ f (add-fits binary32 best.theta1 o.d0) (add-fits binary32 best.theta2 o.d1) e) base0 base1
    (λ w h r f e. let p = get_or (pairs_tried D base0 base1) r blank in each _ _ _ _ _ _ f (held.each p.i) (held.each p.j) e)
    r e

pub search_sound : (D : DiskData) (base0 base1 : Float) (r : Refined) → best_disk_fit D base0 base1 ≡ Ok r → SoundFit r.best
search_sound D base0 base1 r e =
    search_keeps D base0 base1 SoundFit
    (λ theta0 theta1 width edge_score h0 h1 f p q e. scored_sound D theta0 theta1 width edge_score h0 h1 f p q e) r e

-- ---- the width: one of the four
pub width_known :
    (D : DiskData) (base0 base1 : Float) (r : Refined) → best_disk_fit D base0 base1 ≡ Ok r →
    (w : ℕ) × (w < length widths_px) × (r.best.width ≡ at widths_px w)
unfolding neighbour trial pair_scored
width_known D base0 base1 r e =
    search_inherits (λ f. (w : ℕ) × (w < length widths_px) × (f.width ≡ at widths_px w)) D
    (λ best p total o f e. (p.0, p.1, scored_width D _ _ _ _ _ _ f e ∙ p.2)) base0 base1
    (λ w h r f e. (w, h, scored_width D _ _ _ _ _ _ f e))
    r e
