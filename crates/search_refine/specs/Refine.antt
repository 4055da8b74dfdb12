-- The refinement of a fit: disk_sector/search.rs, refine_fit and refine_fit_cached. Definitions only.
-- The definition keeps no rows: each neighbour is scored from rows made of the best's own axes at that moment.
use Rattle.std.specs.Prelude.{cond, ◌&&◌, List, [], ◌∷◌, ◌++◌, ℕ, leb, length, get_or, Float, Option, Some, None}
use Rattle.std.specs.Float.Ieee.{neg, eq}
use Rattle.floats.specs.Ops.{◌⊕◌, lit, nought}
use Rattle.floats.specs.Library.{to_radians}
use Rattle.loops.specs.Loops.{iter, tab}
use Rattle.data.specs.Data.{DiskData, max_tanh_pixels}
use Rattle.candidates.specs.Candidates.{combine_edge_pair}
use Rattle.score_edges.specs.Edges.{edge_weight_total, refined_sum}
use Rattle.score.specs.Score.{axis_row, score_pair_cached, fit_is_better}
use Rattle.score.specs.declared.Fit.{Fit}
use Rattle.search_refine.specs.declared.Offset.{Offset}
use Rattle.search_refine.specs.declared.Refined.{Refined}

-- ---- the scorings of a refinement, one for each offset, in the order of the Rust's three loops
abbrev pub by : Float → Float → Offset
by d0 d1 = record { d0 = d0; d1 = d1 }

-- if d0 == 0.0 && d1 == 0.0 { continue }
unfoldable pub unless_middle : Float → Float → List Offset
unless_middle d0 d1 = cond (eq d0 nought && eq d1 nought) [] (by d0 d1 ∷ [])

-- for d1 in [-step, 0.0, step], and for d0 in the same
unfoldable pub beside : Float → Float → List Offset
beside step d0 = unless_middle d0 (neg step) ++ (unless_middle d0 nought ++ unless_middle d0 step)

unfoldable pub offsets_around : Float → List Offset
offsets_around step = beside step (neg step) ++ (beside step nought ++ beside step step)

-- for step_deg in [1.0, 0.5, 0.25]
unfoldable pub offsets : List Offset
offsets = offsets_around (to_radians (lit 0x3f80_0000)) ++ (offsets_around (to_radians (lit 0x3f00_0000)) ++ offsets_around (to_radians (lit 0x3e80_0000)))

-- eight at each step
abbrev pub neighbours : ℕ
neighbours = 24

-- ---- refine_fit_cached
module _ (D : DiskData) (total : Float) where
  -- one scoring: the best's axes moved by an offset
  unfoldable pub neighbour : Offset → Fit → Option Fit
  neighbour o best =
      let theta1 = best.theta1 ⊕ o.d0 in
      let theta2 = best.theta2 ⊕ o.d1 in
      let edge1 = refined_sum D.n D.grad_angles D.grad_weights theta1 in
      let edge2 = refined_sum D.n D.grad_angles D.grad_weights theta2 in
      score_pair_cached D theta1 theta2 best.width (combine_edge_pair edge1 edge2 total)
      (axis_row D.n D.xs D.ys theta1 best.width)
      (axis_row D.n D.xs D.ys theta2 best.width)

-- an answer that is better becomes the best
unfoldable pub better_of : Option Fit → Fit → Fit
better_of None best = best
better_of (Some fit) best = cond (fit_is_better fit best) fit best

unfoldable pub tried : DiskData → Float → Offset → Fit → Fit
tried D total o best = better_of (neighbour D total o best) best

-- past the end of the offsets
abbrev pub nowhere : Offset
nowhere = by nought nought

-- the best after the first t scorings
unfoldable pub best_after : DiskData → Fit → ℕ → Fit
best_after D seed t =
    let total = edge_weight_total D.n D.grad_weights in
    iter (λ t. tried D total (get_or offsets t nowhere)) seed t

-- the fold over the offsets; its trials are their number
unfoldable pub refine_fit_cached : DiskData → Fit → Refined
refine_fit_cached D seed = record { best = best_after D seed (length offsets); trials = length offsets }

-- what the scorings answer, each around the best of its moment
unfoldable pub answers : DiskData → Fit → List (Option Fit)
answers D seed =
    let total = edge_weight_total D.n D.grad_weights in
    tab (λ t. neighbour D total (get_or offsets t nowhere) (best_after D seed t)) (length offsets)

-- ---- refine_fit: the path for over 320 pixels is left out, so that it is a parameter here
unfoldable pub refine_fit : (DiskData → Fit → Fit) → DiskData → Fit → Fit
refine_fit refine_fit_scalar D seed = cond (leb D.n max_tanh_pixels) (refine_fit_cached D seed).best (refine_fit_scalar D seed)
