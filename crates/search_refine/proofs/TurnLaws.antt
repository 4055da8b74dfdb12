-- The held rows score a neighbour as the definition does; a refinement makes one scoring for each of 24 offsets, and its best is the seed
-- or what one of them answered, of the seed's own width. Assumes nothing.
use Rattle.std.specs.Prelude.{◌≡◌, Bool, true, false, cond, leb, length, get_or, Float, Option, Some, None}
use Rattle.std.proofs.Math.Path.{refl}
use Rattle.std.proofs.Common.{sym, ap, ◌∙◌, subst, arith, le→leb}
use Prim.Native.Nat.{ℕ, zero, suc, ◌≤◌}
use Rattle.std.specs.Float.Ieee.Bits.{is_true}
use Rattle.floats.specs.Ops.{◌⊕◌}
use Rattle.loops.specs.Loops.{iter}
use Rattle.loops.proofs.IterLaws.{pick_true}
use Rattle.loops.proofs.TabLaws.{tab_at, tab_length}
use Rattle.floats.specs.Rows.{Row}
use Rattle.data.specs.Data.{DiskData, disk_of, max_tanh_pixels}
use Rattle.score_edges.specs.Edges.{edge_weight_total}
use Rattle.score.specs.Score.{fit_is_better}
use Rattle.score.specs.ScoreLaws.{scored_width}
use Rattle.score.specs.declared.Fit.{Fit}
use Rattle.search_rows.specs.Rows.{Stands, SlotsKept, held_score}
use Rattle.search_rows.specs.declared.Slots.{Slots}
use Rattle.search_refine.specs.declared.Offset.{Offset}
use Rattle.search_refine.specs.declared.Refined.{Refined}
use Rattle.search_refine.specs.Refine.{offsets, neighbours, nowhere, neighbour, better_of, tried}
use Rattle.search_refine.specs.Refine.{best_after, refine_fit_cached, answers, refine_fit}
use Rattle.search_refine.specs.RefineLaws.{offsets_are}

-- ---- a neighbour
-- with the rows of both axes in their slots the held score is the neighbour's
held_is :
    {xs ys angles weights rows : Row} {slots : Slots} (energy : Float) (vals : Row) (o : Offset) (best : Fit) (i j : ℕ) →
    Stands xs ys angles weights (best.theta1 ⊕ o.d0) best.width slots rows i →
    Stands xs ys angles weights (best.theta2 ⊕ o.d1) best.width slots rows j →
    held_score (disk_of energy xs ys vals angles weights) slots best.width i j rows
    ≡ neighbour (disk_of energy xs ys vals angles weights) slots.total o best
unfolding held_score neighbour
held_is energy vals o best i j h k = rw (h.key, k.key, h.row, k.row, h.edge, k.edge)

-- so what is made of it is the definition's turn
pub tried_held :
    {xs ys angles weights rows : Row} {slots : Slots} (energy : Float) (vals : Row) (total : Float) (o : Offset) (best next : Fit)
    (i j : ℕ) (a : Option Fit) →
    next ≡ better_of a best → a ≡ held_score (disk_of energy xs ys vals angles weights) slots best.width i j rows → slots.total ≡ total →
    Stands xs ys angles weights (best.theta1 ⊕ o.d0) best.width slots rows i →
    Stands xs ys angles weights (best.theta2 ⊕ o.d1) best.width slots rows j →
    next ≡ tried (disk_of energy xs ys vals angles weights) total o best
unfolding tried
tried_held {xs} {ys} {angles} {weights} energy vals total o best next i j a en ea et h k =
    let D = disk_of energy xs ys vals angles weights in
    en ∙ ap (λ (x : Option Fit). better_of x best) (ea ∙ held_is energy vals o best i j h k ∙ ap (λ (t : Float). neighbour D t o best) et)

-- ---- what every answer has, the best keeps
pub better_keeps : (P : Fit → Type 0) (a : Option Fit) (best : Fit) → ((f : Fit) → a ≡ Some f → P f) → P best → P (better_of a best)
unfolding better_of
better_keeps P None best h p = p
better_keeps P (Some f) best h p = go (fit_is_better f best)
  where
    go : (t : Bool) → P (cond t f best)
    go true = h f refl
    go false = p

-- so the best keeps its width
pub tried_width : (D : DiskData) (total : Float) (o : Offset) (best : Fit) → (tried D total o best).width ≡ best.width
unfolding tried neighbour
tried_width D total o best = better_keeps (λ f. f.width ≡ best.width) _ best (λ f e. scored_width D _ _ _ _ _ _ f e) refl

-- and what is kept for the best's width stays so
pub kept_on :
    {xs ys angles weights rows : Row} {slots : Slots} (D : DiskData) (total : Float) (o : Offset) (best next : Fit) →
    next ≡ tried D total o best → SlotsKept xs ys angles weights best.width slots rows → SlotsKept xs ys angles weights next.width slots rows
kept_on {xs} {ys} {angles} {weights} {rows} {slots} D total o best next e h =
    subst (λ (w : Float). SlotsKept xs ys angles weights w slots rows) (sym (ap (λ (f : Fit). f.width) e ∙ tried_width D total o best)) h

-- ---- the whole refinement
-- 24 turns of the code, with the total of all weights
pub refined_is :
    (D : DiskData) (total : Float) (seed : Fit) (r : Refined) →
    total ≡ edge_weight_total (length D.grad_weights) D.grad_weights → length D.grad_weights ≡ D.n → r.trials ≡ neighbours →
    r.best ≡ iter (λ t. tried D total (get_or offsets t nowhere)) seed neighbours → r ≡ refine_fit_cached D seed
unfolding refine_fit_cached best_after
refined_is D total seed r t w n e =
    let t' : total ≡ edge_weight_total D.n D.grad_weights = rw w at t in
    rw (offsets_are, ← t', ← e, ← n)

-- one scoring for each offset: the best is what their answers make of the seed one after the other, and the trials are their number
module _ (D : DiskData) (seed : Fit) where
  fold : ℕ → Fit
  fold k = iter (λ t. better_of (get_or (answers D seed) t None)) seed k

  fold_is : (k : ℕ) → k ≤ length offsets → best_after D seed k ≡ fold k
  unfolding fold best_after answers tried iter
  fold_is zero h = refl
  fold_is (suc k) h =
      let total = edge_weight_total D.n D.grad_weights in
      let answer : ℕ → Option Fit = λ t. neighbour D total (get_or offsets t nowhere) (best_after D seed t) in
      rw (tab_at answer None (length offsets) k (omega arith)) (ap (better_of (answer k)) (fold_is k (omega arith)))

  answers_are : length (answers D seed) ≡ length offsets
  unfolding answers
  answers_are = tab_length _ (length offsets)

  pub refine_is_fold :
      refine_fit_cached D seed
      ≡ record { best = iter (λ t. better_of (get_or (answers D seed) t None)) seed (length (answers D seed)); trials = length (answers D seed) }
  unfolding refine_fit_cached fold
  refine_is_fold = rw (answers_are) (rw (fold_is (length offsets) (omega arith)))

  -- which are 24
  pub refine_trials : (refine_fit_cached D seed).trials ≡ 24
  refine_trials = ap (λ (r : Refined). r.trials) refine_is_fold ∙ answers_are ∙ offsets_are

-- up to 320 pixels the Rust takes the cached path
pub refine_fit_is :
    (scalar : DiskData → Fit → Fit) (D : DiskData) (seed : Fit) → D.n ≤ max_tanh_pixels → refine_fit scalar D seed ≡ (refine_fit_cached D seed).best
unfolding refine_fit
refine_fit_is scalar D seed h =
    pick_true (refine_fit_cached D seed).best (scalar D seed) (is_true (leb D.n max_tanh_pixels) (le→leb D.n max_tanh_pixels h))
