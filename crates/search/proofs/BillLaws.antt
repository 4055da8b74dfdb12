-- The bill is true: a search reports 4 k + 24 m trials. k, the ranked pairs tried, is the lesser of 24 and the allowed pairs; m, the leaders
-- refined, is the lesser of 2 and the trials that answered: every pair counts one trial at each width, a fit fills the first empty place,
-- and every refinement counts its 24 scorings. Assumes nothing.
use Rattle.std.proofs.Math.Path.{◌≡◌, refl, ap}
use Rattle.std.proofs.Common.{sym, ◌∙◌, ltb-true, eqb-true}
use Rattle.std.specs.Prelude.{Bool, List, [], length, eqb, ltb, Float, Option, Some, None, Ok, Err}
use Rattle.std.proofs.Math.Bool.{true, false, cond}
use Prim.Native.Nat.{ℕ, zero, suc, ◌+◌, ◌-◌, ◌*◌, ◌≤◌, ◌<◌, min}
use native.Mathlib.Omega.{arith}
use Rattle.floats.specs.Rows.{Row, at}
use Rattle.geometry.specs.Geometry.{valid_pair}
use Rattle.loops.specs.Loops.{iter, range}
use Rattle.loops.proofs.IterLaws.{range_start, iter_through}
use Rattle.data.specs.Data.{DiskData}
use Rattle.candidates.specs.Candidates.{Forced, no_pairs, pooled_pair, pooled_from, pooled, pair_score, build_pair_pool}
use Rattle.candidates.specs.declared.CandidateSet.{CandidateSet}
use Rattle.candidates.specs.declared.PairScore.{PairScore}
use Rattle.candidates.specs.declared.Pool.{Pool}
use Rattle.search_ranking.specs.Ranking.{max_top_pairs, ranked}
use Rattle.search_ranking.specs.SinkLaws.{ranked_length}
use Rattle.score.specs.Score.{widths_px, fit_is_better}
use Rattle.score.specs.declared.Fit.{Fit}
use Rattle.search_refine.proofs.TurnLaws.{refine_trials}
use Rattle.search_refine.specs.declared.Refined.{Refined}
use Rattle.search.specs.declared.Top.{Top}
use Rattle.search.specs.declared.Leaders.{Leaders}
use Rattle.search.specs.Search.{DiskFit, top_fits, behind, insert_at, insert_top, entered, no_leaders, tried_at, tried_all, lead, second_led, first_led, led}
use Rattle.search.specs.Search.{candidates_of, pool_of, searched, best_disk_fit}
use Rattle.search.specs.Bill.{trials_of, fit_count, allowed_from, allowed_of, allowed_pairs, pool_here, pairs_tried, pairs_kept}
use Rattle.search.specs.Bill.{trial, answered_at, answered_trials, leaders_of, leaders_kept}

-- ---- the leaders after t trials, of which c answered: the second place is filled only where the first is
pub record Placed (top : Top) (c : ℕ) : Type 0 where
  pub places : fit_count top.first + fit_count top.second ≡ min top_fits c
  pub order : fit_count top.second ≤ fit_count top.first

pub record LeadersCounted (l : Leaders) (t c : ℕ) : Type 0 where
  pub trials : l.trials ≡ t
  pub top : Placed l.top c

-- what is put behind the first fills the second place
behind_filled : (b : Option Fit) (f : Fit) → fit_count (behind b f) ≡ 1
unfolding behind
behind_filled None f = refl
behind_filled (Some w) f = go (fit_is_better f w)
  where
    go : (t : Bool) → fit_count (cond t (Some f) (Some w)) ≡ 1
    go true = refl
    go false = refl

insert_placed : (a b : Option Fit) (f : Fit) (c : ℕ) → fit_count a + fit_count b ≡ min top_fits c → fit_count b ≤ fit_count a
    → Placed (insert_at a b f) (c + 1)
unfolding insert_at
insert_placed None b f c e o = record { places = omega arith; order = omega arith }
insert_placed (Some v) b f c e o = go (fit_is_better f v) (behind_filled b f)
  where
    go :
        (t : Bool) → fit_count (behind b f) ≡ 1 →
        Placed (cond t (record { first = Some f; second = Some v }) (record { first = Some v; second = behind b f })) (c + 1)
    go true h = record { places = omega arith; order = omega arith }
    go false h = record { places = omega arith; order = omega arith }

entered_counted : (l : Leaders) (x : Option Fit) (t c : ℕ) → LeadersCounted l t c → LeadersCounted (entered l x) (t + 1) (c + fit_count x)
unfolding entered insert_top
entered_counted l None t c h =
    let z : c + 0 ≡ c = omega arith in
    record { trials = ap (λ n. n + 1) h.trials; top = rw z h.top }
entered_counted l (Some f) t c h =
    let p = insert_placed l.top.first l.top.second f c h.top.places h.top.order in
    record { trials = ap (λ n. n + 1) h.trials; top = p }

turns_counted :
    (g : ℕ → Option Fit) (l : Leaders) (t c n : ℕ) → LeadersCounted l t c →
    LeadersCounted (iter (λ r l. entered l (g r)) l n) (t + n) (iter (λ r c. c + fit_count (g r)) c n)
unfolding iter
turns_counted g l t c zero h = let z : t + 0 ≡ t = omega arith in rw z h
turns_counted g l t c (suc n) h =
    let z : t + suc n ≡ t + n + 1 = omega arith in
    let i = turns_counted g l t c n h in
    rw z (entered_counted (iter (λ r l. entered l (g r)) l n) (g n) (t + n) (iter (λ r c. c + fit_count (g r)) c n) i)

-- ---- the bill of what is led
lead_trials : (D : DiskData) (v : Fit) (s : Refined) → (lead D v s).trials ≡ s.trials + 24
unfolding lead
lead_trials D v s = ap (◌+◌ s.trials) (refine_trials D v)

places_billed : (D : DiskData) (t : ℕ) (a b : Option Fit) → fit_count b ≤ fit_count a → trials_of (first_led D t a b) ≡ t + 24 * (fit_count a + fit_count b)
unfolding first_led second_led
places_billed D t None b o = omega arith
places_billed D t (Some v) None o = let e = lead_trials D v (record { best = v; trials = t }) in omega arith
places_billed D t (Some v) (Some w) o =
    let s : Refined = lead D v (record { best = v; trials = t }) in
    let e = lead_trials D v (record { best = v; trials = t }) in
    let g = lead_trials D w s in
    omega arith

none_led : (D : DiskData) (candidates : CandidateSet) → Err 0 ≡ led D (tried_all D candidates [])
unfolding led first_led tried_all tried_at iter
none_led D candidates = refl

-- ---- the pool has the allowed pairs: a turn adds one where the pair is allowed, and is counted so
module _ (candidates : CandidateSet) (edge_align : Row) (grad_total : Float) (force_seed force_hist : Forced) where
  pair_counted :
      (i j : ℕ) (p : Pool) → (pooled_pair candidates edge_align grad_total force_seed force_hist i j p).n
      ≡ cond (valid_pair (at candidates.angles i) (at candidates.angles j)) (p.n + 1) p.n
  unfolding pooled_pair pooled
  pair_counted i j p = go (valid_pair (at candidates.angles i) (at candidates.angles j))
    where
      go : (b : Bool) → (cond b (pooled (pair_score edge_align grad_total force_seed force_hist i j) p) p).n ≡ cond b (p.n + 1) p.n
      go true = refl
      go false = refl

  row_counted : (i : ℕ) (p : Pool) → (pooled_from candidates edge_align grad_total force_seed force_hist i p).n ≡ allowed_from candidates i p.n
  unfolding pooled_from allowed_from range
  row_counted i p =
      iter_through (λ p. p.n) (λ d. pooled_pair candidates edge_align grad_total force_seed force_hist i (i + 1 + d)) _ p (candidates.n - (i + 1))
      (λ d x. pair_counted i (i + 1 + d) x)

  pool_counted : (build_pair_pool candidates edge_align grad_total force_seed force_hist).n ≡ allowed_of candidates
  unfolding build_pair_pool allowed_of
  pool_counted =
      iter_through (λ p. p.n) (pooled_from candidates edge_align grad_total force_seed force_hist) (allowed_from candidates) no_pairs candidates.n row_counted

-- fewer than two candidates have none
few_allowed : (candidates : CandidateSet) → candidates.n < 2 → allowed_of candidates ≡ 0
unfolding allowed_of
few_allowed candidates h = go candidates.n refl h
  where
    none : candidates.n ≡ 1 → allowed_from candidates 0 0 ≡ 0
    none e = unfold allowed_from in rw (e, range_start)

    two : (m : ℕ) → suc (suc m) < 2 → ⊥
    two m h = omega arith

    go : (m : ℕ) → candidates.n ≡ m → m < 2 → iter (allowed_from candidates) 0 m ≡ 0
    go zero e h = unfold iter in refl
    go (suc zero) e h = unfold iter in none e
    go (suc (suc m)) e h = absurd (two m h)

module _ (D : DiskData) (base0 base1 : Float) where
  -- whatever is refused before a trial is what no trial leaves
  pub best_is_led : best_disk_fit D base0 base1 ≡ led D (leaders_of D base0 base1)
  unfolding best_disk_fit searched leaders_of pairs_tried pool_here
  best_is_led = go (ltb candidates.n 2) (eqb pool.n 0)
    where
      candidates : CandidateSet
      candidates = candidates_of D base0 base1

      pool : Pool
      pool = pool_of D candidates base0 base1

      after : List PairScore → Leaders
      after ps = tried_all D candidates ps

      go :
          (a b : Bool) → cond a (Err 0) (cond b (Err 0) (led D (after (ranked pool))))
          ≡ led D (after (cond a [] (cond b [] (ranked pool))))
      go true b = none_led D candidates
      go false true = none_led D candidates
      go false false = refl

  leaders_counted : LeadersCounted (leaders_of D base0 base1) (4 * pairs_kept D base0 base1) (answered_trials D base0 base1)
  unfolding leaders_of answered_trials answered_at trial tried_all tried_at pairs_kept iter
  leaders_counted = rw z (at_width 3 _ _ _ (at_width 2 _ _ _ (at_width 1 _ _ _ (at_width 0 no_leaders 0 0 start))))
    where
      k : ℕ
      k = pairs_kept D base0 base1

      z : 4 * k ≡ 0 + k + k + k + k
      z = omega arith

      start : LeadersCounted no_leaders 0 0
      start = record { trials = refl; top = record { places = refl; order = omega arith } }

      at_width :
          (w : ℕ) (l : Leaders) (t c : ℕ) → LeadersCounted l t c →
          LeadersCounted (tried_at D (candidates_of D base0 base1) (pairs_tried D base0 base1) (at widths_px w) l) (t + k)
          (answered_at D base0 base1 (at widths_px w) c)
      at_width w l t c h = turns_counted (trial D base0 base1 (at widths_px w)) l t c k h

  -- the second place is filled only where the first is
  leaders_in_order : fit_count (leaders_of D base0 base1).top.second ≤ fit_count (leaders_of D base0 base1).top.first
  leaders_in_order = leaders_counted.top.order

  -- m is the lesser of 2 and the trials that answered
  pub leaders_are : leaders_kept D base0 base1 ≡ min top_fits (answered_trials D base0 base1)
  unfolding leaders_kept
  leaders_are = leaders_counted.top.places

  leaders_most : leaders_kept D base0 base1 ≤ 2
  leaders_most = let e = leaders_are in omega arith

  -- k is the lesser of 24 and the allowed pairs
  pub pairs_are : pairs_kept D base0 base1 ≡ min max_top_pairs (allowed_pairs D base0 base1)
  unfolding pairs_kept pairs_tried allowed_pairs
  pairs_are =
      go (ltb candidates.n 2) (eqb pool.n 0) (λ e. few_allowed candidates (ltb-true candidates.n 2 e)) (eqb-true pool.n 0) refl refl
    where
      candidates : CandidateSet
      candidates = candidates_of D base0 base1

      pool : Pool
      pool = pool_here D base0 base1

      counted : pool.n ≡ allowed_of candidates
      counted = unfold pool_here pool_of in pool_counted candidates _ _ _ _

      go :
          (a b : Bool) → (ltb candidates.n 2 ≡ true → allowed_of candidates ≡ 0) → (eqb pool.n 0 ≡ true → pool.n ≡ 0) →
          ltb candidates.n 2 ≡ a → eqb pool.n 0 ≡ b →
          length (cond a [] (cond b [] (ranked pool))) ≡ min max_top_pairs (allowed_of candidates)
      go true b f g e d = let z = f e in omega arith
      go false true f g e d = let z = g d in let c = counted in omega arith
      go false false f g e d = rw (← counted) (ranked_length pool)

  pairs_most : pairs_kept D base0 base1 ≤ 24
  pairs_most = let e = pairs_are in omega arith

  -- the bill: four trials for each ranked pair, 24 for each leader
  pub disk_bill : trials_of (best_disk_fit D base0 base1) ≡ 4 * pairs_kept D base0 base1 + 24 * leaders_kept D base0 base1
  unfolding leaders_kept led
  disk_bill =
      let l = leaders_of D base0 base1 in
      ap trials_of best_is_led ∙ places_billed D l.trials l.top.first l.top.second leaders_in_order ∙
      ap (λ t. t + 24 * (fit_count l.top.first + fit_count l.top.second)) leaders_counted.trials

  pub disk_bill_most : trials_of (best_disk_fit D base0 base1) ≤ 144
  disk_bill_most = let e = disk_bill in let k = pairs_most in let m = leaders_most in omega arith

  -- where nothing is found there was no leader
  pub missing_leaders : (t : ℕ) → best_disk_fit D base0 base1 ≡ Err t → leaders_kept D base0 base1 ≡ 0
  unfolding leaders_kept led first_led second_led
  missing_leaders t e =
      go (leaders_of D base0 base1).top.first (leaders_of D base0 base1).top.second leaders_in_order (sym best_is_led ∙ e)
    where
      never : {r : Refined} → ◌≡◌ {A = DiskFit} (Ok r) (Err t) → ⊥
      never e = let z : ◌≡◌ {A = ℕ} 0 1 = cc in omega arith

      second : (b : Option Fit) (s : Refined) → second_led D b s ≡ Err t → ⊥
      second None s e = never e
      second (Some w) s e = never e

      go :
          (a b : Option Fit) → fit_count b ≤ fit_count a → first_led D (leaders_of D base0 base1).trials a b ≡ Err t → fit_count a + fit_count b ≡ 0
      go None b o e = omega arith
      go (Some v) b o e = absurd (second b _ e)

  pub missing_bill : (t : ℕ) → best_disk_fit D base0 base1 ≡ Err t → t ≡ 4 * pairs_kept D base0 base1
  missing_bill t e =
      let b : t ≡ 4 * pairs_kept D base0 base1 + 24 * leaders_kept D base0 base1 = sym (ap trials_of e) ∙ disk_bill in
      let m = missing_leaders t e in
      omega arith

  pub missing_trials : (t : ℕ) → best_disk_fit D base0 base1 ≡ Err t → t ≤ 96
  missing_trials t e = let b = missing_bill t e in let k = pairs_most in omega arith
