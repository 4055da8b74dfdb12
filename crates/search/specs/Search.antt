-- The whole disk search: disk_sector/search.rs, insert_top and best_disk_fit, with its number of trials. Definitions only.
use Rattle.std.specs.Prelude.{cond, List, ℕ, ◌+◌, length, get_or, replicate, eqb, ltb, Bool, true, Float, Option, Some, None, Result, Ok, Err}
use Rattle.floats.specs.Ops.{nought}
use Rattle.floats.specs.Rows.{at}
use Rattle.geometry.specs.Geometry.{wrap_pi}
use Rattle.loops.specs.Loops.{iter}
use Rattle.data.specs.Data.{DiskData}
use Rattle.candidates.specs.Candidates.{max_candidates, histogram_candidates, forced_seed_pair, forced_histogram_pair, build_pair_pool}
use Rattle.candidates.specs.declared.CandidateSet.{CandidateSet}
use Rattle.candidates.specs.declared.PairScore.{PairScore}
use Rattle.candidates.specs.declared.Pool.{Pool}
use Rattle.search_ranking.specs.Ranking.{blank, ranked}
use Rattle.score.specs.Score.{widths_px, axis_row, precompute_edge_alignments, score_pair_cached, fit_is_better}
use Rattle.score.specs.declared.Fit.{Fit}
use Rattle.search_refine.specs.Refine.{refine_fit_cached}
use Rattle.search_refine.specs.declared.Refined.{Refined}
use Rattle.search.specs.declared.Top.{Top}
use Rattle.search.specs.declared.Leaders.{Leaders}

-- TOP_FITS: the two places of Top
abbrev pub top_fits : ℕ
top_fits = 2

-- the best fit with the number of trials, or that number alone
abbrev pub DiskFit : Type 0
DiskFit = Result Refined ℕ

-- ---- insert_top: before the first leader that it beats, or in the first empty place
unfoldable pub behind : Option Fit → Fit → Option Fit
behind None fit = Some fit
behind (Some w) fit = cond (fit_is_better fit w) (Some fit) (Some w)

unfoldable pub insert_at : Option Fit → Option Fit → Fit → Top
insert_at None second fit = record { first = Some fit; second = None }
insert_at (Some v) second fit =
    cond (fit_is_better fit v) (record { first = Some fit; second = Some v }) (record { first = Some v; second = behind second fit })

unfoldable pub insert_top : Top → Fit → Top
insert_top top fit = insert_at top.first top.second fit

-- the code's test of a place: an empty one is always taken
unfoldable pub beats : Fit → Option Fit → Bool
beats fit None = true
beats fit (Some v) = fit_is_better fit v

-- ---- best_disk_fit, steps 1 and 2: the edge alignments, the forced pairs and the pool
unfoldable pub pool_of : DiskData → CandidateSet → Float → Float → Pool
pool_of D candidates base0 base1 =
    let a = precompute_edge_alignments D candidates (replicate max_candidates nought) in
    build_pair_pool candidates a.out a.total (forced_seed_pair candidates base0 base1) (forced_histogram_pair candidates a.out)

-- ---- step 3 is `ranked` of search_ranking

-- ---- steps 4 and 5: a ranked pair tried at a width, from rows made of its own angles. A pair that answers nothing counts as a trial.
unfoldable pub entered : Leaders → Option Fit → Leaders
entered s None = record { top = s.top; trials = s.trials + 1 }
entered s (Some fit) = record { top = insert_top s.top fit; trials = s.trials + 1 }

abbrev pub no_leaders : Leaders
no_leaders = record { top = record { first = None; second = None }; trials = 0 }

module _ (D : DiskData) (candidates : CandidateSet) where
  unfoldable pub pair_scored : Float → PairScore → Option Fit
  pair_scored width p =
      let a0 = at candidates.angles p.i in
      let a1 = at candidates.angles p.j in
      score_pair_cached D a0 a1 width p.edge_score (axis_row D.n D.xs D.ys a0 width) (axis_row D.n D.xs D.ys a1 width)

  -- the ranked pairs in their order, at one width
  unfoldable pub tried_at : List PairScore → Float → Leaders → Leaders
  tried_at ps width leaders = iter (λ r l. entered l (pair_scored width (get_or ps r blank))) leaders (length ps)

  -- the widths outermost
  unfoldable pub tried_all : List PairScore → Leaders
  tried_all ps = iter (λ w. tried_at ps (at widths_px w)) no_leaders (length widths_px)

-- ---- step 6: each leader refined, and the better of it and what was found so far
unfoldable pub lead : DiskData → Fit → Refined → Refined
lead D seed s =
    let refined = refine_fit_cached D seed in
    record { best = cond (fit_is_better refined.best s.best) refined.best s.best; trials = s.trials + refined.trials }

unfoldable pub second_led : DiskData → Option Fit → Refined → DiskFit
second_led D None s = Ok s
second_led D (Some w) s = Ok (lead D w s)

unfoldable pub first_led : DiskData → ℕ → Option Fit → Option Fit → DiskFit
first_led D trials None second = Err trials
first_led D trials (Some v) second = second_led D second (lead D v (record { best = v; trials = trials }))

unfoldable pub led : DiskData → Leaders → DiskFit
led D leaders = first_led D leaders.trials leaders.top.first leaders.top.second

-- ---- best_disk_fit
unfoldable pub candidates_of : DiskData → Float → Float → CandidateSet
candidates_of D base0 base1 = histogram_candidates D (wrap_pi base0) (wrap_pi base1)

-- where no pair is allowed, nothing is tried
unfoldable pub searched : DiskData → CandidateSet → Float → Float → DiskFit
searched D candidates base0 base1 =
    let pool = pool_of D candidates base0 base1 in
    cond (eqb pool.n 0) (Err 0) (led D (tried_all D candidates (ranked pool)))

-- fewer than two candidates have no pair
unfoldable pub best_disk_fit : DiskData → Float → Float → DiskFit
best_disk_fit D base0 base1 =
    let candidates = candidates_of D base0 base1 in
    cond (ltb candidates.n 2) (Err 0) (searched D candidates base0 base1)
