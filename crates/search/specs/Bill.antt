-- The bill of a disk search: k ranked pairs tried at each of the four widths, and m leaders refined by 24 trials each. Definitions only.
use Rattle.std.specs.Prelude.{cond, List, [], ℕ, ◌+◌, length, get_or, eqb, ltb, Float, Option, Some, None, Ok, Err}
use Rattle.floats.specs.Rows.{at}
use Rattle.geometry.specs.Geometry.{valid_pair}
use Rattle.loops.specs.Loops.{iter, range}
use Rattle.data.specs.Data.{DiskData}
use Rattle.candidates.specs.declared.CandidateSet.{CandidateSet}
use Rattle.candidates.specs.declared.PairScore.{PairScore}
use Rattle.candidates.specs.declared.Pool.{Pool}
use Rattle.search_ranking.specs.Ranking.{blank, ranked}
use Rattle.score.specs.Score.{widths_px}
use Rattle.score.specs.declared.Fit.{Fit}
use Rattle.search.specs.declared.Leaders.{Leaders}
use Rattle.search.specs.Search.{DiskFit, pair_scored, tried_all, candidates_of, pool_of}

-- the trials that an answer reports
abbrev pub trials_of : DiskFit → ℕ
trials_of (Ok r) = r.trials
trials_of (Err trials) = trials

-- 1 where a fit stands, 0 where none does
abbrev pub fit_count : Option Fit → ℕ
fit_count None = 0
fit_count (Some fit) = 1

-- ---- the allowed pairs of candidates, counted over i < j
unfoldable pub allowed_from : CandidateSet → ℕ → ℕ → ℕ
allowed_from candidates i count =
    range (λ j k. cond (valid_pair (at candidates.angles i) (at candidates.angles j)) (k + 1) k) count (i + 1) candidates.n

unfoldable pub allowed_of : CandidateSet → ℕ
allowed_of candidates = iter (allowed_from candidates) 0 candidates.n

module _ (D : DiskData) (base0 base1 : Float) where
  unfoldable pub allowed_pairs : ℕ
  allowed_pairs = allowed_of (candidates_of D base0 base1)

  unfoldable pub pool_here : Pool
  pool_here = pool_of D (candidates_of D base0 base1) base0 base1

  -- the ranked pairs that are tried: none where there are fewer than two candidates, or where no pair of them is allowed
  unfoldable pub pairs_tried : List PairScore
  pairs_tried = cond (ltb (candidates_of D base0 base1).n 2) [] (cond (eqb pool_here.n 0) [] (ranked pool_here))

  -- k
  unfoldable pub pairs_kept : ℕ
  pairs_kept = length pairs_tried

  -- one trial: a ranked pair at a width
  unfoldable pub trial : Float → ℕ → Option Fit
  trial width r = pair_scored D (candidates_of D base0 base1) width (get_or pairs_tried r blank)

  -- of the 4 k trials, those that answered a fit
  unfoldable pub answered_at : Float → ℕ → ℕ
  answered_at width c = iter (λ r c. c + fit_count (trial width r)) c pairs_kept

  unfoldable pub answered_trials : ℕ
  answered_trials = iter (λ w. answered_at (at widths_px w)) 0 (length widths_px)

  -- what the 4 k trials leave
  unfoldable pub leaders_of : Leaders
  leaders_of = tried_all D (candidates_of D base0 base1) pairs_tried

  -- m: how many of the two places hold a fit
  unfoldable pub leaders_kept : ℕ
  leaders_kept = fit_count leaders_of.top.first + fit_count leaders_of.top.second
