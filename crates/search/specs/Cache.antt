-- What the code's cache of rows holds in steps 4 and 5 of best_disk_fit. Definitions only.
use Rattle.std.specs.Prelude.{◌≡◌, Bool, true, false, List, ℕ, ◌*◌, ◌≤◌, length, get_or, take, Float, Option}
use Rattle.floats.specs.Rows.{Row, at}
use Rattle.data.specs.Data.{DiskData, max_tanh_pixels, row_of}
use Rattle.candidates.specs.Candidates.{max_paired}
use Rattle.candidates.specs.declared.CandidateSet.{CandidateSet}
use Rattle.candidates.specs.declared.PairScore.{PairScore}
use Rattle.search_ranking.specs.Ranking.{max_top_pairs}
use Rattle.search_ranking.specs.WithinLaws.{PairsWithin}
use Rattle.search_ranking.specs.declared.Ranked.{Ranked}
use Rattle.score.specs.Score.{axis_row, score_pair_cached}
use Rattle.score.specs.declared.Fit.{Fit}

-- a row for each of the candidates that are paired
abbrev pub cache_room : ℕ
cache_room = max_paired * max_tanh_pixels

-- the rows that are marked as filled are the candidates' own
pub record Cached (D : DiskData) (candidates : CandidateSet) (width : Float) (filled : List Bool) (cache : Row) : Type 0 where
  pub marks : length filled ≡ max_paired
  pub room : length cache ≡ cache_room
  pub row :
      (c : ℕ) → get_or filled c false ≡ true → row_of D.n cache c ≡ axis_row D.n D.xs D.ys (at candidates.angles c) width

-- row c is filled, and so is every row that was
pub record Keeps (old new : List Bool) (c : ℕ) : Type 0 where
  pub here : get_or new c false ≡ true
  pub still : (d : ℕ) → get_or old d false ≡ true → get_or new d false ≡ true

-- at most 24 ranked pairs, as many as are counted, each of two of the candidates
pub record Listed (r : Ranked) : Type 0 where
  pub most : r.n ≤ max_top_pairs
  pub full : length (take r.n r.pairs) ≡ r.n
  pub within : PairsWithin max_paired (take r.n r.pairs)

-- a pair scored from what the cache holds
unfoldable pub cached_score : DiskData → CandidateSet → Float → PairScore → Row → Option Fit
cached_score D candidates width p cache =
    let a0 = at candidates.angles p.i in
    let a1 = at candidates.angles p.j in
    score_pair_cached D a0 a1 width p.edge_score (row_of D.n cache p.i) (row_of D.n cache p.j)
