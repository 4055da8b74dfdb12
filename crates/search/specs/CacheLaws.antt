-- A row that is filled stays the candidate's own while other rows are filled, and a score from the cache is the definition's. Assumes nothing.
use Rattle.std.specs.Prelude.{◌≡◌, refl, Bool, false, List, [], ◌∷◌, ℕ, zero, suc, ◌*◌, ◌<◌, ◌≤◌, get_or, set, replicate, T, eqb, cond, Float, Option, Some}
use Rattle.std.specs.Prelude.{None}
use Rattle.std.proofs.Common.{sym, ap, ◌∙◌, subst, arith, get_or-set_same, get_or-set_other, eqb→eq}
use Rattle.std.proofs.Math.Bool.{true}
use Rattle.std.proofs.Math.ListN.{length, length-set}
use Rattle.std.specs.Float.Ieee.Fits.{eq→eqb}
use Rattle.floats.specs.Rows.{Row, at}
use Rattle.loops.proofs.TabLaws.{tab_length, part_length}
use Rattle.data.specs.Data.{DiskData, max_tanh_pixels, row_of}
use Rattle.data.specs.RowLaws.{lent, wrote}
use Rattle.candidates.specs.Candidates.{max_paired}
use Rattle.candidates.specs.declared.CandidateSet.{CandidateSet}
use Rattle.candidates.specs.declared.PairScore.{PairScore}
use Rattle.candidates.specs.declared.Pool.{Pool}
use Rattle.search_ranking.specs.Ranking.{rank}
use Rattle.search_ranking.specs.SinkLaws.{ranked_length, rank_count, rank_most, rank_pairs}
use Rattle.search_ranking.specs.WithinLaws.{PairsWithin, pool_within, ranked_within}
use Rattle.search_ranking.specs.declared.Ranked.{Ranked}
use Rattle.score.specs.Score.{axis_row}
use Rattle.score.specs.Score.{fit_is_better}
use Rattle.score.specs.declared.Fit.{Fit}
use Rattle.search.specs.declared.Top.{Top}
use Rattle.search.specs.Search.{behind, insert_at, insert_top, beats, pair_scored, pool_of}
use Rattle.search.specs.Cache.{cache_room, Cached, Keeps, Listed, cached_score}

-- where a place is taken, the code's way is the definition's
pub insert_top_is :
    (top : Top) (fit : Fit) →
    insert_top top fit
    ≡ cond (beats fit top.first) (record { first = Some fit; second = top.first })
    (cond (beats fit top.second) (record { first = top.first; second = Some fit }) top)
unfolding insert_top insert_at behind beats
insert_top_is top fit = go top.first top.second
  where
    go :
        (a b : Option Fit) →
        insert_at a b fit
        ≡ cond (beats fit a) (record { first = Some fit; second = a })
        (cond (beats fit b) (record { first = a; second = Some fit }) (record { first = a; second = b }))
    go None b = refl
    go (Some v) None = refl
    go (Some v) (Some w) = ap (λ (z : Top). cond (fit_is_better fit v) (record { first = Some fit; second = Some v }) z) (by (fit_is_better fit w))
      where
        by :
            (t : Bool) →
            ◌≡◌ {A = Top} (record { first = Some v; second = cond t (Some fit) (Some w) })
            (cond t (record { first = Some v; second = Some fit }) (record { first = Some v; second = Some w }))
        by true = refl
        by false = refl

module _ (D : DiskData) (candidates : CandidateSet) (width : Float) where
  -- nothing is filled
  pub cached_none : (cache : Row) → length cache ≡ cache_room → Cached D candidates width (replicate max_paired false) cache
  cached_none cache h = record { marks = refl; room = h; row = λ c e. absurd (never c e) }
    where
      blank : (n c : ℕ) → get_or (replicate n false) c false ≡ false
      blank zero c = refl
      blank (suc n) zero = refl
      blank (suc n) (suc c) = blank n c

      never : (c : ℕ) → get_or (replicate max_paired false) c false ≡ true → ⊥
      never c e = let z : ◌≡◌ {A = Bool} false true = sym (blank max_paired c) ∙ e in subst T (sym z) tt

  -- row c came back as r
  pub cached_more :
      {filled : List Bool} {cache : Row} (r : Row) (c : ℕ) → Cached D candidates width filled cache → c < max_paired →
      D.n ≤ max_tanh_pixels → r ≡ axis_row D.n D.xs D.ys (at candidates.angles c) width →
      Cached D candidates width (set filled c true) (lent D.n c r cache)
  unfolding axis_row
  cached_more {filled} {cache} r c h cb nb er =
      record {
        marks = length-set filled c true ∙ h.marks;
        room = part_length cache r (c * max_tanh_pixels) D.n (omega (arith, h.room)) er_length ∙ h.room;
        row = λ d e. go d (eqb d c) (eqb→eq d c) (λ i. eq→eqb i) e;
      }
    where
      er_length : length r ≡ D.n
      er_length = rw er (tab_length _ D.n)

      go :
          (d : ℕ) (b : Bool) → (T b → d ≡ c) → (d ≡ c → T b) → get_or (set filled c true) d false ≡ true →
          row_of D.n (lent D.n c r cache) d ≡ axis_row D.n D.xs D.ys (at candidates.angles d) width
      go d true u v e =
          let w = wrote D.n c r cache nb (omega (arith, h.room)) er_length in
          subst (λ (k : ℕ). row_of D.n (lent D.n c r cache) k ≡ axis_row D.n D.xs D.ys (at candidates.angles k) width)
          (sym (u tt)) (w.here ∙ er)
      go d false u v e =
          let w = wrote D.n c r cache nb (omega (arith, h.room)) er_length in
          w.other d v ∙ h.row d (sym (get_or-set_other filled c d true false v) ∙ e)

-- marking a row keeps the marks
pub keeps_marked : (filled : List Bool) (c : ℕ) → c < length filled → Keeps filled (set filled c true) c
keeps_marked filled c h = record { here = get_or-set_same filled c true false h; still = λ d e. marked filled c d e }
  where
    marked : (l : List Bool) (c d : ℕ) → get_or l d false ≡ true → get_or (set l c true) d false ≡ true
    marked [] c d e = e
    marked (x ∷ l) zero zero e = refl
    marked (x ∷ l) zero (suc d) e = e
    marked (x ∷ l) (suc c) zero e = e
    marked (x ∷ l) (suc c) (suc d) e = marked l c d e

-- with both rows filled it is the definition's score
pub cached_score_lem :
    (D : DiskData) (candidates : CandidateSet) (width : Float) (p : PairScore)
    {filled : List Bool} {cache : Row} → Cached D candidates width filled cache →
    get_or filled p.i false ≡ true → get_or filled p.j false ≡ true → cached_score D candidates width p cache ≡ pair_scored D candidates width p
unfolding cached_score pair_scored
cached_score_lem D candidates width p h a b = rw (h.row p.i a, h.row p.j b)

-- ---- the ranking of a pool of the candidates' pairs is listed so
within_more : (a b : ℕ) (l : List PairScore) → a ≤ b → PairsWithin a l → PairsWithin b l
within_more a b l h w = record { first = λ r. let q = w.first r in omega arith; second = λ r. let q = w.second r in omega arith }

pub listed :
    (D : DiskData) (candidates : CandidateSet) (base0 base1 : Float) (pool : Pool) (r : Ranked) →
    2 ≤ candidates.n → candidates.n ≤ max_paired → pool ≡ pool_of D candidates base0 base1 → r ≡ rank pool → Listed r
unfolding pool_of
listed D candidates base0 base1 pool r lo hi e h =
    let w : PairsWithin candidates.n pool.pairs = rw e (pool_within candidates _ _ _ _ (omega arith)) in
    let t = rank_pairs pool r h in
    record {
      most = rank_most pool r h;
      full = ap length t ∙ ranked_length pool ∙ sym (rank_count pool r h);
      within = rw t (ranked_within max_paired pool (within_more candidates.n max_paired pool.pairs hi w) (omega arith));
    }
