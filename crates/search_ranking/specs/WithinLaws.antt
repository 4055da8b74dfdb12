-- Every pair of a pool, and so of its ranking, names two of the candidates: the loops that pair them stay below their number. Assumes nothing.
use Rattle.std.specs.Prelude.{Bool, cond, ℕ, zero, suc, ◌+◌, ◌<◌, get_or, set, take, replicate, Float}
use Rattle.std.proofs.Math.Bool.{true, false}
use mathlib.Core.List.{List, [], ◌∷◌}
use Rattle.floats.specs.Rows.{Row, at}
use Rattle.geometry.specs.Geometry.{valid_pair}
use Rattle.loops.proofs.IterLaws.{iter_keeps, iter_keeps_below, range_keeps_below}
use Rattle.candidates.specs.Candidates.{Forced, max_pairs, no_pair, no_pairs, pair_score, pooled, pooled_pair, pooled_from, build_pair_pool}
use Rattle.candidates.specs.declared.CandidateSet.{CandidateSet}
use Rattle.candidates.specs.declared.PairScore.{PairScore}
use Rattle.candidates.specs.declared.Pool.{Pool}
use Rattle.search_ranking.specs.Ranking.{max_top_pairs, blank, is_before, insert_ranked, sorted, ranked}

-- the candidates of each pair are among the first b
pub record PairsWithin (b : ℕ) (l : List PairScore) : Type 0 where
  pub first : (r : ℕ) → (get_or l r blank).i < b
  pub second : (r : ℕ) → (get_or l r blank).j < b

-- ---- lists of pairs within b
module _ (b : ℕ) where
  within_none : 0 < b → PairsWithin b []
  within_none h = record { first = λ r. h; second = λ r. h }

  within_cons : (x : PairScore) (l : List PairScore) → x.i < b → x.j < b → PairsWithin b l → PairsWithin b (x ∷ l)
  within_cons x l p q w = record { first = one; second = two }
    where
      one : (r : ℕ) → (get_or (x ∷ l) r blank).i < b
      one zero = p
      one (suc r) = w.first r

      two : (r : ℕ) → (get_or (x ∷ l) r blank).j < b
      two zero = q
      two (suc r) = w.second r

  within_rest : (x : PairScore) (l : List PairScore) → PairsWithin b (x ∷ l) → PairsWithin b l
  within_rest x l w = record { first = λ r. w.first (suc r); second = λ r. w.second (suc r) }

  within_replicate : (n : ℕ) → 0 < b → PairsWithin b (replicate n no_pair)
  within_replicate zero h = within_none h
  within_replicate (suc n) h = within_cons no_pair (replicate n no_pair) h h (within_replicate n h)

  within_set : (l : List PairScore) (k : ℕ) (x : PairScore) → x.i < b → x.j < b → PairsWithin b l → PairsWithin b (set l k x)
  within_set [] k x p q w = w
  within_set (y ∷ l) zero x p q w = within_cons x l p q (within_rest y l w)
  within_set (y ∷ l) (suc k) x p q w = within_cons y (set l k x) (w.first 0) (w.second 0) (within_set l k x p q (within_rest y l w))

  within_take : (k : ℕ) (l : List PairScore) → 0 < b → PairsWithin b l → PairsWithin b (take k l)
  within_take zero l h w = within_none h
  within_take (suc k) [] h w = w
  within_take (suc k) (y ∷ l) h w = within_cons y (take k l) (w.first 0) (w.second 0) (within_take k l h (within_rest y l w))

  within_insert : (x : PairScore) (l : List PairScore) → x.i < b → x.j < b → PairsWithin b l → PairsWithin b (insert_ranked x l)
  unfolding insert_ranked
  within_insert x [] p q w = within_cons x [] p q w
  within_insert x (y ∷ l) p q w =
      let v = within_rest y l w in
      go (is_before x y) (within_insert y l (w.first 0) (w.second 0) v) (within_insert x l p q v)
    where
      go : (t : Bool) → PairsWithin b (insert_ranked y l) → PairsWithin b (insert_ranked x l) →
          PairsWithin b (cond t (x ∷ insert_ranked y l) (y ∷ insert_ranked x l))
      go true g h = within_cons x (insert_ranked y l) p q g
      go false g h = within_cons y (insert_ranked x l) (w.first 0) (w.second 0) h

  within_sorted : (n : ℕ) (pairs : List PairScore) → 0 < b → PairsWithin b pairs → PairsWithin b (sorted n pairs)
  unfolding sorted
  within_sorted n pairs h w =
      iter_keeps (PairsWithin b) (λ p l. insert_ranked (get_or pairs p blank) l) [] n (within_none h)
      (λ p l v. within_insert (get_or pairs p blank) l (w.first p) (w.second p) v)

  pub ranked_within : (pool : Pool) → PairsWithin b pool.pairs → 0 < b → PairsWithin b (ranked pool)
  unfolding ranked
  ranked_within pool w h = within_take max_top_pairs (sorted pool.n pool.pairs) h (within_sorted pool.n pool.pairs h w)

-- ---- the pool
module _ (candidates : CandidateSet) (edge_align : Row) (grad_total : Float) (force_seed force_hist : Forced) where
  abbrev Fine : Pool → Type 0
  Fine p = PairsWithin candidates.n p.pairs

  abbrev pair_here : ℕ → ℕ → Pool → Pool
  pair_here = pooled_pair candidates edge_align grad_total force_seed force_hist

  abbrev row_here : ℕ → Pool → Pool
  row_here = pooled_from candidates edge_align grad_total force_seed force_hist

  pair_within : (i j : ℕ) (p : Pool) → i < candidates.n → j < candidates.n → Fine p → Fine (pair_here i j p)
  unfolding pooled_pair pooled pair_score
  pair_within i j p h k w = go (valid_pair (at candidates.angles i) (at candidates.angles j))
    where
      x : PairScore
      x = pair_score edge_align grad_total force_seed force_hist i j

      go : (t : Bool) → Fine (cond t (pooled x p) p)
      go true = within_set candidates.n p.pairs p.n x h k w
      go false = w

  row_within : (i : ℕ) (p : Pool) → i < candidates.n → Fine p → Fine (row_here i p)
  unfolding pooled_from
  row_within i p h w = range_keeps_below Fine (pair_here i) p (i + 1) candidates.n w (λ j x k v. pair_within i j x h k v)

  pub pool_within : 0 < candidates.n → PairsWithin candidates.n (build_pair_pool candidates edge_align grad_total force_seed force_hist).pairs
  unfolding build_pair_pool
  pool_within h =
      iter_keeps_below Fine row_here no_pairs candidates.n (within_replicate candidates.n max_pairs h) (λ i x l w. row_within i x l w)
