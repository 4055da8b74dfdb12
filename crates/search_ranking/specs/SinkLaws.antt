-- A pair goes down the first 24 place by place, and keeping the first 24 at every step keeps the first 24 of all; no other place is touched.
-- Assumes nothing.
use Rattle.std.specs.Prelude.{◌≡◌, true, false, List, [], ◌∷◌, ◌++◌, ℕ, suc, ◌+◌, ◌-◌, ◌≤◌, ◌<◌, min, take, drop, get_or, set, replicate}
use Rattle.std.proofs.Math.Path.{sym, ap}
use Rattle.std.proofs.Common.{◌∙◌, append_assoc, add-one, arith, length-set, length-take, take-append-drop, take-suc, take-suc-set, take_all, take_at}
use Rattle.std.proofs.Common.{length-take-le, drop-set-lt, drop-drop, get_or-drop}
use Rattle.std.proofs.Math.ListN.{length}
use Rattle.std.proofs.Math.Seq.{slice, slice-cons, slice_empty}
use Rattle.candidates.specs.Candidates.{no_pair}
use Rattle.candidates.specs.declared.PairScore.{PairScore}
use Rattle.candidates.specs.declared.Pool.{Pool}
use Rattle.loops.proofs.IterLaws.{iter_zero}
use Rattle.search_ranking.specs.declared.Ranked.{Ranked}
use Rattle.search_ranking.specs.Ranking.{max_top_pairs, is_before, insert_ranked, blank, sorted, ranked, rank}
use Rattle.search_ranking.specs.RankingLaws.{insert_before, insert_after, take_insert, sorted_next, sorted_length}

-- ---- the pair x goes down the first k of l₀: t places are done, l is what stands there now and carry is in hand
pub record Sinks (x : PairScore) (l₀ : List PairScore) (k : ℕ) (l : List PairScore) (carry : PairScore) (t : ℕ) : Type 0 where
  pub len : length l ≡ max_top_pairs
  pub room : length l₀ ≡ max_top_pairs
  pub rest : drop t l ≡ drop t l₀
  pub is : take t l ++ insert_ranked carry (slice t k l₀) ≡ insert_ranked x (take k l₀)

drop_next : (l l₀ : List PairScore) (t : ℕ) → drop t l ≡ drop t l₀ → drop (t + 1) l ≡ drop (t + 1) l₀
drop_next l l₀ t e = sym (drop-drop 1 t l) ∙ ap (drop 1) e ∙ drop-drop 1 t l₀

same_next : (l l₀ : List PairScore) (t : ℕ) → drop t l ≡ drop t l₀ → get_or l t blank ≡ get_or l₀ t blank
same_next l l₀ t e =
    let z : t + 0 ≡ t = omega arith in
    rw z at (sym (get_or-drop t l 0 blank) ∙ ap (λ (r : List PairScore). get_or r 0 blank) e ∙ get_or-drop t l₀ 0 blank)

module _
    (x : PairScore) (l₀ : List PairScore) (k : ℕ) (l : List PairScore) (carry : PairScore) (t : ℕ)
    (s : Sinks x l₀ k l carry t) (h : k ≤ max_top_pairs) (i : t < k) where
  -- carry stands before the pair at t: it takes the place, and that pair is in hand
  pub sinks_swap : is_before carry (get_or l t blank) ≡ true → Sinks x l₀ k (set l t carry) (get_or l t blank) (t + 1)
  sinks_swap e =
      let r = s.room in
      let q = s.len in
      let y = same_next l l₀ t s.rest in
      let z : slice t k l₀ ≡ get_or l₀ t blank ∷ slice (suc t) k l₀ = slice-cons t k l₀ blank i (omega arith) in
      let w : take (suc t) (set l t carry) ≡ take t l ++ (carry ∷ []) = take-suc-set l t carry (omega arith) in
      record {
        len = length-set l t carry ∙ s.len;
        room = s.room;
        rest = drop-set-lt (t + 1) l t carry (omega arith) ∙ drop_next l l₀ t s.rest;
        is =
            rw (add-one, w, append_assoc, y)
            (rw (z, insert_before carry (get_or l₀ t blank) (slice (suc t) k l₀) (rw y at e)) at s.is);
      }

  -- carry goes past the pair at t
  pub sinks_stay : is_before carry (get_or l t blank) ≡ false → Sinks x l₀ k l carry (t + 1)
  sinks_stay e =
      let r = s.room in
      let q = s.len in
      let y = same_next l l₀ t s.rest in
      let z : slice t k l₀ ≡ get_or l₀ t blank ∷ slice (suc t) k l₀ = slice-cons t k l₀ blank i (omega arith) in
      let w : take (suc t) l ≡ take t l ++ (get_or l t blank ∷ []) = take-suc l t blank (omega arith) in
      record {
        len = s.len;
        room = s.room;
        rest = drop_next l l₀ t s.rest;
        is =
            rw (add-one, w, append_assoc, y)
            (rw (z, insert_after carry (get_or l₀ t blank) (slice (suc t) k l₀) (rw y at e)) at s.is);
      }

-- at the end the pair in hand is the one that follows the k places
sinks_end :
    (x : PairScore) (l₀ : List PairScore) (k : ℕ) (l : List PairScore) (carry : PairScore) →
    Sinks x l₀ k l carry k → take k l ++ (carry ∷ []) ≡ insert_ranked x (take k l₀)
unfolding insert_ranked
sinks_end x l₀ k l carry s = rw (slice_empty k l₀) at s.is

-- ---- the ranking of the first p pairs: top holds the first 24 of them, sorted, and no pair behind them
pub record Ranks (pairs : List PairScore) (top : Ranked) (p : ℕ) : Type 0 where
  pub len : length top.pairs ≡ max_top_pairs
  pub count : top.n ≡ min max_top_pairs p
  pub is : take top.n top.pairs ≡ take max_top_pairs (sorted p pairs)
  pub rest : drop top.n top.pairs ≡ replicate (max_top_pairs - top.n) no_pair

pub ranks_none : (pairs : List PairScore) (top : Ranked) → top.n ≡ 0 → top.pairs ≡ replicate max_top_pairs no_pair → Ranks pairs top 0
unfolding sorted
ranks_none pairs top e h = record { len = ap length h; count = e; is = rw (e, iter_zero); rest = rw (e, h) }

module _ (pairs : List PairScore) (top : Ranked) (p : ℕ) (r : Ranks pairs top p) where
  -- a place is left: the pair in hand takes it
  pub ranks_more :
      (l : List PairScore) (carry : PairScore) → top.n < max_top_pairs → Sinks (get_or pairs p blank) top.pairs top.n l carry top.n →
      Ranks pairs (record { n = top.n + 1; pairs = set l top.n carry }) (p + 1)
  ranks_more l carry h s =
      let c = r.count in
      let q = s.len in
      let n = sorted_length p pairs in
      let m = sorted_length (p + 1) pairs in
      record {
        len = length-set l top.n carry ∙ s.len;
        count = omega arith;
        is =
            rw add-one (take-suc-set l top.n carry (omega arith))
            ∙ sinks_end (get_or pairs p blank) top.pairs top.n l carry s
            ∙ ap (insert_ranked (get_or pairs p blank)) (r.is ∙ take_all max_top_pairs (sorted p pairs) (omega arith))
            ∙ sym (take_all max_top_pairs (sorted (p + 1) pairs) (omega arith) ∙ sorted_next p pairs);
        rest = drop-set-lt (top.n + 1) l top.n carry (omega arith) ∙ behind top.n l h (s.rest ∙ r.rest);
      }
    where
      behind :
          (k : ℕ) (l : List PairScore) → k < max_top_pairs → drop k l ≡ replicate (max_top_pairs - k) no_pair →
          drop (k + 1) l ≡ replicate (max_top_pairs - (k + 1)) no_pair
      behind k l h e =
          let z : max_top_pairs - k ≡ suc (max_top_pairs - (k + 1)) = omega arith in
          sym (drop-drop 1 k l) ∙ ap (drop 1) (e ∙ ap (λ (m : ℕ). replicate m no_pair) z)

  -- no place is left: the pair in hand is dropped
  pub ranks_full :
      (now : Ranked) (carry : PairScore) → max_top_pairs ≤ top.n → now.n ≡ top.n →
      Sinks (get_or pairs p blank) top.pairs top.n now.pairs carry top.n → Ranks pairs now (p + 1)
  ranks_full now carry h same s =
      let q = s.len in
      let c = r.count in
      let x = get_or pairs p blank in
      let e : top.n ≡ max_top_pairs = omega arith in
      let t : take top.n (take top.n now.pairs ++ (carry ∷ [])) ≡ take top.n now.pairs =
      take_at (take top.n now.pairs) (carry ∷ []) top.n (length-take-le top.n now.pairs (omega arith)) in
      record {
        len = s.len;
        count = omega arith;
        is =
            ap (λ (a : ℕ). take a now.pairs) same ∙ sym t
            ∙ ap (take top.n) (sinks_end x top.pairs top.n now.pairs carry s ∙ ap (insert_ranked x) r.is)
            ∙ ap (λ (a : ℕ). take a (insert_ranked x (take max_top_pairs (sorted p pairs)))) e
            ∙ sym (ap (take max_top_pairs) (sorted_next p pairs) ∙ take_insert max_top_pairs x (sorted p pairs));
        rest = rw same (s.rest ∙ r.rest);
      }

-- ---- the whole
pub ranked_length : (pool : Pool) → length (ranked pool) ≡ min max_top_pairs pool.n
unfolding ranked
ranked_length pool = length-take max_top_pairs (sorted pool.n pool.pairs) ∙ ap (min max_top_pairs) (sorted_length pool.n pool.pairs)

pub ranks_all : (pool : Pool) (top : Ranked) → Ranks pool.pairs top pool.n → top ≡ rank pool
unfolding rank
ranks_all pool top r = λ i. record { n = r.count i; pairs = all i }
  where
    all : top.pairs ≡ ranked pool ++ replicate (max_top_pairs - length (ranked pool)) no_pair
    all =
        let few : top.n ≡ length (ranked pool) = r.count ∙ sym (ranked_length pool) in
        let is : take top.n top.pairs ≡ ranked pool = unfold ranked in r.is in
        sym (take-append-drop top.n top.pairs) ∙ rw (is, r.rest, few)

-- what a caller of `rank` has
module _ (pool : Pool) (r : Ranked) (e : r ≡ rank pool) where
  pub rank_count : r.n ≡ min max_top_pairs pool.n
  unfolding rank
  rank_count = ap (λ (z : Ranked). z.n) e

  pub rank_most : r.n ≤ max_top_pairs
  rank_most = let c = rank_count in omega arith

  pub rank_pairs : take r.n r.pairs ≡ ranked pool
  unfolding rank
  rank_pairs = rw e (take_at (ranked pool) (replicate (max_top_pairs - length (ranked pool)) no_pair) (min max_top_pairs pool.n) (ranked_length pool))
