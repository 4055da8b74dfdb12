-- No two pairs of a pool share i and j: the loops that pair the candidates go up, so that the places 24 * i + j rise. Assumes nothing.
use Rattle.std.specs.Prelude.{◌≡◌, refl, Bool, true, false, cond, length, take, set, Float}
use Rattle.std.proofs.Common.{sym, ◌∙◌, inl, inr, length-set, take-suc-set}
use Rattle.std.proofs.Math.Path.{ap}
use mathlib.Core.HLevel.{Discrete, hedberg}
use Rattle.std.proofs.Math.Logic.{∥∥₁_elim}
use Rattle.std.proofs.Math.Bool.{Bool-discrete}
use mathlib.Core.List.Memᴰ
use mathlib.Core.List.{List, [], ◌∷◌, ◌++◌, Mem, Memᴰ}
use Prim.Native.Nat.{ℕ, zero, suc, ◌+◌, ◌-◌, ◌*◌, ◌≤◌, ◌<◌}
use Rattle.std.proofs.Math.Numerals.{add-one}
use Rattle.std.proofs.Math.Decide.{ℕ_discrete}
use native.Mathlib.Omega.{arith}
use Rattle.floats.specs.Rows.{Row, at}
use Rattle.floats.specs.DiscreteLaws.{float_discrete}
use Rattle.geometry.specs.Geometry.{valid_pair}
use Rattle.loops.specs.Loops.{iter, range}
use Rattle.candidates.specs.Candidates.{Forced, max_paired, max_pairs, no_pairs, pair_score, pooled, pooled_pair, pooled_from, build_pair_pool}
use Rattle.candidates.specs.CandidatesLaws.{rows_before, rows_next, rows_most, row_room}
use Rattle.candidates.specs.declared.CandidateSet.{CandidateSet}
use Rattle.candidates.specs.declared.PairScore.{PairScore}
use Rattle.candidates.specs.declared.Pool.{Pool}

-- two pairs of l that share i and j are one
abbrev pub Distinct : List PairScore → Type 0
Distinct l = (u v : PairScore) → Mem u l → Mem v l → u.i ≡ v.i → u.j ≡ v.j → u ≡ v

-- ---- the pairs are a set: their equality is that of their parts, and can be decided
module _ (u v : PairScore) where
  pair_dec : Dec (u.i ≡ v.i) → Dec (u.j ≡ v.j) → Dec (u.edge_score ≡ v.edge_score) → Dec (u.forced ≡ v.forced) → Dec (u ≡ v)
  pair_dec (no f) b c d = no (λ q. f (ap (λ (p : PairScore). p.i) q))
  pair_dec (yes a) (no f) c d = no (λ q. f (ap (λ (p : PairScore). p.j) q))
  pair_dec (yes a) (yes b) (no f) d = no (λ q. f (ap (λ (p : PairScore). p.edge_score) q))
  pair_dec (yes a) (yes b) (yes c) (no f) = no (λ q. f (ap (λ (p : PairScore). p.forced) q))
  pair_dec (yes a) (yes b) (yes c) (yes d) = yes (λ k. record { i = a k; j = b k; edge_score = c k; forced = d k })

pair_set : IsSet PairScore
pair_set = hedberg decided
  where
    decided : Discrete PairScore
    decided u v =
        let score = float_discrete u.edge_score v.edge_score in
        pair_dec u v (ℕ_discrete u.i v.i) (ℕ_discrete u.j v.j) score (Bool-discrete u.forced v.forced)

-- ---- the places of a list's pairs rise, from a on and below k
abbrev spot : ℕ → ℕ → ℕ
spot i j = max_paired * i + j

abbrev place : PairScore → ℕ
place u = spot u.i u.j

abbrev Rising : ℕ → List PairScore → ℕ → Type 0
Rising a [] k = a ≤ k
Rising a (x ∷ l) k = (a ≤ place x) × Rising (place x + 1) l k

rising_on : (a : ℕ) (l : List PairScore) (k m : ℕ) → k ≤ m → Rising a l k → Rising a l m
rising_on a [] k m h r = omega arith
rising_on a (x ∷ l) k m h r = (r.0, rising_on (place x + 1) l k m h r.1)

rising_more : (a : ℕ) (l : List PairScore) (x : PairScore) (k m : ℕ) → Rising a l k → k ≤ place x → place x < m → Rising a (l ++ (x ∷ [])) m
rising_more a [] x k m r h p = (omega arith, omega arith)
rising_more a (y ∷ l) x k m r h p = (r.0, rising_more (place y + 1) l x k m r.1 h p)

above : (a : ℕ) (l : List PairScore) (k : ℕ) → Rising a l k → (u : PairScore) → Memᴰ u l → a ≤ place u
above a [] k r u d = absurd (Memᴰ.not-nil d)
above a (x ∷ l) k r u d = elim (Memᴰ.cases_cons d) [
  | inl e ↦ rw e r.0
  | inr m ↦ let b = above (place x + 1) l k r.1 u m in let c = r.0 in omega arith
]

-- where both stand in the list, equal i and j are one pair
module _ (u v : PairScore) (p : u.i ≡ v.i) (q : u.j ≡ v.j) where
  one_pair : (a : ℕ) (l : List PairScore) (k : ℕ) → Rising a l k → Memᴰ u l → Memᴰ v l → u ≡ v
  one_pair a [] k r d e = absurd (Memᴰ.not-nil d)
  one_pair a (x ∷ l) k r d e = elim (Memᴰ.cases_cons d) [
    | inl f ↦ elim (Memᴰ.cases_cons e) [
      | inl g ↦ f ∙ sym g
      | inr n ↦ absurd (differ (place x) (place u) (place v) same (ap place f) (above (place x + 1) l k r.1 v n))
    ]
    | inr m ↦ elim (Memᴰ.cases_cons e) [
      | inl g ↦ absurd (differ (place x) (place v) (place u) (sym same) (ap place g) (above (place x + 1) l k r.1 u m))
      | inr n ↦ one_pair (place x + 1) l k r.1 m n
    ]
  ]
    where
      same : place u ≡ place v
      same = rw (p, q)

      differ : (z a b : ℕ) → a ≡ b → a ≡ z → z + 1 ≤ b → ⊥
      differ z a b e f h = omega arith

distinct : (a : ℕ) (l : List PairScore) (k : ℕ) → Rising a l k → Distinct l
distinct a l k r u v m n p q = ∥∥₁_elim m (pair_set u v) (λ d. ∥∥₁_elim n (pair_set u v) (λ e. one_pair u v p q a l k r d e))

-- ---- the pool: at most c pairs so far, all of them below the place k
record Fresh (c k : ℕ) (p : Pool) : Type 0 where
  places : length p.pairs ≡ max_pairs
  most : p.n ≤ c
  rising : Rising 0 (take p.n p.pairs) k

fresh_on : (c d k m : ℕ) (p : Pool) → c ≤ d → k ≤ m → Fresh c k p → Fresh d m p
fresh_on c d k m p h l f =
    record { places = f.places; most = omega (arith, f.most); rising = rising_on 0 (take p.n p.pairs) k m l f.rising }

module _ (candidates : CandidateSet) (edge_align : Row) (grad_total : Float) (force_seed force_hist : Forced) where
  abbrev pair_here : ℕ → ℕ → Pool → Pool
  pair_here = pooled_pair candidates edge_align grad_total force_seed force_hist

  abbrev row_here : ℕ → Pool → Pool
  row_here = pooled_from candidates edge_align grad_total force_seed force_hist

  pair_fresh : (i j c : ℕ) (p : Pool) → c < max_pairs → Fresh c (spot i j) p → Fresh (c + 1) (spot i (j + 1)) (pair_here i j p)
  unfolding pooled_pair pooled pair_score
  pair_fresh i j c p h f = go (valid_pair (at candidates.angles i) (at candidates.angles j))
    where
      x : PairScore
      x = pair_score edge_align grad_total force_seed force_hist i j

      grown : take (p.n + 1) (set p.pairs p.n x) ≡ take p.n p.pairs ++ (x ∷ [])
      grown = rw add-one (take-suc-set p.pairs p.n x (omega (arith, f.most, f.places)))

      more : Rising 0 (take p.n p.pairs ++ (x ∷ [])) (spot i (j + 1))
      more = rising_more 0 (take p.n p.pairs) x (spot i j) (spot i (j + 1)) f.rising (omega arith) (omega arith)

      go : (t : Bool) → Fresh (c + 1) (spot i (j + 1)) (cond t (pooled x p) p)
      go true = record {
        places = length-set p.pairs p.n x ∙ f.places;
        most = omega (arith, f.most);
        rising = rw grown more;
      }
      go false = fresh_on c (c + 1) (spot i j) (spot i (j + 1)) p (omega arith) (omega arith) f

  row_fresh :
      (i c : ℕ) (p : Pool) (d : ℕ) → c + d ≤ max_pairs → Fresh c (spot i (i + 1)) p →
      Fresh (c + d) (spot i (i + 1 + d)) (iter (λ e. pair_here i (i + 1 + e)) p d)
  unfolding iter
  row_fresh i c p zero h f =
      let z : c + 0 ≡ c = omega arith in
      let y : i + 1 + 0 ≡ i + 1 = omega arith in
      rw (z, y) f
  row_fresh i c p (suc d) h f =
      let z : c + suc d ≡ c + d + 1 = omega arith in
      let y : i + 1 + suc d ≡ i + 1 + d + 1 = omega arith in
      rw (z, y) (pair_fresh i (i + 1 + d) (c + d) _ (omega arith) (row_fresh i c p d (omega arith) f))

  rows_fresh : (i : ℕ) → candidates.n ≤ max_paired → i ≤ candidates.n → Fresh (rows_before candidates.n i) (spot i 0) (iter row_here no_pairs i)
  unfolding iter pooled_from range
  rows_fresh zero h l = record { places = refl; most = omega arith; rising = omega arith }
  rows_fresh (suc i) h l =
      let n = candidates.n in
      let r = rows_before n i in
      let e : rows_before n (suc i) ≡ r + (n - (i + 1)) = rw add-one at (rows_next n i) ∙ ap (λ (k : ℕ). r + k) (omega arith) in
      let c = row_room n i h l in
      let p : Pool = iter row_here no_pairs i in
      let b = fresh_on r r (spot i 0) (spot i (i + 1)) p (omega arith) (omega arith) (rows_fresh i h (omega arith)) in
      let f = row_fresh i r p (n - (i + 1)) (omega arith) b in
      fresh_on (r + (n - (i + 1))) (rows_before n (suc i)) (spot i (i + 1 + (n - (i + 1)))) (spot (suc i) 0) (row_here i p)
      (rw e (omega arith)) (omega arith) f

  abbrev pool : Pool
  pool = build_pair_pool candidates edge_align grad_total force_seed force_hist

  pub pool_few : candidates.n ≤ max_paired → pool.n ≤ length pool.pairs
  unfolding build_pair_pool
  pool_few h =
      let n = candidates.n in
      let f = rows_fresh n h (omega arith) in
      omega (arith, f.most, f.places, rows_most n n h (omega arith))

  pub pool_distinct : candidates.n ≤ max_paired → Distinct (take pool.n pool.pairs)
  unfolding build_pair_pool
  pool_distinct h = distinct 0 _ (spot candidates.n 0) (rows_fresh candidates.n h (omega arith)).rising
