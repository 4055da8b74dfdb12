-- The ranking of the pool: disk_sector/search.rs, best_disk_fit, step 3. Definitions only.
-- The Rust selects the first k and sorts them; no two pairs share i and j, so that this is the sorted pool's first k.
use Rattle.std.specs.Prelude.{Bool, true, false, cond, List, [], ◌∷◌, ◌++◌, ℕ, ◌-◌, min, length, take, get_or, replicate, ltb}
use Rattle.std.specs.Float.{nan}
use Rattle.floats.specs.Library.{total_key}
use Rattle.candidates.specs.declared.PairScore.{PairScore}
use Rattle.candidates.specs.declared.Pool.{Pool}
use Rattle.candidates.specs.Candidates.{no_pair}
use Rattle.loops.specs.Loops.{iter}
use Rattle.search_ranking.specs.declared.Ranked.{Ranked}

-- MAX_TOP_PAIRS
abbrev pub max_top_pairs : ℕ
max_top_pairs = 24

-- greater edge score by the total order, then lower i, then lower j
unfoldable pub keys_before : PairScore → PairScore → Bool
keys_before a b =
    cond (ltb (total_key b.edge_score) (total_key a.edge_score)) true
    (cond (ltb (total_key a.edge_score) (total_key b.edge_score)) false
    (cond (ltb a.i b.i) true
    (cond (ltb b.i a.i) false (ltb a.j b.j))))

-- the closure `cmp`: whether a stands before b. Forced pairs come first.
unfoldable pub is_before : PairScore → PairScore → Bool
is_before a b = cond a.forced (cond b.forced (keys_before a b) true) (cond b.forced false (keys_before a b))

-- x put into a sorted list: of x and the first, the one that stands before stays, and the other goes on
unfoldable pub insert_ranked : PairScore → List PairScore → List PairScore
insert_ranked x [] = x ∷ []
insert_ranked x (y ∷ l) = cond (is_before x y) (x ∷ insert_ranked y l) (y ∷ insert_ranked x l)

-- what stands past the end of an array of pairs
abbrev pub blank : PairScore
blank = record { i = 0; j = 0; edge_score = nan; forced = false }

-- the first n pairs, sorted
unfoldable pub sorted : ℕ → List PairScore → List PairScore
sorted n pairs = iter (λ p l. insert_ranked (get_or pairs p blank) l) [] n

-- the first of the sorted pool
unfoldable pub ranked : Pool → List PairScore
ranked pool = take max_top_pairs (sorted pool.n pool.pairs)

-- in an array: k = n_pairs.min(MAX_TOP_PAIRS) pairs, and no pair in the places behind them
unfoldable pub rank : Pool → Ranked
rank pool = record { n = min max_top_pairs pool.n; pairs = ranked pool ++ replicate (max_top_pairs - length (ranked pool)) no_pair }
