-- What is done of a pair's way down and what is left of it make the whole, and the first 24 of the first 24 are the first 24 of all. Assumes nothing.
use mathlib.Core.Path.{◌≡◌}
use Prim.Native.Nat.{◌≤◌}
use Rattle.search_ranking.specs.Ranking.{max_top_pairs}
use Rattle.search_ranking.specs.SinkLaws.{Sinks, Ranks}
use Rattle.search_ranking.proofs.rank.Given as goal

abbrev pub invariant-loop-t : goal.invariant-loop-t
invariant-loop-t l = (l.t ≤ l.k) × (l.k ≤ max_top_pairs) × (l.top.n ≡ l.k) × Sinks l.initial.carry l.initial.top.pairs l.k l.top.pairs l.carry l.t

abbrev pub invariant-loop-pair : goal.invariant-loop-pair
invariant-loop-pair l = (l.pair-index ≤ l.fn.pool.n) × (l.top.n ≤ max_top_pairs) × Ranks l.fn.pool.pairs l.top l.pair-index
