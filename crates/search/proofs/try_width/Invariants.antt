-- The loop keeps the leaders so far, and the cache holds what its marks say. Assumes nothing.
use mathlib.Core.Path.{◌≡◌}
use Prim.Native.Nat.{◌+◌, ◌≤◌}
use lib.ListN.{take, get_or}
use Rattle.loops.specs.Loops.{iter}
use Rattle.data.specs.Disk.{the_disk}
use Rattle.search_ranking.specs.Ranking.{blank}
use Rattle.search.specs.Search as S
use Rattle.search.specs.Cache.{Cached}
use Rattle.search.proofs.try_width.Given as goal

abbrev pub invariant-loop-p : goal.invariant-loop-p
invariant-loop-p l =
    let D = the_disk l.d in
    let n = l.fn.ranked.n in
    let ps = take n l.fn.ranked.pairs in
    (l.p-index ≤ n) × Cached D l.candidates l.width l.pass.filled l.cache
    × (l.pass.leaders.trials ≡ l.initial.pass.leaders.trials + l.p-index)
    × (l.pass.leaders ≡ iter (λ r t. S.entered t (S.pair_scored D l.candidates l.width (get_or ps r blank))) l.initial.pass.leaders l.p-index)
