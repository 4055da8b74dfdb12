-- The loop keeps the leaders so far; each width adds as many trials as there are pairs. Assumes nothing.
use mathlib.Core.Path.{◌≡◌}
use Prim.Native.Nat.{◌+◌, ◌*◌, ◌≤◌}
use lib.ListN.{take, length}
use Rattle.floats.specs.Rows.{at}
use Rattle.loops.specs.Loops.{iter}
use Rattle.data.specs.Disk.{the_disk}
use Rattle.score.specs.Score.{widths_px}
use Rattle.search.specs.Search as S
use Rattle.search.specs.Cache.{cache_room}
use Rattle.search.proofs.try_all.Given as goal

abbrev pub invariant-loop-width : goal.invariant-loop-width
invariant-loop-width l = let ps = take l.ranked.n l.ranked.pairs in
    (l.width-index ≤ 4) × (length l.cache ≡ cache_room) × (l.leaders.trials ≤ 24 * l.width-index)
    × (l.leaders.trials ≡ iter (λ _ t. t + l.ranked.n) 0 l.width-index)
    × (l.leaders ≡ iter (λ w. S.tried_at (the_disk l.d) l.candidates ps (at widths_px w)) S.no_leaders l.width-index)
