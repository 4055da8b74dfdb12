-- The pool, its ranking, the trials and the leaders; the ranking names the pool's own candidates. Assumes nothing.
use native.Mathlib.Omega.{arith}
use borrow.Author.Tests.{eq-eqb, ne_eqb}
use Rattle.data.specs.Disk.{the_disk}
use Rattle.search_ranking.specs.SinkLaws.{rank_most, rank_pairs}
use Rattle.search.specs.Search as S
use Rattle.search.specs.CacheLaws.{listed}
use Rattle.search.proofs.search_set.Goals as goal

pub returns-then-pool-eq0 : goal.returns-then-pool-eq0
unfolding S.searched
returns-then-pool-eq0 c = rw (← c.pool_of-pool.ensures.1, eq-eqb _ _ c.if-pool-eq0.true)

pub try_all-requires : goal.try_all-requires
try_all-requires c =
    listed (the_disk c.args.d) _ _ _ _ _ c.requires.0 c.requires.1 c.pool_of-pool.ensures.1 c.rank-ranked.ensures

pub led-requires : goal.led-requires
led-requires c = omega (arith, c.try_all.ensures.0, rank_most _ _ c.rank-ranked.ensures)

pub returns : goal.returns
unfolding S.searched
returns c =
    let pool = c.pool_of-pool.ensures.1 in
    rw (← pool, ne_eqb _ _ c.if-pool-eq0.false, ← rank_pairs _ _ c.rank-ranked.ensures, ← c.try_all.ensures.1) c.led.ensures
