-- The loop keeps the leaders so far, and the cache holds what its marks say. Assumes nothing.
use mathlib.Core.Path.{◌≡◌}
use native.Mathlib.Omega.{arith}
use Rattle.loops.proofs.IterLaws.{iter_zero, iter_more}
use Rattle.search.specs.Search as S
use Rattle.search.specs.CacheLaws.{cached_none}
use borrow.Author.Rules.{rules}
use Rattle.search.proofs.try_width.Goals as goal

pub loop-p-init : goal.loop-p-init
loop-p-init c = (search rules, cached_none _ _ _ _ c.requires.2, omega arith, rw iter_zero)

pub loop-p-preserved : goal.loop-p-preserved
loop-p-preserved c =
    let t = c.try_pair-pass.ensures in
    let i = c.loop-p.invariant in
    (search rules, t.0, omega (arith, t.1, i.2), iter_more _ _ _ _ _ i.3 t.2)

pub returns : goal.returns
unfolding S.tried_at
returns c =
    let h : c.loop-p.p-index ≡ c.args.ranked.n = search rules in
    let i = rw h at c.loop-p.invariant in
    (i.1.room, i.2, rw c.requires.1.full i.3)
