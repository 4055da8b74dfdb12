-- The loop keeps the leaders so far; each width adds as many trials as there are pairs. Assumes nothing.
use mathlib.Core.Path.{◌≡◌}
use native.Mathlib.Omega.{arith}
use Rattle.loops.specs.Loops.{iter}
use Rattle.loops.proofs.IterLaws.{iter_zero, iter_more}
use Rattle.search.specs.Search as S
use borrow.Author.Rules.{rules}
use Rattle.search.proofs.try_all.Goals as goal

pub loop-width-init : goal.loop-width-init
loop-width-init c =
    let e = c.default-leaders.ensures in
    let none : c.default-leaders.result ≡ S.no_leaders =
    λ i. record { top = record { first = e.0.0 i; second = e.0.1 i }; trials = e.1 i } in
    (search rules, search rules, search rules, rw iter_zero (search rules), rw iter_zero none)

pub loop-width-preserved : goal.loop-width-preserved
loop-width-preserved c =
    let t = c.try_width-leaders.ensures in
    let i = c.loop-width.invariant in (
      search rules,
      t.0,
      omega (arith, t.1, i.2, c.requires.most),
      iter_more _ _ _ _ _ i.3 t.1,
      iter_more _ _ _ _ _ i.4 t.2,
    )

pub returns : goal.returns
unfolding S.tried_all iter
returns c =
    let h : c.loop-width.width-index ≡ 4 = omega arith in
    let i = rw h at c.loop-width.invariant in
    (omega (arith, i.3), i.4)
