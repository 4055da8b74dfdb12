-- What is done of a pair's way down and what is left of it make the whole, and the first 24 of the first 24 are the first 24 of all. Assumes nothing.
use mathlib.Core.Path.{◌≡◌, ◌∙◌, sym}
use Prim.Native.Nat.{◌<◌}
use native.Mathlib.Omega.{arith}
use Rattle.std.proofs.lemmas.List.{get_or-take}
use Rattle.search_ranking.specs.Ranking.{blank}
use Rattle.search_ranking.specs.SinkLaws.{sinks_swap, sinks_stay, ranks_none, ranks_more, ranks_full, ranks_all}
use borrow.Author.Rules.{rules}
use Rattle.search_ranking.proofs.rank.Goals as goal
use Rattle.search_ranking.proofs.rank.Goals.{then-k-lt-MAX_TOP_PAIRS, else-k-lt-MAX_TOP_PAIRS}

pub loop-pair-init : goal.loop-pair-init
loop-pair-init c =
    let e = c.unranked-top.ensures in
    (search rules, rw e.0 (omega arith), ranks_none _ _ e.0 e.1)

pub loop-t-preserved-then-not-is_before : goal.loop-t-preserved-then-not-is_before
loop-t-preserved-then-not-is_before c =
    let s = c.loop-t.invariant in
    let after = sym c.is_before.ensures ∙ c.if-not-is_before.true in
    (search rules, search rules, search rules, sinks_stay _ _ _ _ _ _ s.3 s.1 c.loop-t-test.true after)

pub loop-t-preserved : goal.loop-t-preserved
loop-t-preserved c =
    let s = c.loop-t.invariant in
    let before = sym c.is_before.ensures ∙ c.if-not-is_before.false in
    (search rules, search rules, search rules, sinks_swap _ _ _ _ _ _ s.3 s.1 c.loop-t-test.true before)

pub loop-pair-preserved : goal.loop-pair-preserved
loop-pair-preserved c =
    let l = c.loop-pair in
    let pool = c.args.pool in
    let i : l.pair-index < pool.n = search rules in
    let h : c.loop-t.t ≡ l.top.n = omega arith in
    let s = rw (h, get_or-take pool.n pool.pairs l.pair-index blank i) at c.loop-t.invariant.3 in
    elim c.if-k-lt-MAX_TOP_PAIRS.branch [
      | then-k-lt-MAX_TOP_PAIRS w ↦ rw w.top-is (search rules, search rules, ranks_more _ _ _ l.invariant.2 _ _ (search rules) s)
      | else-k-lt-MAX_TOP_PAIRS w ↦
          rw w.top-is (search rules, omega arith, ranks_full _ _ _ l.invariant.2 _ _ (search rules) c.loop-t.invariant.2 s)
    ]

pub returns : goal.returns
returns c =
    let h : c.loop-pair.pair-index ≡ c.args.pool.n = search rules in
    ranks_all _ _ (rw h at c.loop-pair.invariant.2)
