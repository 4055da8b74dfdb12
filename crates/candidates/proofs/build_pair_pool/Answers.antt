-- Nested loops, each the definition's own; the invariants also bound the count, so that each pair has its place. Assumes nothing.
use mathlib.Core.Path.{◌≡◌, ap}
use native.Mathlib.Omega.{arith}
use Rattle.loops.proofs.IterLaws.{iter_zero, range_start, iter_more, range_more}
use Rattle.candidates.specs.declared.Pool.{Pool}
use Rattle.candidates.specs.Candidates as C
use Rattle.candidates.specs.CandidatesLaws.{rows_zero, rows_next, row_room}
use borrow.Author.Rules.{rules}
use Rattle.candidates.proofs.build_pair_pool.Goals as goal

pub loop-i-init : goal.loop-i-init
loop-i-init c =
    let e = c.no_pairs-pool.ensures in
    let z = ap (λ (p : Pool). p.n) e in
    (search rules, omega arith, rw rows_zero (omega arith), rw iter_zero e)

pub pairs-init : goal.pairs-init
pairs-init c =
    let h = row_room c.args.candidates.n c.loop-i.i (search rules) (search rules) in
    (search rules, search rules, search rules, h, omega arith, rw range_start)

pub pairs-preserved-then-not-valid_pair : goal.pairs-preserved-then-not-valid_pair
unfolding C.pooled_pair
pairs-preserved-then-not-valid_pair c =
    let e = c.pairs.invariant.5 in
    let no = c.if-not-valid_pair.true in
    (search rules, search rules, search rules, search rules, omega arith, range_more _ _ _ _ _ _ (search rules) e (rw (← c.valid_pair.ensures, no)))

pub pairs-preserved : goal.pairs-preserved
unfolding C.pooled_pair C.pooled
pairs-preserved c =
    let e = c.pairs.invariant.5 in
    let yes = c.if-not-valid_pair.false in (
      search rules,
      search rules,
      search rules,
      search rules,
      omega arith,
      range_more _ _ _ _ _ _ (search rules) e (rw (← c.valid_pair.ensures, yes, c.pair_score-p.ensures)),
    )

pub loop-i-preserved : goal.loop-i-preserved
unfolding C.pooled_from
loop-i-preserved c =
    let n = c.args.candidates.n in
    let e = rows_next n c.loop-i.i in
    let h : c.pairs.j ≡ n = omega arith in
    (search rules, omega arith, omega arith, iter_more _ _ _ _ _ c.loop-i.invariant.3 (rw h at c.pairs.invariant.5))

pub returns : goal.returns
unfolding C.build_pair_pool
returns c =
    let h : c.loop-i.i ≡ c.args.candidates.n = omega arith in
    (omega arith, rw h at c.loop-i.invariant.3)
