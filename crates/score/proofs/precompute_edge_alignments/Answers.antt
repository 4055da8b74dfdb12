-- A disk without weight is left as it is; otherwise the loop stores a sum a turn. Assumes nothing.
use mathlib.Core.Path.{◌≡◌}
use native.Mathlib.Omega.{arith}
use Rattle.loops.proofs.TabLaws.{stores_none, stores_next}
use Rattle.score.specs.ScoreLaws.{aligned_none, aligned_all}
use borrow.Author.Rules.{rules}
use Rattle.score.proofs.precompute_edge_alignments.Goals as goal

pub returns-then-total : goal.returns-then-total
returns-then-total c = λ energy xs ys vals l.
    aligned_none _ _ _ _ _ _ c.edge_weight_total-total.ensures c.requires.0 l c.if-total.true

pub loop-c-init : goal.loop-c-init
loop-c-init c = (search rules, search rules, stores_none _ _)

pub loop-c-preserved : goal.loop-c-preserved
loop-c-preserved c =
    let i = c.loop-c.invariant in
    (search rules, search rules, stores_next _ _ _ _ _ i.2 c.edge_sum.ensures)

pub returns : goal.returns
returns c = λ energy xs ys vals l.
    let h : c.loop-c.c ≡ c.args.candidates.n = omega arith in
    aligned_all _ _ _ _ _ _ c.edge_weight_total-total.ensures c.requires.0 l _ _ c.if-total.false c.loop-c.invariant.2 h
