-- Each lane is skipped, which changes nothing, or tried, and past the last allowed pair nothing is left. Assumes nothing.
use mathlib.Core.Path.{◌≡◌, sym, subst, ◌∙◌}
use Prim.Native.Nat.{◌+◌}
use native.Mathlib.Omega.{arith}
use borrow.Author.Tests.{leb-true}
use Rattle.loops.proofs.IterLaws.{iter_zero, iter_more}
use Rattle.robust_lanes.specs.Lanes as L
use Rattle.robust_grid.specs.Places as P
use Rattle.robust_grid.specs.BlockLaws.{last_most, lanes_end, lane_squared, lane_skipped, lane_tried}
use borrow.Author.Rules.{rules}
use Rattle.robust_grid.proofs.lanes_tried.Goals as goal

pub lanes-init : goal.lanes-init
lanes-init c =
    (search rules, rw iter_zero)

pub lanes-preserved-then-xs-k : goal.lanes-preserved-then-xs-k
lanes-preserved-then-xs-k c =
    let a = c.args in
    let inv = c.lanes.invariant in
    let few = c.lanes-test.true in
    let pair = sym c.is_pair.ensures ∙ c.if-not-is_pair.false in
    let same = lane_skipped a.n a.centered_ss a.mean a.m a.p _ c.mean_squares-xs.ensures c.lanes.k few _ _ pair c.lanes.best.kept
    c.if-xs-k.true in
    (omega (arith, few), iter_more _ _ _ _ _ inv.1 same)

pub grid_angle-theta2-requires : goal.grid_angle-theta2-requires
grid_angle-theta2-requires c =
    let pair = sym c.is_pair.ensures ∙ c.if-not-is_pair.false in
    let p = c.args.p in
    omega (arith, leb-true (p.b + c.lanes.k) (P.last_of p.a) pair, last_most p.a)

pub tried-best-requires : goal.tried-best-requires
tried-best-requires c =
    let a = c.args in
    let k = c.lanes.k in
    let theta1 = c.grid_angle-theta1.ensures in
    let theta2 = c.grid_angle-theta2.ensures in
    let scored = rw (theta1, theta2) at c.scored_from-c.ensures in
    let squared = lane_squared a.n a.centered_ss a.mean a.m a.p _ c.mean_squares-xs.ensures k c.lanes-test.true in
    subst (L.Squared _) (sym scored) squared

pub lanes-preserved : goal.lanes-preserved
lanes-preserved c =
    let a = c.args in
    let inv = c.lanes.invariant in
    let few = c.lanes-test.true in
    let pair = sym c.is_pair.ensures ∙ c.if-not-is_pair.false in
    let theta1 = c.grid_angle-theta1.ensures in
    let theta2 = c.grid_angle-theta2.ensures in
    let scored = rw (theta1, theta2) at c.scored_from-c.ensures in
    let tried = c.tried-best.ensures in
    let next = lane_tried a.n a.centered_ss a.mean a.m a.p c.lanes.k _ _ _ pair scored tried in
    (omega (arith, few), iter_more _ _ _ _ _ inv.1 next)

pub returns-after-lanes : goal.returns-after-lanes
unfolding P.lanes_tried
returns-after-lanes c =
    let k : c.lanes.k ≡ 4 = omega arith in
    rw k at c.lanes.invariant.1

pub returns-then-not-is_pair : goal.returns-then-not-is_pair
returns-then-not-is_pair c =
    let a = c.args in
    let inv = c.lanes.invariant in
    let past = sym c.is_pair.ensures ∙ c.if-not-is_pair.true in
    lanes_end a.n a.centered_ss a.mean a.m a.p c.lanes.k _ _ inv.0 past inv.1
