-- A turn takes the row and the sample at their own place, and the loop keeps the sums of the four pairs so far. Assumes nothing.
use Rattle.std.proofs.Common.{rules, arith, ◌≡◌, ◌∷◌, [], ◌++◌, ◌+◌, length, length-append}
use Rattle.std.proofs.lemmas.Slice.Zip.{zip_turn, zip_end}
use Rattle.std.specs.Float.{nan}
use Rattle.floats.specs.Rows.{Row, at}
use Rattle.robust_lanes.specs.LaneLaws.{lanes_none, lanes_more, lane_places}
use Rattle.robust_lanes.proofs.lane_sums.Goals as goal

pub loop-row-init : goal.loop-row-init
loop-row-init c = lanes_none _ _ _ _

pub loop-row-preserved : goal.loop-row-preserved
loop-row-preserved c =
    let y = c.loop-row.yielded in
    let s = c.into_iter-row-iterator.result in
    let t = zip_turn c.args.h.now c.args.centered.now y s c.loop-row.row-iterator c.next.new.self c.next.result (search rules) (search rules)
    c.loop-row.yielded_by _ c.in-Some.is c.next.ensures.steps in
    let z : length (y ++ ((c.in-Some.row, c.in-Some.v) ∷ [])) ≡ length y + 1 = length-append y _ in
    let r = c.in-Some.row.now in
    let b = c.args.b in
    let four_places : Row = at r b ∷ at r (b + 1) ∷ at r (b + 2) ∷ at r (b + 3) ∷ [] in
    rw z
    (lanes_more c.args.centered.now c.args.h.now c.args.a b (length y) _ _ four_places c.loop-row.invariant (rw (← t.2 []) (lane_places r b))
    (rw (← t.2 [], ← t.3 nan) c.lanes_added-s.ensures))

pub returns : goal.returns
returns c =
    let y = c.loop-row.yielded in
    let s = c.into_iter-row-iterator.result in
    let e = zip_end c.args.h.now c.args.centered.now y s c.loop-row.row-iterator c.next.new.self c.next.result (search rules) (search rules)
    c.loop-row.yielded_by c.in-None.is c.next.ensures.steps in
    let n : length y ≡ length c.args.centered.now = omega (arith, e, c.requires.0) in
    rw n at c.loop-row.invariant
