-- Both axes stand in their slots by then, so that the held score is the neighbour's; its width is the best's own, so that the slots stay right.
-- Assumes nothing.
use mathlib.Core.Path.{◌∙◌, sym}
use native.Mathlib.Omega.{arith}
use Rattle.data.specs.Disk.{the_disk}
use Rattle.search_refine.proofs.TurnLaws.{tried_held, kept_on}
use Rattle.search_refine.proofs.try_neighbour.Goals as goal

pub hold-slots-requires : goal.hold-slots-requires
hold-slots-requires c =
    let z = c.args.d.sized in
    (omega (arith, c.slot_of-j.ensures), record { most = z.most; y = z.y; a = z.a; w = z.w }, c.hold-one.ensures.kept)

pub score_held-answer-requires : goal.score_held-answer-requires
score_held-answer-requires c =
    let z = c.args.d.sized in
    (omega (arith, c.slot_of-i.ensures), omega (arith, c.slot_of-j.ensures), omega (arith, z.v, z.most), c.hold-slots.ensures.kept.room)

pub judge-refined-requires : goal.judge-refined-requires
judge-refined-requires c =
    c.requires.1

pub returns : goal.returns
returns c =
    let d = c.args.d in
    let one = c.hold-one.ensures in
    let two = c.hold-slots.ensures in
    let total = two.total ∙ one.total in
    let first = two.still _ _ (omega (arith, c.slot_of-i.ensures)) (λ e. omega (arith, c.slot_of-i.ensures, c.slot_of-j.ensures)) one.here in
    let answer = c.score_held-answer.ensures d.xs.now d.ys.now d.grad_angles.now d.grad_weights.now (sym d.sized.v) in
    let e = tried_held _ _ _ c.offset_at-o.result _ _ _ _ _ c.judge-refined.ensures.1 answer total first two.here in
    (c.judge-refined.ensures.0, kept_on (the_disk d) _ c.offset_at-o.result _ _ e two.kept, total, rw (← c.offset_at-o.ensures) e)
