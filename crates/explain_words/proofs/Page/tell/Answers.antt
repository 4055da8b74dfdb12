-- What is told so far, and what is left to tell, are the whole. Assumes nothing.
use Rattle.std.proofs.Common.{◌≡◌, ◌+◌, ◌≤◌, slice_index, slice_index_or, false, length, arith}
use Rattle.explain_words.specs.Tell.{Said, piece_if}
use Rattle.explain_words.specs.TellLaws.{said_none, midway_start, midway_next, midway_end}
use Rattle.explain_words.proofs.Page.tell.Goals as goal
use Rattle.explain_words.proofs.Page.tell.Goals.{then-is_told, else-is_told}

pub loop-c-init : goal.loop-c-init
loop-c-init c = (omega arith, omega arith, midway_start (omega arith))

pub loop-c-preserved : goal.loop-c-preserved
loop-c-preserved c =
    let p = c.loop-c.self in
    let q = c.if-is_told.self in
    let on = slice_index_or c.args.flags.now c.loop-c.k false in
    let told : (q.at ≤ p.at + 24) × Said p q (piece_if on c.args.words.now c.loop-c.inside (slice_index c.args.s.now c.loop-c.c-index)) =
    elim c.if-is_told.branch [
      | then-is_told w ↦ rw (w.self-is, ← c.is_told.ensures, w.if-is_told.true) w.piece.ensures
      | else-is_told w ↦ rw (w.self-is, ← c.is_told.ensures, w.if-is_told.false) (omega arith, said_none p (omega arith))
    ] in
    (omega (arith, told.0), omega arith, rw c.after-k.ensures.1 (midway_next c.loop-c.invariant.2 (omega arith) told.1 (omega (arith, told.0))))

pub returns : goal.returns
returns c =
    let e : c.loop-c.c-index ≡ length c.args.s.now = omega arith in
    record { fits = omega arith; said = midway_end c.loop-c.invariant.2 e }
