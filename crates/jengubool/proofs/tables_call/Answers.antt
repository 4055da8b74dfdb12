-- The room is asked for, then the fit, and each refusal leaves both buffers. Assumes nothing.
use Rattle.std.proofs.Common.{le-ltb}
use Rattle.std.proofs.lemmas.Result.{err_from_is_err_and}
use Rattle.jengubool.specs.Calls as J
use Rattle.jengubool.proofs.CallLaws.{short_call}
use Rattle.jengubool.proofs.tables_call.Goals as goal

pub returns-in_err-check_room : goal.returns-in_err-check_room
unfolding J.ring_call
returns-in_err-check_room c =
    let p = err_from_is_err_and c.from_residual.result c.from_residual.ensures.1 in
    let short = c.in_err-check_room.ensures in
    rw (p.1, p.2, short.0) (short_call c.args.fit.now c.args.counts.now 7 4 _ short.1)

pub returns-in_err-r : goal.returns-in_err-r
unfolding J.ring_call J.ring_stored
returns-in_err-r c =
    let p = err_from_is_err_and c.from_residual-in_err-r.result c.from_residual-in_err-r.ensures.1 in
    let room = c.in_ok-check_room.ensures in
    rw (p.1, p.2, le-ltb _ _ room.0, le-ltb _ _ room.1, ← c.in_err-r.ensures)

pub returns : goal.returns
unfolding J.ring_call J.ring_stored
returns c =
    let room = c.in_ok-check_room.ensures in
    rw (c.put_ring.ensures.0, c.put_ring.ensures.1, le-ltb _ _ room.0, le-ltb _ _ room.1, ← c.in_ok-r.ensures)
