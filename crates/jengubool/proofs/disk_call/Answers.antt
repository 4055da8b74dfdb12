-- The room is asked for, then the fit, and each refusal leaves both buffers. Assumes nothing.
use Rattle.std.proofs.Common.{le-ltb}
use Rattle.std.proofs.lemmas.Result.{err_from_is_err_and}
use Rattle.jengubool.specs.Calls as J
use Rattle.jengubool.proofs.CallLaws.{short_call}
use Rattle.jengubool.proofs.disk_call.Goals as goal

pub returns-in_err-check_room : goal.returns-in_err-check_room
unfolding J.disk_call
returns-in_err-check_room c =
    let p = err_from_is_err_and c.from_residual.result c.from_residual.ensures.1 in
    let short = c.in_err-check_room.ensures in
    rw (p.1, p.2, short.0) (short_call c.args.fit.now c.args.counts.now 11 2 _ short.1)

pub returns-in_err-m : goal.returns-in_err-m
unfolding J.disk_call J.disk_stored
returns-in_err-m c =
    let p = err_from_is_err_and c.from_residual-in_err-m.result c.from_residual-in_err-m.ensures.1 in
    let room = c.in_ok-check_room.ensures in
    rw (p.1, p.2, le-ltb _ _ room.0, le-ltb _ _ room.1, ← c.in_err-m.ensures)

pub returns : goal.returns
unfolding J.disk_call J.disk_stored
returns c =
    let room = c.in_ok-check_room.ensures in
    rw (c.put.ensures, c.disk_values.ensures.0, c.put-2.ensures, c.disk_counts.ensures.0, le-ltb _ _ room.0, le-ltb _ _ room.1, ← c.in_ok-m.ensures)
