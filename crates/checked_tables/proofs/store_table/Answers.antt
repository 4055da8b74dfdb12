-- Refused, with every word as it was, or stored. Assumes nothing.
use Rattle.std.proofs.Common.{refl}
use Rattle.std.proofs.lemmas.Result.{err_from_is_err_and}
use Rattle.checked_tables.specs.Tables as T
use Rattle.checked_tables.proofs.store_table.Goals as goal

pub returns-in_err-check_table : goal.returns-in_err-check_table
unfolding T.words_after
returns-in_err-check_table c =
    let p = err_from_is_err_and c.from_residual.result c.from_residual.ensures.1 in
    let is = c.in_err-check_table.ensures in
    (rw (p.1, p.2) is, rw (← is) refl)

pub returns : goal.returns
unfolding T.words_after
returns c =
    let is = c.in_ok-check_table.ensures.2 in
    (is, rw (← is) c.store.ensures)
