-- Two tests leave the grid; behind them the centred samples and their sum are there. Assumes nothing.
use Rattle.std.proofs.Common.{length}
use Rattle.robust.proofs.RobustLaws.{low_none, flat_none, some_grid, sum_is}
use Rattle.robust.proofs.centered_sum.Goals as goal

pub returns-then-centered_var : goal.returns-then-centered_var
returns-then-centered_var c = let a = c.args in low_none _ a.samples.now a.mean _ c.if-centered_var.true

pub returns-then-is_flat : goal.returns-then-is_flat
returns-then-is_flat c =
    let a = c.args in
    flat_none (length a.samples.now) a.samples.now a.mean a.centered_var _ _ c.center.ensures c.squares-s.ensures c.is_flat.ensures c.if-is_flat.true

pub returns : goal.returns
returns c =
    let a = c.args in
    let n = length a.samples.now in
    let part = c.center.ensures in
    let sum = c.squares-s.ensures in
    let some = some_grid n a.samples.now a.mean a.centered_var _ _ part sum c.if-centered_var.false c.is_flat.ensures
    c.if-is_flat.false in
    (some, part, sum_is n a.samples.now a.mean a.centered_var _ _ part sum)
