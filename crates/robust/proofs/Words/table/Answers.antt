-- The table's own words. Assumes nothing.
use Rattle.std.proofs.Common.{arith, ◌≡◌, ◌+◌, ◌-◌, ◌*◌}
use Rattle.robust.proofs.Words.table.Goals as goal

pub returns : goal.returns
returns c = let t = c.args.t in let d : 1 + t * 4696 + 4696 - (1 + t * 4696) ≡ 4696 = omega arith in rw d
