-- No table is near, or the seed is of the first that is. Assumes nothing.
use Rattle.std.proofs.Common.{arith}
use Rattle.floats.specs.Rows.{at}
use Rattle.seed_models.specs.HeldLaws.{held_most}
use Rattle.robust.proofs.RobustLaws.{none_near, one_near}
use Rattle.robust.proofs.WordsModelsseedmodelsRINGSAMPLES.second.Goals as goal

pub returns-in_default : goal.returns-in_default
returns-in_default c =
    let a = c.args in
    let r = a.ready.now in
    let near = none_near a.self.now.words.now r.ring.samples.now r.ring_phi.now a.mean a.centered_var _ c.requires c.first_table.ensures.0 in
    rw (← near c.in_default.is) c.grid_fit.ensures

pub table-requires : goal.table-requires
table-requires c =
    let few = rw c.in-Some.is at c.first_table.ensures.1 in
    omega (arith, few, held_most (at c.args.self.now.words.now 0))

pub returns : goal.returns
returns c =
    let a = c.args in
    let r = a.ready.now in
    let told = c.in-Some.is in
    let first = c.first_table.ensures in
    let few = rw told at first.1 in
    let near = one_near a.self.now.words.now r.ring.samples.now r.ring_phi.now a.mean a.centered_var _ c.requires first.0 _ told few in
    rw (← near, ← c.table.ensures) c.cached_fit.ensures
