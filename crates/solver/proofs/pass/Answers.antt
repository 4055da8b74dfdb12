-- The places that `fill` wrote are the samples of the definition's pass, and `add_up` sums them. Assumes nothing.
use Rattle.solver.proofs.SolverLaws.{pass_split}
use Rattle.solver.proofs.pass.Goals as goal

pub returns : goal.returns
returns c = let r = c.args.ring.now in
    pass_split c.args.p r.samples.now r.sphi.now r.cphi.now _ _ _ c.sin_cos_two-t.ensures c.fill.ensures c.add_up.ensures
