-- The factor 0 is the one case that leaves the row; both rows are the lists of their eight entries. Assumes nothing.
use lib.Ieee.{binary32}
use borrow.Kind.Array.{e_float, good_length}
use mathlib.Core.List.{zip_with}
use Rattle.loops.specs.Loops.{tab}
use Rattle.solver_elimination.specs.Solve.{reduced}
use Rattle.solver_elimination.specs.SolveLaws.{reduced_by}
use Rattle.solver_elimination.proofs.reduced.Goals as goal

pub returns-then-f : goal.returns-then-f
unfolding reduced
returns-then-f c = rw c.if-f.true

pub returns : goal.returns
unfolding tab zip_with
returns c = let a = c.args in
    let g = c.well_formed in
    let e = e_float binary32 in
    reduced_by c.args.r c.args.p a.f 8 (good_length e 8 c.args.r _ g.0) (good_length e 8 c.args.p _ g.1.0) c.if-f.false
