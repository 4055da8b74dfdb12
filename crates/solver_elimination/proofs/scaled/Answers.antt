-- A row of eight places is the list of its eight entries. Assumes nothing.
use mathlib.Core.Path.{ap}
use lib.Ieee.{nan, binary32}
use borrow.Kind.Array.{e_float, good_length}
use Rattle.floats.specs.Rows.{Row}
use Rattle.loops.specs.Loops.{tab}
use Rattle.loops.proofs.TabLaws.{tab_self}
use Rattle.solver_elimination.specs.Solve.{scaled}
use Rattle.solver_elimination.proofs.scaled.Goals as goal

pub returns : goal.returns
unfolding tab
returns c = let r = c.args.r in
    ap (λ (r : Row). scaled r c.args.f) (tab_self r nan 8 (good_length (e_float binary32) 8 r _ c.well_formed.0))
