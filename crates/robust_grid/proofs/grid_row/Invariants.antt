-- A loop of stores makes the list of its elements. Assumes nothing.
use Prim.Native.Nat.{◌≤◌, ◌-◌}
use lib.ListN.{get_or}
use lib.Ieee.{nan}
use Rattle.loops.proofs.TabLaws.{Stores}
use Rattle.robust_grid.specs.Grid.{factor}
use Rattle.robust_grid.proofs.grid_row.Given as goal

abbrev pub invariant-loop-a : goal.invariant-loop-a
invariant-loop-a l = (l.a ≤ 24) × Stores (λ k. factor l.s l.c (record { s = get_or l.sines k nan; c = get_or l.cosines k nan })) l.initial.row l.row l.a

abbrev pub decreases-loop-a : goal.decreases-loop-a
decreases-loop-a l = 24 - l.a
