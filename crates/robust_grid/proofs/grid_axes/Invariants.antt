-- Two lists of stores, both made of one call: no angle of the grid is reduced. Assumes nothing.
use Prim.Native.Nat.{◌≤◌, ◌-◌}
use Rattle.loops.proofs.TabLaws.{Stores}
use Rattle.elementary.specs.Elementary.{sin_cos}
use Rattle.robust_grid.specs.Grid.{grid_angle}
use Rattle.robust_grid.proofs.grid_axes.Given as goal

abbrev pub invariant-loop-a : goal.invariant-loop-a
invariant-loop-a l =
    (l.a ≤ 24) × Stores (λ k. (sin_cos (grid_angle k)).s) l.initial.sines l.sines l.a ×
    Stores (λ k. (sin_cos (grid_angle k)).c) l.initial.cosines l.cosines l.a

abbrev pub decreases-loop-a : goal.decreases-loop-a
decreases-loop-a l = 24 - l.a
