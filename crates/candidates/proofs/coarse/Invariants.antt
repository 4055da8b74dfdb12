-- A push for each of the six angles of the grid. Assumes nothing.
use mathlib.Core.Path.{◌≡◌}
use Prim.Native.Nat.{◌≤◌, ◌+◌, ◌-◌, ◌/◌}
use Rattle.loops.specs.Loops.{iter}
use Rattle.candidates.specs.Candidates as C
use Rattle.candidates.proofs.coarse.Given as goal

abbrev pub invariant-loop-k : goal.invariant-loop-k
invariant-loop-k l =
    (l.k ≤ 180 / C.grid_deg) × (l.candidates.n ≤ l.initial.candidates.n + l.k) × (l.initial.candidates.n ≤ 32)
    × (l.candidates ≡ iter C.gridded l.initial.candidates l.k)

abbrev pub decreases-loop-k : goal.decreases-loop-k
decreases-loop-k l = 180 / C.grid_deg - l.k
