-- A push for each of the five offsets. Assumes nothing.
use mathlib.Core.Path.{◌≡◌}
use Prim.Native.Nat.{◌≤◌, ◌+◌}
use Rattle.loops.specs.Loops.{iter}
use Rattle.candidates.specs.Candidates as C
use Rattle.candidates.proofs.around.Given as goal

abbrev pub invariant-loop-off_deg : goal.invariant-loop-off_deg
invariant-loop-off_deg l =
    (l.off_deg-index ≤ 5) × (l.candidates.n ≤ l.initial.candidates.n + l.off_deg-index) × (l.initial.candidates.n ≤ 32)
    × (l.candidates ≡ iter (C.offset l.seed) l.initial.candidates l.off_deg-index)
