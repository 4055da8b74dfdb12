-- The loop keeps the picks so far, and it ends where no bin is left or the pick is too low. Assumes nothing.
use mathlib.Core.Path.{◌≡◌}
use Prim.Native.Nat.{◌≤◌}
use Rattle.std.specs.Prelude.{false}
use Rattle.loops.specs.Loops.{iter}
use Rattle.candidates.specs.Candidates as C
use Rattle.candidates.proofs.peaks.Given as goal

abbrev pub invariant-loop : goal.invariant-loop
invariant-loop l = (l.counter ≤ C.max_picks) × (l.candidates.n ≤ l.counter)
    × (◌≡◌ {A = C.Picking} (record { used = l.used; found = l.candidates; over = false }) (iter (C.pick l.smooth l.max_v) C.unpicked l.counter))
