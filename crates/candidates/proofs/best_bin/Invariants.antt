-- A used bin is passed over, and another is the definition's turn. Assumes nothing.
use mathlib.Core.Path.{◌≡◌}
use Prim.Native.Nat.{◌<◌, ◌≤◌}
use Rattle.std.specs.Prelude.{None, IfSome}
use Rattle.loops.specs.Loops.{iter}
use Rattle.floats.specs.Library.{hist_bins}
use Rattle.candidates.specs.Candidates as C
use Rattle.candidates.proofs.best_bin.Given as goal

abbrev pub invariant-loop-i : goal.invariant-loop-i
invariant-loop-i l = (l.i ≤ hist_bins) × IfSome l.best (λ b. b < hist_bins) × (l.best ≡ iter (C.better_bin l.smooth l.used) None l.i)
