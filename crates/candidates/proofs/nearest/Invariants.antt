-- The loop keeps the nearest so far; 1 over 0 is the infinity. Assumes nothing.
use mathlib.Core.Path.{◌≡◌}
use Prim.Native.Nat.{◌≤◌, ◌-◌}
use Rattle.candidates.specs.Candidates as C
use Rattle.candidates.proofs.nearest.Given as goal

abbrev pub invariant-loop-c : goal.invariant-loop-c
invariant-loop-c l = (l.c ≤ l.n) × (l.best.best_i ≤ l.n) × (l.best ≡ C.nearest l.candidates.angles l.target_w l.c)

abbrev pub decreases-loop-c : goal.decreases-loop-c
decreases-loop-c l = l.n - l.c
