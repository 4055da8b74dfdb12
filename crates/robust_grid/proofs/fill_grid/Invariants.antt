-- A row is lent in each turn, and comes back as its sample's. Assumes nothing.
use mathlib.Core.Path.{◌≡◌}
use Prim.Native.Nat.{◌≤◌, ◌-◌}
use lib.ListN.{length}
use Rattle.robust_grid.specs.Places as P
use Rattle.robust_grid.proofs.fill_grid.Given as goal

abbrev pub invariant-loop-i : goal.invariant-loop-i
invariant-loop-i l = (l.i ≤ l.n) × (length l.h ≡ length l.sphi) × P.Grid l.sphi l.cphi l.h l.i

abbrev pub decreases-loop-i : goal.decreases-loop-i
decreases-loop-i l = l.n - l.i
