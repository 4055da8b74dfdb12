-- The loop keeps the two greatest so far. Assumes nothing.
use mathlib.Core.Path.{◌≡◌}
use Prim.Native.Nat.{◌≤◌, ◌<◌, ◌-◌}
use Rattle.candidates.specs.Candidates as C
use Rattle.candidates.proofs.forced_histogram_pair.Given as goal

abbrev pub invariant-loop-c : goal.invariant-loop-c
invariant-loop-c l = (2 ≤ l.c) × (l.c ≤ l.n) × (l.t.top0 < l.c) × (l.t.top1 < l.c) × (l.t ≡ C.tops_of l.edge_align l.c)

abbrev pub decreases-loop-c : goal.decreases-loop-c
decreases-loop-c l = l.n - l.c
