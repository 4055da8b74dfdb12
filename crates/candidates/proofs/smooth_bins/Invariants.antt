-- A loop of stores makes the list of its elements. Assumes nothing.
use Prim.Native.Nat.{◌≤◌, ◌-◌}
use Rattle.floats.specs.Library.{hist_bins}
use Rattle.loops.proofs.TabLaws.{Stores}
use Rattle.candidates.specs.Candidates as C
use Rattle.candidates.proofs.smooth_bins.Given as goal

abbrev pub invariant-loop-i : goal.invariant-loop-i
invariant-loop-i l = (l.i ≤ hist_bins) × Stores (C.smooth_at l.hist) l.initial.smooth l.smooth l.i

abbrev pub decreases-loop-i : goal.decreases-loop-i
decreases-loop-i l = hist_bins - l.i
