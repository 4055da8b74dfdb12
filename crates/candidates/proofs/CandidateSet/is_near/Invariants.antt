-- A search: nothing near among those passed, and the early return cites near-found. Assumes nothing.
use mathlib.Core.Path.{◌≡◌}
use Prim.Native.Nat.{◌≤◌}
use Rattle.std.specs.Prelude.{false}
use Rattle.candidates.specs.Candidates as C
use Rattle.candidates.proofs.CandidateSet.is_near.Given as goal

abbrev pub invariant-loop-kept : goal.invariant-loop-kept
invariant-loop-kept l = (l.kept-index ≤ l.fn.self.n) × (C.is_near l.fn.self.angles l.kept-index l.a l.min_sep ≡ false)
