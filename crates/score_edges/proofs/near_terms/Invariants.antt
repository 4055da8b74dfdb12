-- A loop of stores makes the list of its elements. Assumes nothing.
use Prim.Native.Nat.{◌≤◌}
use lib.ListN.{length}
use Rattle.loops.proofs.TabLaws.{Stores}
use Rattle.score_edges.specs.NearLaws as N
use Rattle.score_edges.proofs.near_terms.Given as goal

abbrev pub invariant-loop-p : goal.invariant-loop-p
invariant-loop-p g l = (l.p ≤ length l.grad_angles) × Stores (N.near_term g.G.Gaussian.term l.grad_angles l.grad_weights l.theta) l.initial.terms l.terms l.p
