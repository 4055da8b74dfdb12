-- Two lists of stores, both made of one call. Assumes nothing.
use Prim.Native.Nat.{◌≤◌, ◌-◌}
use lib.ListN.{get_or}
use lib.Ieee.{nan}
use Rattle.loops.proofs.TabLaws.{Stores}
use Rattle.elementary.specs.Elementary.{sin_cos_near}
use Rattle.solver.proofs.sin_cos_all.Given as goal

abbrev pub invariant-loop-i : goal.invariant-loop-i
invariant-loop-i l =
    (l.i ≤ l.n) × Stores (λ k. (sin_cos_near (get_or l.turned k nan)).s) l.initial.sphi l.sphi l.i
    × Stores (λ k. (sin_cos_near (get_or l.turned k nan)).c) l.initial.cphi l.cphi l.i

abbrev pub decreases-loop-i : goal.decreases-loop-i
decreases-loop-i l = l.n - l.i
