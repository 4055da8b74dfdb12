-- What is left to do is what was to do; each way out of the loop is one law. Assumes nothing.
use mathlib.Core.Path.{◌≡◌}
use Prim.Native.Nat.{◌≤◌, ◌-◌}
use lib.ListN.{length}
use Rattle.solver.specs.Solver.{pass, updates_from, updates}
use Rattle.solver.specs.Buffers.{spread}
use Rattle.solver.proofs.run_updates.Given as goal

abbrev pub invariant-loop-count : goal.invariant-loop-count
invariant-loop-count l =
    let r = l.ring in
    let n = length r.samples.now in
    (l.count ≤ 6) × (length l.js ≡ n) × (spread l.s ≡ pass n l.p r.samples.now r.sphi.now r.cphi.now) ×
    (updates_from n r.samples.now r.sphi.now r.cphi.now (6 - l.count) l.count l.p ≡ updates n r.samples.now r.sphi.now r.cphi.now l.initial.p)

abbrev pub decreases-loop-count : goal.decreases-loop-count
decreases-loop-count l = 6 - l.count
