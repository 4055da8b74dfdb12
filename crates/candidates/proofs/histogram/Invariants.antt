-- The loop keeps the bins so far, and each iterator has the rest of its slice. Assumes nothing.
use mathlib.Core.Path.{◌≡◌}
use Prim.Native.Nat.{◌≤◌}
use lib.ListN.{length, drop}
use Rattle.loops.specs.Loops.{iter}
use Rattle.candidates.specs.Candidates as C
use Rattle.candidates.proofs.histogram.Given as goal

abbrev pub invariant-loop-angle : goal.invariant-loop-angle
invariant-loop-angle l =
    let k = length l.yielded in (k ≤ length l.grad_angles)
    × (l.angle-iterator.a.rest.now ≡ drop k l.grad_angles) × (l.angle-iterator.b.rest.now ≡ drop k l.grad_weights)
    × (l.hist ≡ iter (C.binned l.grad_angles l.grad_weights) l.initial.hist k)
