-- 24 turns from empty slots, each the definition's; the weights are as many as the pixels. Assumes nothing.
use mathlib.Core.Path.{◌≡◌}
use Prim.Native.Nat.{◌≤◌}
use lib.ListN.{get_or}
use Rattle.loops.specs.Loops.{iter}
use Rattle.data.specs.Disk.{the_disk}
use Rattle.search_rows.specs.Rows.{SlotsKept}
use Rattle.search_refine.specs.Refine.{offsets, neighbours, nowhere, tried}
use Rattle.search_refine.proofs.refine_fit_cached.Given as goal

abbrev pub invariant-loop-t : goal.invariant-loop-t
invariant-loop-t l = let D = the_disk l.d in
    (l.t ≤ neighbours) × (l.turn.refined.trials ≡ l.t) × (l.turn.slots.total ≡ l.total)
    × SlotsKept D.xs D.ys D.grad_angles D.grad_weights l.turn.refined.best.width l.turn.slots l.rows
    × (l.turn.refined.best ≡ iter (λ t. tried D l.total (get_or offsets t nowhere)) l.initial.turn.refined.best l.t)
