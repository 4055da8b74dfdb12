-- Each lane is skipped, which changes nothing, or tried, and past the last allowed pair nothing is left. Assumes nothing.
use mathlib.Core.Path.{◌≡◌}
use Prim.Native.Nat.{◌≤◌, ◌-◌}
use Rattle.loops.specs.Loops.{iter}
use Rattle.robust_lanes.specs.declared.Models.{Models}
use Rattle.robust_grid.specs.BlockLaws.{lane_step}
use Rattle.robust_grid.proofs.lanes_tried.Given as goal

abbrev pub invariant-lanes : goal.invariant-lanes
invariant-lanes l =
    let m : Models = record { q_mean = l.q_mean; denom = l.denom; num = l.num } in
    (l.k ≤ 4) × (l.best.top ≡ iter (lane_step l.n l.centered_ss l.mean m l.p) l.initial.best.top l.k)

abbrev pub decreases-lanes : goal.decreases-lanes
decreases-lanes l = 4 - l.k
