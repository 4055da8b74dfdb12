-- The loop packs a sample a turn, and the sums say what the definition adds up. Assumes nothing.
use Rattle.std.proofs.Common.{◌≡◌}
use Rattle.loops.specs.Loops.{iter}
use Rattle.solver.specs.Buffers.{sample_from, no_sums, packed}
use Rattle.solver.proofs.add_up.Given as goal

abbrev pub invariant-loop-t : goal.invariant-loop-t
invariant-loop-t l = l.s ≡ iter (λ i. packed (sample_from l.js i)) no_sums l.t-index
