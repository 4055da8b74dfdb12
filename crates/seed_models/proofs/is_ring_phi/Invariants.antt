-- A turn takes the pair at its own place, and the loop keeps the test so far. Assumes nothing.
use Rattle.std.proofs.Common.{◌≡◌, length}
use Rattle.seed_models.specs.Models as M
use Rattle.seed_models.proofs.is_ring_phi.Given as goal

abbrev pub invariant-loop-got : goal.invariant-loop-got
invariant-loop-got l = l.all ≡ M.is_ring_phi (length l.yielded) l.ring_phi l.expected
