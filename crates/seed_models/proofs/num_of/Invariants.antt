-- The loop keeps the sum so far. Assumes nothing.
use Rattle.std.proofs.Common.{◌≡◌, length}
use Rattle.floats.specs.Rows.{at}
use Rattle.seed_models.specs.Models as M
use Rattle.seed_models.proofs.num_of.Given as goal

abbrev pub invariant-loop-v : goal.invariant-loop-v
invariant-loop-v l = l.num ≡ M.num_of (length l.yielded) l.centered (at l.q_centered)
