-- The loop keeps the sums so far. Assumes nothing.
use Rattle.std.proofs.Common.{◌≡◌}
use Rattle.seed_models.specs.Parts as P
use Rattle.seed_models.proofs.q_sums.Given as goal

abbrev pub invariant-loop-row : goal.invariant-loop-row
invariant-loop-row l = l.s ≡ P.q_sums_at l.row-index l.h l.a l.b
