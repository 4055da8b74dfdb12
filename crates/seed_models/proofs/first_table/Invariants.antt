-- The loop looks forward: from here on the search gives what it gives from the start. Assumes nothing.
use mathlib.Core.Path.{◌≡◌}
use Prim.Native.Nat.{◌≤◌, ◌-◌}
use Rattle.seed_models.specs.Models as M
use Rattle.seed_models.specs.Words as W
use Rattle.seed_models.proofs.ModelLaws.{is_at}
use Rattle.seed_models.proofs.first_table.Given as goal

abbrev pub invariant-loop-t : goal.invariant-loop-t
invariant-loop-t l = (l.t ≤ l.k) × (M.first_from (is_at l.words l.ring_phi) (l.k - l.t) l.t ≡ M.first_table W.ring_samples (W.tables_in l.words) l.ring_phi)

abbrev pub decreases-loop-t : goal.decreases-loop-t
decreases-loop-t l = l.k - l.t
