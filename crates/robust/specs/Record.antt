-- The whole ring fit of ours: robust.rs, fit_ring, with the mean that the Rust drops, the standing of the errors and the counts. Definitions only.
use Rattle.std.specs.Prelude.{List, ℕ}
use Rattle.floats.specs.Rows.{Row}
use Rattle.seed_models.specs.Models.{Table}
use Rattle.robust_choice.specs.Record.{ring_fit_of}
use Rattle.robust_choice.specs.declared.RingFit.{RingFit}
use Rattle.robust.specs.Robust.{ring}

unfoldable pub record_ring : List Table → ℕ → Row → Row → RingFit
record_ring tables n samples ring_phi = ring_fit_of (ring tables n samples ring_phi)
