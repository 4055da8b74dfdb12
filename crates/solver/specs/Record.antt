-- The start of ours: solver.rs, fit_with_seed, with the mean that the Rust drops, the standing of the errors and the number of updates. Definitions only.
use Rattle.std.specs.Prelude.{cond, ℕ, Float}
use Rattle.floats.specs.Rows.{Row}
use Rattle.solver_record.specs.Fit.{degenerate}
use Rattle.solver_record.specs.Record.{refused, start_of}
use Rattle.solver_record.specs.declared.Params.{Params}
use Rattle.solver_record.specs.declared.Started.{Started}
use Rattle.solver.specs.Solver.{Final, updates, sines, cosines}

abbrev pub start_from : ℕ → Final → Started
start_from n f = start_of n f.p f.last.m f.last.ssr f.updates

-- a start that is degenerate has its seed's mean
unfoldable pub record_with_seed : ℕ → Row → Row → Params → Float → Started
record_with_seed n samples ring_phi seed centered_var =
    cond (degenerate seed.amp centered_var) (refused centered_var seed.mu)
    (start_from n (updates n samples (sines n ring_phi) (cosines n ring_phi) seed))
