-- The answer of a ring: the Rust's fit with the mean that the Rust drops, of the same start; the standing of its errors, and the numbers of starts and
-- updates. Definitions only.
use Rattle.std.specs.Prelude.{Float}
use Rattle.solver_record.specs.Record.{with_mean}
use Rattle.robust_choice.specs.declared.RingFit.{RingFit}
use Rattle.robust_choice.specs.Choice.{Source, of_pass, of_seed, Ring}

-- the mean of a start: the final parameters' mu, or the seed's of a degenerate start
abbrev pub mean_from : Source → Float
mean_from (of_pass end) = end.p.mu
mean_from (of_seed seed) = seed.mu

abbrev pub ring_fit_of : Ring → RingFit
ring_fit_of r =
    let s = r.answered in
    record { fit = with_mean s.fit (mean_from s.source); standing = s.standing; starts = r.starts; first = r.first; second = r.second }
