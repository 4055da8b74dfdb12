-- The calls are the definition's steps. Assumes nothing.
use native.Mathlib.Omega.{arith}
use Rattle.candidates.specs.Candidates as C
use Rattle.candidates.proofs.histogram_candidates.Goals as goal

pub returns : goal.returns
unfolding C.gradient_candidates
returns c =
    let first = c.around-first.ensures.1 in
    let second = c.around-second.ensures.1 in (
      omega arith,
      rw (← c.histogram-hist.ensures, ← c.smooth_bins-smooth.ensures, ← c.histogram_peaks-picked.ensures.1, ← first, ← second) c.coarse.ensures.1,
    )
