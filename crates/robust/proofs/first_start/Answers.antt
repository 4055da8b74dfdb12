-- The mean, the variance, the seed and its start, in the definition's order. Assumes nothing.
use Rattle.robust.proofs.first_start.Goals as goal

pub returns : goal.returns
returns g c =
    let made = c.start-primary.ensures in
    record {
      value =
          rw (
            made.value,
            c.first_seed-seed.ensures,
            c.second_harmonic-h.ensures,
            c.deviations.ensures,
            c.total.ensures,
            c.count_f32-count.ensures,
            c.requires.size,
          );
      prepared = made.prepared;
    }
