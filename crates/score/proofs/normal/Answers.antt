-- Eleven calls, and the matrix of their results. Assumes nothing.
use Rattle.score.specs.Score as S
use Rattle.score.proofs.normal.Goals as goal

pub returns : goal.returns
unfolding S.normal
returns c =
    rw (
      c.narrow-sj2j2.ensures,
      c.narrow-sj1j2.ensures,
      c.narrow-sj1j1.ensures,
      c.narrow-sqj2.ensures,
      c.narrow-sqj1.ensures,
      c.narrow-sj2.ensures,
      c.narrow-sj1.ensures,
      c.narrow-sqq.ensures,
      c.narrow-sq.ensures,
      c.narrow-c.ensures,
      c.count_f64.ensures,
    )
