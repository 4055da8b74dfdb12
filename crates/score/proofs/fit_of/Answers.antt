-- Straight steps, with the calls in the definition's order. Assumes nothing.
use Rattle.score.specs.Score as S
use Rattle.score.proofs.fit_of.Goals as goal

pub returns : goal.returns
unfolding S.fit_of
returns c =
    rw (
      c.canonicalize_tracking_swap-a.ensures.value,
      c.max.ensures,
      c.abs-2.ensures,
      c.sqrt.ensures,
      c.abs.ensures,
      c.sqrt-rms.ensures,
      c.max-ssr.ensures,
    )
