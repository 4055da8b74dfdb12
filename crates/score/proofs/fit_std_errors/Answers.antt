-- Five calls in the definition's order. Assumes nothing.
use Rattle.score.specs.Score as S
use Rattle.score.proofs.fit_std_errors.Goals as goal

pub returns : goal.returns
unfolding S.fit_std_errors S.fit_standing
returns c =
    λ energy angles weights. rw (
      ← c.moments_of-m.ensures,
      ← c.normal-jtj.ensures,
      ← c.residual.ensures,
      ← c.narrow-ssr.ensures,
    ) c.axis_std_errors.ensures
