-- Straight steps, with two calls of tanh among them. Assumes nothing.
use Rattle.score.specs.Score as S
use Rattle.score.proofs.slopes_at.Goals as goal

pub returns : goal.returns
unfolding S.slopes_at
returns c = rw (c.tanh-h2.ensures, c.tanh-h1.ensures)
