-- The wider format holds every f32, so each sum is the definition's. Assumes nothing.
use Rattle.score.specs.Score as S
use Rattle.score.proofs.gathered.Goals as goal

pub returns : goal.returns
unfolding S.gathered
returns c =
    rw (c.widen-e.ensures, c.widen-j2.ensures, c.widen-j1.ensures, c.widen-q.ensures)
