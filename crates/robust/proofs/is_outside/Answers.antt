-- Both ends of the range. Assumes nothing.
use Rattle.robust.specs.Robust as R
use Rattle.robust.proofs.RobustLaws.{min_rad_is, max_rad_is}
use Rattle.robust.proofs.is_outside.Goals as goal
use Rattle.robust.proofs.is_outside.Goals.{then-sep, else-sep}

pub returns : goal.returns
unfolding R.outside
returns c =
    elim c.if-sep.branch [
      | then-sep w ↦ rw (min_rad_is, max_rad_is, w.if-sep.true, w.result-is)
      | else-sep w ↦ rw (min_rad_is, w.result-is, w.if-sep.false)
    ]
