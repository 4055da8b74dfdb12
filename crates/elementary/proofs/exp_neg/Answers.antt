-- `exp_neg` meets its contract: the calls have theirs, and what `scale` is given has passed a test or is a constant. Assumes nothing.
use Rattle.elementary.specs.SelectLaws.{above_number}
use Rattle.elementary.specs.Elementary.{exp_neg}
use Rattle.elementary.proofs.exp_neg.Goals as goal

pub scale-requires : goal.scale-requires
unfolding lib.Ieee.is_nan lib.Ieee.of_bits
scale-requires c = rw c.above-u.ensures (above_number _ _ tt)

pub returns-then-x : goal.returns-then-x
unfolding exp_neg
returns-then-x c = rw c.if-x.true

pub returns : goal.returns
unfolding exp_neg
returns c =
    rw (
      c.raised-w.ensures,
      c.capped.ensures,
      c.scale.ensures,
      c.exp_rest-p.ensures,
      c.above-u.ensures,
      c.raised-z.ensures,
      c.if-x.false,
    )
