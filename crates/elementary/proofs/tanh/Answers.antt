-- `tanh` meets its contract: the calls have theirs, and what `scale` is given has passed a test or is a constant. Assumes nothing.
use Rattle.elementary.specs.SelectLaws.{under_number}
use Rattle.elementary.specs.Elementary.{tanh}
use Rattle.elementary.proofs.tanh.Goals as goal

pub scale-s-requires : goal.scale-s-requires
unfolding lib.Ieee.is_nan lib.Ieee.of_bits
scale-s-requires c = rw c.under-v.ensures (under_number c.above.result _ tt)

pub returns : goal.returns
unfolding tanh
returns c =
    rw (
      c.unit.ensures,
      c.tanh_rest-h.ensures,
      c.scale-s.ensures,
      c.under-v.ensures,
      c.above.ensures,
      c.raised-a.ensures,
      c.capped.ensures,
    )
