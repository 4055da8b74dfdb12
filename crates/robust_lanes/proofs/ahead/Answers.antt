-- `max` with 0 is this select, of a NaN and of -0 too. Assumes nothing.
use lib.Ieee.{binary32}
use Rattle.floats.specs.FiniteLaws.{of_true}
use Rattle.floats.specs.MaxMinLaws.{max_nought}
use Rattle.robust_lanes.proofs.ahead.Goals as goal

pub returns-then-x : goal.returns-then-x
returns-then-x c = rw (max_nought binary32 _ (of_true c.well_formed.0.1), c.if-x.true)

pub returns : goal.returns
returns c = rw (max_nought binary32 _ (of_true c.well_formed.0.1), c.if-x.false)
