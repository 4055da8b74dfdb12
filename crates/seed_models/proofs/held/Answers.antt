-- The tests are those of the definition. Assumes nothing.
use lib.Dec.{lit≤}
use lib.Ieee.{of_int, of_bits, round}
use Rattle.seed_models.specs.Words as W
use Rattle.seed_models.proofs.held.Goals as goal

pub returns-then-x : goal.returns-then-x
unfolding W.held_by of_int of_bits round
returns-then-x c = (rw c.if-x.true, lit≤ tt)

pub returns-then-x-2 : goal.returns-then-x-2
unfolding W.held_by of_int of_bits round
returns-then-x-2 c = (rw (c.if-x.false, c.if-x-2.true), lit≤ tt)

pub returns-then-x-3 : goal.returns-then-x-3
unfolding W.held_by of_int of_bits round
returns-then-x-3 c = (rw (c.if-x.false, c.if-x-2.false, c.if-x-3.true), lit≤ tt)

pub returns : goal.returns
unfolding W.held_by of_int of_bits round
returns c = (rw (c.if-x.false, c.if-x-2.false, c.if-x-3.false), lit≤ tt)
