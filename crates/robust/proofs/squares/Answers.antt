-- The loop keeps the sum so far. Assumes nothing.
use Rattle.std.proofs.Common.{arith, ◌≡◌, length}
use Rattle.loops.proofs.IterLaws.{iter_zero, iter_next}
use Rattle.robust.specs.Robust as R
use Rattle.robust.proofs.squares.Goals as goal

pub loop-c-init : goal.loop-c-init
unfolding R.squares
loop-c-init c = rw iter_zero

pub loop-c-preserved : goal.loop-c-preserved
unfolding R.squares
loop-c-preserved c = rw (iter_next, ← c.loop-c.invariant)

pub returns : goal.returns
returns c = let h : c.loop-c.c-index ≡ length c.args.centered.now = omega arith in rw h at c.loop-c.invariant
