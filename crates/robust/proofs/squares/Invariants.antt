-- The loop keeps the sum so far. Assumes nothing.
use Rattle.std.proofs.Common.{◌≡◌}
use Rattle.robust.specs.Robust as R
use Rattle.robust.proofs.squares.Given as goal

abbrev pub invariant-loop-c : goal.invariant-loop-c
invariant-loop-c l = l.s ≡ R.squares l.c-index l.centered
