-- The loop keeps that every character so far is a digit. Assumes nothing.
use Rattle.hexadecimal.specs.Hex.{all_hex}
use Rattle.loops.proofs.IterLaws.{iter_zero, iter_next}
use Rattle.hexadecimal.proofs.all_hex.Goals as goal

pub loop-b-init : goal.loop-b-init
unfolding all_hex
loop-b-init c = rw iter_zero

pub loop-b-preserved : goal.loop-b-preserved
unfolding all_hex
loop-b-preserved c = rw iter_next (cc)
