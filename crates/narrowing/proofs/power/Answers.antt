-- A shift by less than 62 loses no bit of a word of 64. Assumes nothing.
use Rattle.std.proofs.Common.{arith}
use Rattle.floats.specs.NarrowLaws.{shifted_one}
use Rattle.narrowing.proofs.power.Goals as goal

pub returns : goal.returns
returns c = shifted_one c.args.s (omega arith)
