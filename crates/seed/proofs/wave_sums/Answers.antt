-- The loop keeps the sums so far. Assumes nothing.
use mathlib.Core.Path.{◌≡◌, refl}
use native.Mathlib.Omega.{arith}
use lib.ListN.{length}
use Rattle.loops.proofs.IterLaws.{iter_zero, iter_more}
use Rattle.seed.specs.Buffers as B
use borrow.Author.Rules.{rules}
use Rattle.seed.proofs.wave_sums.Goals as goal

pub loop-i-init : goal.loop-i-init
unfolding B.waves_from
loop-i-init c = (search rules, rw iter_zero)

pub loop-i-preserved : goal.loop-i-preserved
unfolding B.waves_from
loop-i-preserved c =
    (search rules, iter_more _ _ _ _ _ c.loop-i.invariant.1 refl)

pub returns : goal.returns
returns c = let h : c.loop-i.i ≡ length c.args.samples.now = omega arith in rw h at c.loop-i.invariant.1
