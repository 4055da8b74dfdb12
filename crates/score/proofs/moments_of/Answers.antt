-- The loop keeps the moments so far. Assumes nothing.
use mathlib.Core.Path.{◌≡◌}
use native.Mathlib.Omega.{arith}
use lib.Ieee.{of_bits}
use lib.ListN.{length}
use Rattle.loops.proofs.IterLaws.{iter_zero, iter_more}
use Rattle.score.specs.Score as S
use borrow.Author.Rules.{rules}
use Rattle.score.proofs.moments_of.Goals as goal

-- the zero of either format is the same value
pub loop-p-init : goal.loop-p-init
unfolding of_bits
loop-p-init c =
    let e = c.default-m.ensures in
    let none : c.default-m.result ≡ S.no_moments = λ i. record {
      sq = e.0 i;
      sqq = e.1.0 i;
      sj1 = e.1.1.0 i;
      sj2 = e.1.1.1.0 i;
      sqj1 = e.1.1.1.1.0 i;
      sqj2 = e.1.1.1.1.1.0 i;
      sj1j1 = e.1.1.1.1.1.1.0 i;
      sj1j2 = e.1.1.1.1.1.1.1.0 i;
      sj2j2 = e.1.1.1.1.1.1.1.1.0 i;
      see = e.1.1.1.1.1.1.1.1.1 i;
    } in
    (search rules, rw iter_zero none)

pub loop-p-preserved : goal.loop-p-preserved
loop-p-preserved c =
    (search rules, iter_more _ _ _ _ _ c.loop-p.invariant.1 (rw (← c.slopes_at-t.ensures) c.gathered-m.ensures))

pub returns : goal.returns
unfolding S.moments_of
returns c =
    let h : c.loop-p.p ≡ length c.args.xs.now = omega arith in
    rw (← c.sin_cos-t1.ensures, ← c.sin_cos-t2.ensures, ← h) c.loop-p.invariant.1
