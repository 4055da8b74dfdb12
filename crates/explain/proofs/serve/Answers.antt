-- Each turn follows those before it; the last leaves nothing more to do. Assumes nothing.
use Rattle.std.proofs.Common.{rules}
use Rattle.lines.specs.Turns.{none, then}
use Rattle.lines.specs.TurnsLaws.{run_ends}
use Rattle.explain.proofs.serve.Goals as goal

pub loop-init : goal.loop-init
loop-init g c = (c.begin.ensures.0, search rules, search rules, rw c.begin.ensures.1 none)

pub returns-then-not-x : goal.returns-then-not-x
returns-then-not-x g c = run_ends c.loop.invariant.3 c.turn-x.ensures.1 c.if-not-x.true

pub loop-preserved : goal.loop-preserved
loop-preserved g c = (c.turn-x.ensures.0, search rules, search rules, then c.loop.invariant.3 c.turn-x.ensures.1)
