-- Each turn follows those before it; the last leaves nothing more to do. Assumes nothing.
use Rattle.lines.specs.Turns.{none, then}
use Rattle.lines.specs.TurnsLaws.{run_ends}
use borrow.Author.Rules.{rules}
use Rattle.fitlines.proofs.serve.Goals as goal

pub loop-init : goal.loop-init
loop-init g c = (c.begin-s.ensures.0, search rules, search rules, rw c.begin-s.ensures.1 none)

pub returns-then-not-s : goal.returns-then-not-s
returns-then-not-s g c = run_ends c.loop.invariant.3 c.turn-s.ensures.1 c.if-not-s.true

pub loop-preserved : goal.loop-preserved
loop-preserved g c = (c.turn-s.ensures.0, search rules, search rules, then c.loop.invariant.3 c.turn-s.ensures.1)
