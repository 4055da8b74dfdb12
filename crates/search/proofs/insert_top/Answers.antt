-- A test for each place. Assumes nothing.
use Rattle.search.specs.CacheLaws.{insert_top_is}
use Rattle.search.proofs.insert_top.Goals as goal

pub returns-then-beats : goal.returns-then-beats
returns-then-beats c = rw (insert_top_is c.args.top c.args.fit, ← c.beats.ensures, c.if-beats.true)

pub returns-then-beats-2 : goal.returns-then-beats-2
returns-then-beats-2 c = rw (insert_top_is c.args.top c.args.fit, ← c.beats.ensures, c.if-beats.false, ← c.beats-2.ensures, c.if-beats-2.true)

pub returns : goal.returns
returns c = rw (insert_top_is c.args.top c.args.fit, ← c.beats.ensures, c.if-beats.false, ← c.beats-2.ensures, c.if-beats-2.false)
