-- Either trigger. Assumes nothing.
use Rattle.robust.specs.Robust as R
use Rattle.robust.proofs.is_triggered.Goals as goal

pub returns-then-is_outside : goal.returns-then-is_outside
unfolding R.triggered
returns-then-is_outside c = rw (← c.line_separation.ensures.value, ← c.is_outside.ensures, c.if-is_outside.true)

pub returns : goal.returns
unfolding R.triggered
returns c = rw (← c.line_separation.ensures.value, ← c.is_outside.ensures, c.if-is_outside.false, ← c.relative_rms.ensures)
