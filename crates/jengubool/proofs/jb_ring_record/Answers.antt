-- The number of samples says which ring it is. Assumes nothing.
use Rattle.std.proofs.Common.{eq-eqb, ne_eqb}
use Rattle.jengubool.proofs.jb_ring_record.Goals as goal

pub returns-then-samples-eq24 : goal.returns-then-samples-eq24
returns-then-samples-eq24 c = rw (eq-eqb _ _ c.if-samples-eq24.true, c.code.ensures) c.ring_call.ensures

pub returns : goal.returns
returns c = rw (ne_eqb _ _ c.if-samples-eq24.false, c.code-2.ensures) c.ring_call-2.ensures
