-- Each shape has its answer, and the lengths that the readers ask for are the shape's. Assumes nothing.
use Rattle.std.proofs.Common.{inl, inr}
use Rattle.frames.specs.Frames as F
use Rattle.frames.proofs.answer_to.Goals as goal

pub returns-in-Ring : goal.returns-in-Ring
unfolding F.answer_of
returns-in-Ring c = rw (← c.shape_of.ensures.0, c.in-Ring.is) c.typed_ring.ensures

pub returns-in-Disk : goal.returns-in-Disk
unfolding F.answer_of
returns-in-Disk c = rw (← c.shape_of.ensures.0, c.in-Disk.is) c.disk_line.ensures

pub returns-in-BadCount : goal.returns-in-BadCount
unfolding F.answer_of
returns-in-BadCount c = rw (← c.shape_of.ensures.0, c.in-BadCount.is)

pub returns-in-OtherType : goal.returns-in-OtherType
unfolding F.answer_of
returns-in-OtherType c =
    let is = c.shape_of.ensures.0 in
    elim c.in-OtherType.is [ inl h ↦ rw (← is, h.1) | inr h ↦ rw (← is, h.1) ]
