-- Each case has its length. Assumes nothing.
use Rattle.std.proofs.Common.{arith}
use Rattle.frames.specs.FramesLaws.{ring_length_lem, disk_length_lem, refusal_length}
use Rattle.frames.proofs.text_len.Goals as goal

pub returns-in-Ok-Ring : goal.returns-in-Ok-Ring
returns-in-Ok-Ring c =
    let fit = rw c.in-Ok-Ring.is at c.in-Ok-Ring.field-0-is in
    (omega arith, rw (c.in-Ok-Ring.is, fit) (ring_length_lem _ _))

pub returns-in-Ok-Disk : goal.returns-in-Ok-Disk
returns-in-Ok-Disk c =
    let fit = rw c.in-Ok-Disk.is at c.in-Ok-Disk.field-0-is in
    (omega arith, rw (c.in-Ok-Disk.is, fit) (disk_length_lem _))

pub returns-in-Err : goal.returns-in-Err
returns-in-Err c = (omega arith, rw c.in-Err.is (refusal_length _ _ _))
