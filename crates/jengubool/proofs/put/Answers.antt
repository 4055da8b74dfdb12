-- Values written one behind the other are a part of the buffer. Assumes nothing.
use Rattle.jengubool.proofs.CallLaws.{put_front}
use Rattle.jengubool.proofs.put.Goals as goal

pub returns : goal.returns
returns g c = rw c.copy_from_slice.ensures.after (put_front _ _ c.requires)
