-- Two writes side by side are one. Assumes nothing.
use Rattle.std.proofs.Common.{◌+◌, arith}
use Rattle.hexadecimal.specs.Hex.{count_text, byte_text, words_text}
use Rattle.hexadecimal.specs.HexLaws.{put_put, words_length}
use Rattle.frames.specs.Frames as F
use Rattle.frames.proofs.write_ring.Goals as goal

pub returns : goal.returns
unfolding F.ring_text count_text byte_text
returns c =
    rw (c.put_words.ensures, c.put_count.ensures, c.ring_words.ensures.0, c.from.ensures, c.answer_type.ensures.1)
    (put_put c.args.out.now c.args.at _ (words_text (F.ring_words c.args.r) 7) (c.args.at + 4) (omega arith)
    (omega (arith, words_length (F.ring_words c.args.r) 7)))
