-- Four writes side by side are one. Assumes nothing.
use Rattle.std.proofs.Common.{refl}
use Rattle.frames.specs.FramesLaws.{four_puts, flag_number}
use Rattle.frames.specs.Frames as F
use Rattle.hexadecimal.specs.HexLaws.{words_length}
use Rattle.hexadecimal.specs.Hex.{byte_text, count_text}
use Rattle.frames.proofs.write_disk.Goals as goal

pub returns : goal.returns
unfolding F.disk_text
returns c =
    rw (c.put_byte.ensures, c.put_count-2.ensures, c.put_words.ensures, c.put_count.ensures, c.disk_words.ensures.0, c.from.ensures, flag_number)
    (four_puts c.args.out.now c.args.at _ _ _ _ (unfold count_text byte_text in refl) (words_length (F.disk_words c.args.m) 11)
    (unfold count_text byte_text in refl) (unfold byte_text in refl) c.requires)
