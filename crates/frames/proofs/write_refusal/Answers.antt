-- Three writes side by side are one. Assumes nothing.
use Rattle.std.proofs.Common.{◌+◌, arith}
use Rattle.frames.specs.Frames.{refused_type, refused_number, refused_place, refusal_text}
use Rattle.hexadecimal.specs.Hex.{count_text, byte_text}
use Rattle.hexadecimal.specs.HexLaws.{put_put}
use Rattle.frames.proofs.write_refusal.Goals as goal

pub returns : goal.returns
unfolding refusal_text count_text byte_text
returns c =
    let e = c.args.e in
    rw (
      c.put_count.ensures,
      c.from-3.ensures,
      c.place.ensures,
      c.put_byte-2.ensures,
      c.from-2.ensures,
      c.number.ensures,
      c.put_byte.ensures,
      c.from.ensures,
      c.answer_type.ensures,
      put_put c.args.out.now c.args.at (byte_text (refused_type e)) (byte_text (refused_number e)) (c.args.at + 2) (omega arith) (omega arith),
    ) (put_put c.args.out.now c.args.at _ (count_text (refused_place e)) (c.args.at + 4) (omega arith) (omega arith))
