-- Two bytes side by side are one write. Assumes nothing.
use native.Mathlib.Omega.{arith}
use Rattle.hexadecimal.specs.Hex.{byte_text, count_text}
use Rattle.hexadecimal.specs.HexLaws.{put_put}
use Rattle.hexadecimal.proofs.put_count.Goals as goal

pub returns : goal.returns
unfolding count_text byte_text
returns c =
    rw (c.put_byte-2.ensures, c.put_byte.ensures) (put_put c.args.out.now c.args.at _ _ _ (omega arith) (omega arith))
