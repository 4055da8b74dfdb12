-- Two halves side by side are one write. Assumes nothing.
use native.Mathlib.Omega.{arith}
use Rattle.hexadecimal.specs.Hex.{byte_text, count_text, word_text}
use Rattle.hexadecimal.specs.HexLaws.{put_put}
use Rattle.hexadecimal.proofs.put_word.Goals as goal

pub returns : goal.returns
unfolding word_text count_text byte_text
returns c =
    rw (c.put_count-2.ensures, c.put_count.ensures) (put_put c.args.out.now c.args.at _ _ _ (omega arith)
    (omega arith))
