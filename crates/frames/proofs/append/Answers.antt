-- The text and the line feed are one write. Assumes nothing.
use Rattle.std.proofs.Common.{◌+◌, ap, arith}
use Rattle.frames.specs.Frames.{line_text, text_of}
use Rattle.hexadecimal.specs.Hex.{Written}
use Rattle.hexadecimal.specs.HexLaws.{written_one, written_then}
use Rattle.frames.proofs.append.Goals as goal

pub returns : goal.returns
unfolding line_text
returns c =
    let at = c.args.at in
    let n = c.text_len-n.result in
    let m = c.write_answer.new.out in
    let fits = c.text_len-n.ensures.0 in
    let w : Written c.args.out.now at (text_of c.kept_answer-a.result) m (at + n) =
    record { text = c.write_answer.ensures.1; place = ap (λ k. at + k) c.text_len-n.ensures.1 } in
    let f = written_one {l = m} {at = at + n} 10 (omega (arith, c.requires)) in
    (omega arith, rw (← c.kept_answer-a.ensures) (written_then w f (omega (arith, c.requires))))
