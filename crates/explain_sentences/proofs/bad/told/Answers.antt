-- The text's flags and its sentences are the definition's. Assumes nothing.
use Rattle.std.proofs.Common.{refl, arith}
use Rattle.explain_sentences.specs.Sentences as S
use Rattle.explain_words.specs.TellLaws.{rows_told}
use Rattle.explain_words.specs.Tell.{barred, all_barless, barless}
use Rattle.hexadecimal.specs.Hex.{bytes, codes}
use Rattle.explain_sentences.proofs.bad.told.Goals as goal

pub returns : goal.returns
unfolding S.bad_rows barred bytes codes all_barless barless
returns c =
    let e = rw c.foreign_byte.ensures at c.flags_of-flags.ensures.0 in
    (omega (arith, c.tell.ensures.fits), rows_told (S.line_rows c.args.w c.args.line.now) _ c.tell.ensures.said e refl)
