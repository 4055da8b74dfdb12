-- The text's flags and its sentences are the definition's, and the warnings stand behind them. Assumes nothing.
use Rattle.std.proofs.Common.{refl, ap, arith}
use Rattle.explain_sentences.specs.Sentences as S
use Rattle.explain_words.specs.TellLaws.{rows_told, said_then, said_as}
use Rattle.explain_words.specs.Tell.{barred, all_barless, barless}
use Rattle.hexadecimal.specs.Hex.{bytes, codes}
use Rattle.explain_sentences.proofs.fit.told.Goals as goal

pub returns : goal.returns
unfolding S.fit_rows barred bytes codes all_barless barless
returns c =
    let kind = c.args.kind in
    let t = rows_told (S.fit_rows kind c.read-r.result.known) _ c.tell.ensures.said c.flags_of-flags.ensures.0 refl in
    let h = c.tell.ensures.fits in
    let w = said_then t.said c.warnings.ensures.1 (omega arith) in
    (omega arith, record { words = t.words; said = said_as w (ap (λ q. S.fit_text t.words kind q) c.read-r.ensures) })
