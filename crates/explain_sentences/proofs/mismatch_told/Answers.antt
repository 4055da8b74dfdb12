-- The text's flags and its sentences are the definition's. Assumes nothing.
use Rattle.std.proofs.Common.{refl, arith}
use Rattle.explain_sentences.specs.Sentences as S
use Rattle.explain_words.specs.TellLaws.{rows_told}
use Rattle.explain_words.specs.Tell.{flags_of, barred, all_barless, barless}
use Rattle.hexadecimal.specs.Hex.{bytes, codes}
use Rattle.explain_sentences.proofs.mismatch_told.Goals as goal

pub returns : goal.returns
unfolding S.mismatch_rows flags_of barred bytes codes all_barless barless
returns c = (
  omega (arith, c.tell.ensures.fits),
  rows_told (S.mismatch_rows c.args.a) _ c.tell.ensures.said
      (rw (c.is_refused.ensures, c.is_clean-clean.ensures, c.of_ring.ensures, c.of_ring-2.ensures, c.of_disk.ensures, c.kind_above-kind.ensures)) refl,
)
