-- Each flag is its sentence's. Assumes nothing.
use Rattle.explain_sentences.specs.Sentences as S
use Rattle.explain_words.specs.Tell.{flags_of}
use Rattle.std.proofs.Common.{refl}
use Rattle.explain_sentences.proofs.fit.flags_of.Goals as goal

pub returns : goal.returns
unfolding flags_of S.fit_rows
returns c = (rw (c.of_ring.ensures, c.of_ring-2.ensures, c.of_disk-disk.ensures), refl)
