-- Each flag is its sentence's. Assumes nothing.
use Rattle.explain_sentences.specs.Sentences as S
use Rattle.explain_words.specs.Tell.{flags_of}
use Rattle.std.proofs.Common.{refl}
use Rattle.explain_sentences.proofs.refusal.flags_of.Goals as goal

pub returns : goal.returns
unfolding flags_of S.refusal_rows
returns c = (
  rw (
    c.of_ring-ring.ensures,
    c.of_ring-ring24.ensures,
    c.of_disk.ensures,
    c.of_malformed.ensures,
    c.of_disk-2.ensures,
    c.kind_above.ensures,
    c.is_sample.ensures,
    c.is_angle.ensures,
    c.is_part.ensures,
    c.is_part-2.ensures,
    c.is_part-3.ensures,
    c.is_part-4.ensures,
    c.is_part-5.ensures,
    c.is_part-6.ensures,
    c.is_part-7.ensures,
    c.is_part-8.ensures,
    c.is_part-9.ensures,
    c.is_disk.ensures,
    c.is_nameless.ensures,
    c.is_bad.ensures,
  ),
  refl,
)
