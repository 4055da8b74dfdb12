-- Each flag is its sentence's. Assumes nothing.
use Rattle.explain_sentences.specs.Sentences as S
use Rattle.explain_words.specs.Tell.{flags_of}
use Rattle.std.proofs.Common.{refl}
use Rattle.explain_sentences.proofs.bad.flags_of.Goals as goal

pub returns : goal.returns
unfolding flags_of S.bad_rows
returns c = (
  rw (
    c.is_upper-upper.ensures,
    c.is_return-returned.ensures,
    c.is_too_long.ensures,
    c.is_foreign-foreign.ensures,
    c.is_short-short.ensures,
    c.is_unknown_type.ensures,
    c.is_ring_length.ensures,
    c.is_ring24_length.ensures,
    c.is_disk_short.ensures,
    c.is_disk_length.ensures,
    c.is_answer_length.ensures,
    c.is_ring_answer_length.ensures,
    c.is_disk_answer_length.ensures,
    c.is_malformed_answer_length.ensures,
    c.is_fit_number.ensures,
    c.is_no_number.ensures,
    c.is_strange_number-strange.ensures,
  ),
  refl,
)
