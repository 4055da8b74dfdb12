-- Each flag is its sentence's. Assumes nothing.
use Rattle.floats.specs.MaxMinLaws.{ne_is_nan}
use Rattle.explain_warnings.specs.Warnings as W
use Rattle.explain_words.specs.Tell.{flags_of}
use mathlib.Core.Path.{refl}
use Rattle.explain_warnings.proofs.flags.Goals as goal

pub returns : goal.returns
unfolding flags_of W.warnings_of
returns c = (
  rw (
    c.disk_flags.ensures.0,
    c.is_infinite.ensures,
    ne_is_nan c.args.r.rms,
    c.is_large.ensures,
    c.is_wild.ensures,
    c.is_wild-2.ensures,
    c.is_wild-3.ensures,
    c.is_wild-4.ensures,
    c.is_wild-5.ensures,
    c.is_degenerate.ensures,
  ),
  refl,
)
