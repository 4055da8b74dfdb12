-- The text's flags and its sentences are the definition's. Assumes nothing.
use native.Mathlib.Omega.{arith}
use Rattle.explain_warnings.specs.WarningsLaws.{warnings_told}
use Rattle.explain_warnings.specs.Warnings as W
use Rattle.explain_words.specs.TellLaws.{said_as}
use Rattle.explain_words.specs.Tell.{barred}
use Rattle.hexadecimal.specs.Hex.{bytes, codes}
use Rattle.explain_warnings.proofs.warnings.Goals as goal

pub returns : goal.returns
unfolding W.warnings_of barred bytes codes
returns c =
    (omega (arith, c.tell.ensures.fits), said_as c.tell.ensures.said (warnings_told c.args.r _ c.flags-told.ensures.0))
