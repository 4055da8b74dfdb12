-- What in an answer is not to be taken at face value, and where in the answer's line it stands. Definitions only.
use Rattle.std.specs.Prelude.{Bool, true, false, not, ◌&&◌, ◌||◌, List, [], ◌∷◌, ℕ, ◌+◌, ◌*◌, eqb, Float}
use Prim.Native.String.{String}
use Rattle.std.specs.Float.{nan, inf, fin}
use Rattle.std.specs.Float.Ieee.{eq, lt, le, is_nan}
use Rattle.std.specs.Float.Ieee.Scale.{finite}
use Rattle.floats.specs.Ops.{◌⊘◌, lit, nought, one, pi, half_pi}
use Rattle.floats.specs.Library.{max}
use Rattle.hexadecimal.specs.Hex.{byte_of, value_of}
use Rattle.explain_words.specs.Tell.{telling}
use Rattle.shapes.specs.declared.Kind.{Kind}
use Rattle.shapes.specs.declared.Kind.TheVariants.{Ring, Disk}
use Rattle.explain_warnings.specs.declared.Reading.{Reading}
use Rattle.explain_warnings.specs.declared.Search.{Search}
use Rattle.explain_warnings.specs.declared.Beside.{Beside}
use Rattle.explain_warnings.specs.declared.Beside.TheVariants as Besides

-- ---- an answer's values, where they stand in its line (docs/RULES.md, Frame lines)
abbrev pub ring_reading : List ℕ → Reading
ring_reading l =
    record {
      amp = value_of l 4;
      theta1 = value_of l 12;
      theta2 = value_of l 20;
      error1 = value_of l 28;
      error2 = value_of l 36;
      rms = value_of l 44;
      known = not (eqb (byte_of l 58) 0);
      beside = Besides.Ring (record { number = byte_of l 52; first = byte_of l 54; second = byte_of l 56 });
    }

abbrev pub disk_reading : List ℕ → Reading
disk_reading l =
    record {
      theta1 = value_of l 4;
      theta2 = value_of l 12;
      amp = value_of l 28;
      rms = value_of l 36;
      error1 = value_of l 76;
      error2 = value_of l 84;
      known = not (eqb (byte_of l 96) 0);
      beside = Besides.Disk (record {
        width = value_of l 20;
        rel_rms = value_of l 44;
        corr = value_of l 52;
        edge_score = value_of l 60;
        objective = value_of l 68;
        trials = byte_of l 92 * 256 + byte_of l 94;
      });
    }

-- of a disk or of a ring
abbrev pub reading_of : List ℕ → Kind → Reading
reading_of l (Ring kind) = ring_reading l
reading_of l Disk = disk_reading l

-- ---- what is asked of a value
unfoldable pub is_infinite : Float → Bool
is_infinite nan = false
is_infinite (inf s) = true
is_infinite (fin s m e) = false

abbrev pub is_wild : Float → Bool
is_wild x = not (finite x)

-- robust.rs: relative_rms is at least ROBUST_REL_RMS_TRIGGER, 0.12; of a residual that is not finite nothing is said here
abbrev pub is_large : Float → Float → Bool
is_large rms amp = finite rms && le (lit 0x3df5_c28f) (max rms nought ⊘ max amp one)

-- a ring's start without contrast: amplitude 0, axes 0 and PI/2, and no update. Where there were two starts, either may be the one
abbrev pub is_still : Beside → Bool
is_still (Besides.Ring s) = eqb s.first 0 || eqb s.second 0
is_still (Besides.Disk d) = false

abbrev pub is_degenerate : Reading → Bool
is_degenerate r = is_still r.beside && (eq r.amp nought && eq r.theta1 nought && eq r.theta2 half_pi)

-- a disk of which p holds
abbrev pub of_disk : (Search → Bool) → Beside → Bool
of_disk p (Besides.Ring s) = false
of_disk p (Besides.Disk d) = p d

abbrev pub is_outside : Float → Bool
is_outside x = lt x nought || lt one x

abbrev pub disk_flags : Beside → List Bool
disk_flags b =
    of_disk (λ d. eq d.corr nought) b
    ∷ of_disk (λ d. is_outside d.corr) b
    ∷ of_disk (λ d. is_wild d.width) b
    ∷ of_disk (λ d. is_wild d.rel_rms) b
    ∷ of_disk (λ d. is_wild d.corr) b
    ∷ of_disk (λ d. is_wild d.edge_score) b
    ∷ of_disk (λ d. is_wild d.objective) b
    ∷ []

-- ---- the warnings: when, and in which words. Where the errors are known (docs/RULES.md, Known), a PI is an estimate of that or more;
-- where they are not, a 0 says nothing
unfoldable pub warnings_of : Reading → List (Bool × String)
warnings_of r =
    (eq r.rms nought, "  warning: the residual is 0: no noise at all, or nothing to fit\n")
    ∷ (is_infinite r.rms, "  warning: the residual is infinite: a sum overflowed\n")
    ∷ (is_nan r.rms, "  warning: the residual is NaN: it says nothing of the fit\n")
    ∷ (is_large r.rms r.amp, "  warning: the residual is at least 12 % of the amplitude, or of 1 where that is more\n")
    ∷ (of_disk (λ d. eq d.corr nought) r.beside, "  warning: the correlation is 0: the fit explains nothing of the disk\n")
    ∷ (of_disk (λ d. is_outside d.corr) r.beside, "  warning: the correlation is not between 0 and 1\n")
    ∷ (not r.known, "  warning: the errors are not known: whatever stands in their place, PI or 0 too, is no estimate\n")
    ∷ (r.known && eq r.error1 pi, "  warning: the first error is estimated, and is PI or more: that axis is not determined\n")
    ∷ (r.known && eq r.error2 pi, "  warning: the second error is estimated, and is PI or more: that axis is not determined\n")
    ∷ (r.known && eq r.error1 nought, "  warning: the first error is estimated, and is 0: no value deviates, or it was lost in rounding\n")
    ∷ (r.known && eq r.error2 nought, "  warning: the second error is estimated, and is 0: no value deviates, or it was lost in rounding\n")
    ∷ (eq r.amp nought, "  warning: the amplitude is 0: there is no contrast to fit\n")
    ∷ (is_wild r.amp, "  warning: the amplitude is not finite\n")
    ∷ (is_wild r.theta1, "  warning: the first axis is not finite\n")
    ∷ (is_wild r.theta2, "  warning: the second axis is not finite\n")
    ∷ (is_wild r.error1, "  warning: the first error is not finite\n")
    ∷ (is_wild r.error2, "  warning: the second error is not finite\n")
    ∷ (of_disk (λ d. is_wild d.width) r.beside, "  warning: the width is not finite\n")
    ∷ (of_disk (λ d. is_wild d.rel_rms) r.beside, "  warning: the relative residual is not finite\n")
    ∷ (of_disk (λ d. is_wild d.corr) r.beside, "  warning: the correlation is not finite\n")
    ∷ (of_disk (λ d. is_wild d.edge_score) r.beside, "  warning: the edge score is not finite\n")
    ∷ (of_disk (λ d. is_wild d.objective) r.beside, "  warning: the objective is not finite\n")
    ∷ (is_degenerate r, "  warning: the samples have no contrast: axes and errors are placeholders\n")
    ∷ []

-- those that are called for, one after the other
abbrev pub warnings_text : Reading → List ℕ
warnings_text r = telling [] (warnings_of r)
