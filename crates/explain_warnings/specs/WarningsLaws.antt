-- What the comparisons of a float with itself tell, by its three kinds; and the text of the warnings. Assumes nothing.
use Rattle.std.specs.Prelude.{◌≡◌, refl, Bool, true, false, not, Float, List, ℕ}
use Rattle.std.proofs.Common.{sym, ap, ◌∙◌, true≢false}
use Rattle.std.specs.Float.{nan, inf, fin}
use Rattle.std.specs.Float.Ieee.{eq}
use Rattle.std.specs.Float.Ieee.Scale.{finite}
use Rattle.explain_words.specs.Tell.{told, telling, spelled, piece, flags_of, barred, barless, all_barless}
use Rattle.hexadecimal.specs.Hex.{bytes, codes}
use Rattle.explain_words.specs.TellLaws.{told_telling}
use Rattle.explain_warnings.specs.declared.Reading.{Reading}
use Rattle.explain_warnings.specs.Warnings.{is_infinite, warnings_of, warnings_text}

pub infinite_test : (x : Float) → eq x x ≡ true → not (finite x) ≡ is_infinite x
unfolding is_infinite
infinite_test nan d = absurd (true≢false (sym (unfold eq in d)))
infinite_test (inf s) d = refl
infinite_test (fin s m e) d = refl

pub nan_not_infinite : (x : Float) → eq x x ≡ false → false ≡ is_infinite x
unfolding is_infinite
nan_not_infinite nan d = refl
nan_not_infinite (inf true) d = absurd (true≢false (unfold eq in d))
nan_not_infinite (inf false) d = absurd (true≢false (unfold eq in d))
nan_not_infinite (fin s m e) d = refl

-- no sentence has a bar or a blank, so that they are told as they stand
pub warnings_told : (r : Reading) {fs : List Bool} (ws : List (List ℕ)) → fs ≡ flags_of (warnings_of r)
    → told fs ws 0 false (barred (warnings_of r)) ≡ warnings_text r
unfolding warnings_of all_barless barless bytes codes telling spelled piece
warnings_told r ws e = ap (λ (fs : List Bool). told fs ws 0 false (barred (warnings_of r))) e ∙ told_telling ws (warnings_of r) refl
