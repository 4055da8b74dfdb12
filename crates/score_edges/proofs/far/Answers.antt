-- Both tests hold, or one of them does not. Assumes nothing.
use mathlib.Core.Path.{◌≡◌, ◌∙◌, refl}
use mathlib.Core.Bool.{Bool, true, false, not, ◌&&◌}
use mir.Val.{bool_byte}
use Rattle.std.specs.Prelude.{cond}
use Rattle.score_edges.specs.NearLaws as N
use Rattle.score_edges.proofs.far.Goals as goal

counted : (b c : Bool) → bool_byte (not (b && c)) ≡ cond b (cond c 0 1) 1
counted true true = refl
counted true false = refl
counted false c = refl

pub returns : goal.returns
unfolding N.far_count
returns c = c.from.ensures ∙ counted _ _
