-- Where all are finite nothing is found, and else `position` finds the first that is not, which is one of the values. Assumes nothing.
use Rattle.std.proofs.Common.{◌≡◌, sym, ◌∙◌, ◌<◌, length, List, ℕ, Option, Some, None, IfSome}
use Rattle.std.specs.Prelude.{Float}
use Rattle.checked.specs.Checked.{first_wild}
use Rattle.checked.specs.CheckedLaws.{all_clean, position_wild, wild_first}
use Rattle.checked.proofs.first_wild.Goals as goal

inside : (l : List Float) (w : Option ℕ) → w ≡ first_wild l → IfSome w (λ i. i < length l)
inside l None e = tt
inside l (Some i) e = (wild_first l i (sym e)).inside

pub returns-then-all_finite : goal.returns-then-all_finite
returns-then-all_finite c =
    record { value = all_clean _ (sym c.all_finite.ensures ∙ c.if-all_finite.true); inside = tt }

pub returns : goal.returns
returns c =
    let e = c.find_wild.ensures ∙ position_wild _ in
    record { value = e; inside = inside _ _ e }
