-- The first start is answered alone, or with the second behind it where it is suspicious. Assumes nothing.
use Rattle.std.proofs.Common.{◌∙◌, sym, ap}
use Rattle.robust_choice.specs.Parts.{chosen_of}
use Rattle.robust.proofs.RobustLaws.{ring_alone, ring_chosen}
use Rattle.robust.proofs.fit_by.Goals as goal

pub returns-then-not-fit_is_suspicious : goal.returns-then-not-fit_is_suspicious
returns-then-not-fit_is_suspicious g c =
    let calm = sym c.fit_is_suspicious.ensures ∙ c.if-not-fit_is_suspicious.true in
    ring_alone _ _ _ _ _ _ c.first_start-f.ensures.value calm c.alone.ensures

pub returns : goal.returns
returns g c =
    let suspicious = sym c.fit_is_suspicious.ensures ∙ c.if-not-fit_is_suspicious.false in
    ring_chosen _ _ _ _ _ _ c.first_start-f.ensures.value suspicious (c.chosen.ensures ∙ ap (chosen_of _) c.second-second.ensures)
