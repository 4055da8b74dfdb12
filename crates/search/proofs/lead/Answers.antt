-- A call and a test; a refinement makes 24 trials. Assumes nothing.
use mathlib.Core.Path.{◌∙◌, ap}
use native.Mathlib.Omega.{arith}
use Rattle.search_refine.proofs.TurnLaws.{refine_trials}
use Rattle.search_refine.specs.declared.Refined.{Refined}
use Rattle.search.specs.Search as S
use Rattle.search.proofs.lead.Goals as goal

pub overflow_add-trials : goal.overflow_add-trials
overflow_add-trials c =
    let e = ap (λ (r : Refined). r.trials) c.refine_fit_cached-refined.ensures ∙ refine_trials _ _ in
    record { fits = omega (arith, e, c.requires) }

pub returns-then-fit_is_better : goal.returns-then-fit_is_better
unfolding S.lead
returns-then-fit_is_better c =
    let e = ap (λ (r : Refined). r.trials) c.refine_fit_cached-refined.ensures ∙ refine_trials _ _ in
    (omega (arith, e), rw (← c.refine_fit_cached-refined.ensures, ← c.fit_is_better.ensures, c.if-fit_is_better.true))

pub returns : goal.returns
unfolding S.lead
returns c =
    let e = ap (λ (r : Refined). r.trials) c.refine_fit_cached-refined.ensures ∙ refine_trials _ _ in
    (omega (arith, e), rw (← c.refine_fit_cached-refined.ensures, ← c.fit_is_better.ensures, c.if-fit_is_better.false))
