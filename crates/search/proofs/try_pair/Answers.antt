-- Both rows are filled by then, so that the cache's score is the definition's. Assumes nothing.
use mathlib.Core.Path.{◌∙◌, ap}
use Rattle.std.specs.Prelude.{Option}
use Rattle.data.specs.Disk.{the_disk}
use Rattle.score.specs.declared.Fit.{Fit}
use Rattle.search.specs.CacheLaws.{cached_score_lem}
use Rattle.search.specs.Search as S
use Rattle.search.proofs.try_pair.Goals as goal

pub returns : goal.returns
returns c =
    let a = c.args in
    let e2 = c.ensure_row-filled.ensures in
    let first = e2.1.still _ c.ensure_row-one.ensures.1.here in
    let score = cached_score_lem (the_disk a.d) _ _ a.p e2.0 first e2.1.here in (
      e2.0,
      c.entered-leaders.ensures.0,
      c.entered-leaders.ensures.1 ∙ ap (λ (x : Option Fit). S.entered a.pass.leaders x) (c.score_cached-answer.ensures ∙ score),
    )
