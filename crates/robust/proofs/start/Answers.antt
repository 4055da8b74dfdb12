-- A start that is refused is told by its test, and is never suspicious; every other is prepared and made. Assumes nothing.
use Rattle.robust.proofs.RobustLaws.{refused_calm, start_refused, start_made}
use Rattle.std.proofs.Common.{◌∙◌, sym}
use Rattle.robust.proofs.start.Goals as goal

pub returns-then-is_degenerate : goal.returns-then-is_degenerate
returns-then-is_degenerate g c =
    let refused = c.refused.ensures in
    record { value = start_refused _ _ _ _ _ c.is_degenerate.ensures c.if-is_degenerate.true refused; prepared = refused_calm _ _ _ refused }

pub returns : goal.returns
returns g c =
    let prepared = c.prepare.ensures in
    record {
      value =
          start_made _ _ _ _ _ _ _ c.is_degenerate.ensures c.if-is_degenerate.false (c.requires.angles ∙ sym c.requires.size) prepared
          c.fit_prepared.ensures;
      prepared = λ e. prepared;
    }
