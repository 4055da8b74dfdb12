-- A start that is refused is told by its test, and every other is made with the sines and cosines at hand. Assumes nothing.
use Rattle.robust.proofs.RobustLaws.{start_refused, start_made}
use Rattle.robust.proofs.started.Goals as goal

pub returns-then-is_degenerate : goal.returns-then-is_degenerate
returns-then-is_degenerate g c = start_refused _ _ _ _ _ c.is_degenerate.ensures c.if-is_degenerate.true c.refused.ensures

pub returns : goal.returns
returns g c =
    let r = c.args.ready.now in
    start_made _ _ _ _ _ _ _ c.is_degenerate.ensures c.if-is_degenerate.false r.phi (record { s = r.sines; c = r.cosines }) c.fit_prepared.ensures
