-- A loop of stores makes the list of its elements. Assumes nothing.
use mathlib.Core.Path.{◌≡◌, ap, ◌∙◌}
use native.Mathlib.Omega.{arith}
use lib.Ieee.{nan}
use lib.ListN.{length}
use Rattle.loops.proofs.TabLaws.{stores_none, stores_next, stores_all}
use borrow.Author.Rules.{rules}
use Rattle.score_edges.proofs.far_terms.Goals as goal

pub loop-p-init : goal.loop-p-init
loop-p-init g c = (search rules, stores_none _ _)

pub loop-p-preserved : goal.loop-p-preserved
loop-p-preserved g c =
    let i = c.loop-p.invariant.1 in
    (search rules, stores_next _ _ _ _ _ i (c.term.ensures ∙ ap (g.G.Gaussian.term _) c.signed_line_delta-d.ensures.value))

pub returns : goal.returns
returns g c =
    let a = c.args in
    let h : c.loop-p.p ≡ length a.grad_angles.now = omega arith in
    stores_all _ _ _ nan _ (rw h at c.loop-p.invariant.1) (omega arith)
