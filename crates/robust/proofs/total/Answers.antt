-- The chain folds the samples from -0. Assumes nothing.
use Rattle.std.proofs.Common.{rules, ◌≡◌, ◌∙◌}
use Rattle.std.specs.List.{fold}
use Rattle.std.specs.Float.{nan}
use Rattle.floats.specs.Ops.{◌⊕◌}
use Rattle.robust.specs.Robust as R
use Rattle.robust.proofs.FoldLaws.{fold_iter}
use Rattle.robust.proofs.total.Goals as goal

pub returns : goal.returns
unfolding R.total
returns c =
    let e : c.sum.result ≡ fold (λ a x. a ⊕ x) R.negative_zero c.args.samples.now = search rules in
    e ∙ fold_iter (λ a x. a ⊕ x) nan R.negative_zero c.args.samples.now
