-- The chain folds the squared deviations from -0. Assumes nothing.
use Rattle.std.proofs.Common.{rules, ◌≡◌, ◌∙◌, map}
use Rattle.std.specs.Prelude.{Float}
use Rattle.std.specs.List.{fold}
use Rattle.std.proofs.lemmas.List.Folds.{fold-map}
use Rattle.std.specs.Float.{nan}
use Rattle.floats.specs.Ops.{◌⊕◌, ◌⊖◌, ◌⊗◌}
use Rattle.robust.specs.Robust as R
use Rattle.robust.proofs.FoldLaws.{fold_iter}
use Rattle.robust.proofs.deviations.Goals as goal

pub returns : goal.returns
unfolding R.deviations
returns c =
    let m = c.args.mean in
    let d : Float → Float = λ x. (x ⊖ m) ⊗ (x ⊖ m) in
    let e : c.sum.result ≡ fold (λ a x. a ⊕ x) R.negative_zero (map d c.args.samples.now) = search rules in
    e ∙ fold-map (λ a x. a ⊕ x) d R.negative_zero c.args.samples.now ∙ fold_iter (λ a x. a ⊕ d x) nan R.negative_zero c.args.samples.now
