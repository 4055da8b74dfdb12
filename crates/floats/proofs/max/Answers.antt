-- A NaN is dropped, the tests tell the greater, equal numbers are one value, and two zeros are added. Assumes nothing.
use Rattle.std.proofs.Common.{◌≡◌, Bool, cond, sym, ap, ◌∙◌}
use Rattle.std.specs.Float.Ieee.{binary32}
use Rattle.floats.specs.FiniteLaws.{of_true}
use Rattle.floats.specs.Library.{before, max}
use Rattle.floats.specs.MaxMinLaws.{max_first, max_second, max_pick, max_zeros, before_lt, before_same, before_apart}
use Rattle.floats.proofs.max.Goals as goal
use Rattle.floats.proofs.max.Goals.{else-x-y-2-via-then-x-y-2+else-x-2, else-x-y-2-via-else-x-y-2}

pub returns-then-x : goal.returns-then-x
returns-then-x c = max_first _ _ c.if-x.true

pub returns-then-y : goal.returns-then-y
returns-then-y c = max_second _ _ c.if-x.false c.if-y.true

pub returns-then-x-y : goal.returns-then-x-y
returns-then-x-y c =
    let a = c.args in
    sym (ap (λ (b : Bool). cond b a.y a.x) (before_lt _ _ c.if-x-y.true)) ∙ max_pick _ _ c.if-x.false c.if-y.false

pub returns-then-x-2 : goal.returns-then-x-2
returns-then-x-2 c =
    max_zeros binary32 c.args.x c.args.y (of_true c.well_formed.0.1) (of_true c.well_formed.1.0.1) c.if-x-y-2.true c.if-x-2.true

-- equal and not zero, or not equal
pub returns : goal.returns
returns c =
    let a = c.args in
    let less = c.if-x-y.false in
    let picked : cond (before a.x a.y) a.y a.x ≡ max a.x a.y = max_pick _ _ c.if-x.false c.if-y.false in
    elim c.else-x-y-2.branch [
      | else-x-y-2-via-then-x-y-2+else-x-2 w ↦
          sym (ap (λ (b : Bool). cond b a.y a.x) (before_same _ _ less w.if-x-y-2.true w.if-x-2.false)) ∙ picked
      | else-x-y-2-via-else-x-y-2 w ↦ sym (ap (λ (b : Bool). cond b a.y a.x) (before_apart _ _ less w.if-x-y-2.false)) ∙ picked
    ]
