-- A NaN is dropped, the tests tell the lesser, equal numbers are one value, and of two zeros the negatives are added. Assumes nothing.
use Rattle.std.proofs.Common.{◌≡◌, Bool, cond, sym, ap, ◌∙◌}
use Rattle.std.specs.Float.Ieee.{binary32}
use Rattle.floats.specs.FiniteLaws.{of_true}
use Rattle.floats.specs.Library.{before, min}
use Rattle.floats.specs.MaxMinLaws.{min_first, min_second, min_pick, min_zeros, before_lt, before_same, before_apart}
use Rattle.floats.proofs.min.Goals as goal
use Rattle.floats.proofs.min.Goals.{else-y-x-2-via-then-y-x-2+else-y-2, else-y-x-2-via-else-y-x-2}

pub returns-then-x : goal.returns-then-x
returns-then-x c = min_first _ _ c.if-x.true

pub returns-then-y : goal.returns-then-y
returns-then-y c = min_second _ _ c.if-x.false c.if-y.true

pub returns-then-y-x : goal.returns-then-y-x
returns-then-y-x c =
    let a = c.args in
    sym (ap (λ (b : Bool). cond b a.y a.x) (before_lt _ _ c.if-y-x.true)) ∙ min_pick _ _ c.if-x.false c.if-y.false

pub returns-then-y-2 : goal.returns-then-y-2
returns-then-y-2 c =
    min_zeros binary32 c.args.x c.args.y (of_true c.well_formed.0.1) (of_true c.well_formed.1.0.1) c.if-y-x-2.true c.if-y-2.true

-- equal and not zero, or not equal
pub returns : goal.returns
returns c =
    let a = c.args in
    let less = c.if-y-x.false in
    let picked : cond (before a.y a.x) a.y a.x ≡ min a.x a.y = min_pick _ _ c.if-x.false c.if-y.false in
    elim c.else-y-x-2.branch [
      | else-y-x-2-via-then-y-x-2+else-y-2 w ↦
          sym (ap (λ (b : Bool). cond b a.y a.x) (before_same _ _ less w.if-y-x-2.true w.if-y-2.false)) ∙ picked
      | else-y-x-2-via-else-y-x-2 w ↦ sym (ap (λ (b : Bool). cond b a.y a.x) (before_apart _ _ less w.if-y-x-2.false)) ∙ picked
    ]
