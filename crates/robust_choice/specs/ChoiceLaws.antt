-- The code's choice, made of starts without their sums, is the definition's: a start keeps its fit, its mean, its standing and its updates. Assumes nothing.
use Rattle.std.specs.Prelude.{◌≡◌, refl, Bool, true, false, cond, Option, Some, None}
use Rattle.solver_record.specs.declared.Started.{Started}
use Rattle.robust_choice.specs.declared.RingFit.{RingFit}
use Rattle.robust_choice.specs.Choice.{Start, single, is_lower, chosen}
use Rattle.robust_choice.specs.Record.{ring_fit_of}
use Rattle.robust_choice.specs.Parts.{started_of, second_of, alone_of, chosen_of}

pub alone_is : (f : Start) → alone_of (started_of f) ≡ ring_fit_of (single f)
alone_is f = refl

pub chosen_is : (f : Start) (o : Option Start) → chosen_of (started_of f) (second_of o) ≡ ring_fit_of (chosen f o)
unfolding chosen
chosen_is f None = refl
chosen_is f (Some g) = go (is_lower g.fit f.fit)
  where
    two : Started → RingFit
    two a = record { fit = a.fit; standing = a.standing; starts = 2; first = f.updates; second = g.updates }

    go : (b : Bool) → two (cond b (started_of g) (started_of f))
        ≡ ring_fit_of (record { answered = cond b g f; starts = 2; first = f.updates; second = g.updates })
    go true = refl
    go false = refl
