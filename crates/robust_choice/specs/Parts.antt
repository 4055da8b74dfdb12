-- What the contracts of crates/robust_choice speak of besides the definitions: the code's own starts, which keep no sums. Definitions only.
use Rattle.std.specs.Prelude.{cond, Option, Some, None}
use Rattle.std.specs.Option.{option_map}
use Rattle.solver_record.specs.Record.{with_mean, without_mean}
use Rattle.solver_record.specs.declared.Started.{Started}
use Rattle.robust_choice.specs.declared.RingFit.{RingFit}
use Rattle.robust_choice.specs.Choice as C
use Rattle.robust_choice.specs.Record.{mean_from}

-- ---- starts with their mean, without what they were made of
abbrev pub started_of : C.Start → Started
started_of s = record { fit = with_mean s.fit (mean_from s.source); standing = s.standing; updates = s.updates }

abbrev pub second_of : Option C.Start → Option Started
second_of = option_map started_of

-- ---- the answer of one start, the lower of two, and the answer with a second start
abbrev pub alone_of : Started → RingFit
alone_of f = record { fit = f.fit; standing = f.standing; starts = 1; first = f.updates; second = 0 }

abbrev pub lower_of : Started → Started → Started
lower_of f g = cond (C.is_lower (without_mean g.fit) (without_mean f.fit)) g f

abbrev pub chosen_of : Started → Option Started → RingFit
chosen_of f None = alone_of f
chosen_of f (Some g) =
    let a = lower_of f g in record { fit = a.fit; standing = a.standing; starts = 2; first = f.updates; second = g.updates }
