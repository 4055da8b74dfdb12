-- What the contracts of crates/checked speak of besides the definitions: how the code tests values one list after the other, and what it learns of a
-- ring before the fit. Definitions only.
use Rattle.std.specs.Prelude.{◌≤◌, ◌≡◌, Bool, true, not, ◌&&◌, fold, position, List, ℕ, ◌+◌, length, Float, Option, Some, None, Result, Ok, Err}
use Rattle.std.specs.Float.Ieee.Scale.{finite}
use Rattle.solver.specs.Buffers.{max_samples}
use Rattle.seed_models.specs.Models.{Table}
use Rattle.robust.specs.Record.{record_ring}
use Rattle.checked.specs.declared.Refusal.{Refusal}
use Rattle.checked.specs.declared.Refusal.TheVariants.{NotFinite}
use Rattle.checked.specs.Checked.{first_wild, checked_ring}

-- whether all values are finite, told without their places
abbrev pub still_fine : Bool → Float → Bool
still_fine fine x = finite x && fine

abbrev pub all_finite : List Float → Bool
all_finite l = fold still_fine true l

-- the place of the first that is not, as std's search finds it
abbrev pub wild_position : List Float → Option ℕ
wild_position = position (λ x. not (finite x))

-- a place of a list that stands `from` places behind the start
abbrev pub moved_on : ℕ → Option ℕ → Option ℕ
moved_on from (Some i) = Some (from + i)
moved_on from None = None

-- what a test answers: nothing, or why a call is refused
abbrev pub Test : Type 0
Test = Result (Unit {0}) Refusal

-- of the first value that is not finite, if there is one
abbrev pub values_test : Option ℕ → Test
values_test None = Ok tt
values_test (Some i) = Err (NotFinite i)

-- of a list whose places count from `from`
abbrev pub values_from : ℕ → List Float → Test
values_from from l = values_test (moved_on from (first_wild l))

-- one test, and then another
abbrev pub tested : Test → Test → Test
tested (Err e) next = Err e
tested (Ok u) next = next

-- how many samples a ring may have
abbrev pub RingSize : ℕ → Type 0
RingSize n = n ≤ max_samples

-- a ring of n samples that is refused is answered so; of any other both lengths are n, and its fit is the answer
abbrev pub RingTested : ℕ → List Float → List Float → Test → Type 0
RingTested n samples angles (Err e) = (tables : List Table) → Err e ≡ checked_ring tables n samples angles
RingTested n samples angles (Ok u) =
    (length samples ≡ n) × (length angles ≡ n) × ((tables : List Table) → Ok (record_ring tables n samples angles) ≡ checked_ring tables n samples angles)
