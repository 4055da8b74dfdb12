-- What an exported value call returns, and what it leaves in the lent buffers. Definitions only.
use Rattle.std.specs.Prelude.{◌≡◌, true, ◌||◌, ◌≤◌, Result, Ok, Err, take}
use Rattle.std.specs.Prelude.{cond, List, [], ◌∷◌, map, ℕ, ◌+◌, ◌*◌, ◌%◌, length, set, eqb, ltb, Float}
use Rattle.solver_record.specs.Record.{without_mean}
use Rattle.solver_record.specs.declared.TwoAxisFit.{TwoAxisFit}
use Rattle.seed_models.specs.Models.{Table}
use Rattle.checked.specs.Checked.{RingAnswer, DiskAnswer, refusal_number, refusal_place, checked_ring, checked_disk}
use Rattle.checked.specs.Checked.{fit_values, record_values, fit_counts, measured_values, measured_counts}
use Rattle.checked.specs.declared.Refusal.{Refusal}
use Rattle.checked.specs.declared.Refusal.TheVariants.{WrongLength}
use Rattle.data.specs.Data.{DiskData}

-- values from a place on, one behind the other; whatever stands elsewhere stays
abbrev pub put_from : {A : Type 0} → List A → ℕ → List A → List A
put_from [] at l = l
put_from (x ∷ xs) at l = put_from xs (at + 1) (set l at x)

-- a count as a word of 32 bits
abbrev pub wide : ℕ → ℕ
wide n = n % 4294967296

-- a refusal's number and place in one word
abbrev pub code_of : Refusal → ℕ
code_of e = refusal_number e * 65536 + refusal_place e

-- what the test of a caller's buffers says: they have room for so many values and counts, or one is too short
abbrev pub RoomTested : List Float → ℕ → List ℕ → ℕ → Result (Unit {0}) Refusal → Type 0
RoomTested fit values counts numbers (Err e) = (e ≡ WrongLength) × ((ltb (length fit) values || ltb (length counts) numbers) ≡ true)
RoomTested fit values counts numbers (Ok u) = (values ≤ length fit) × (numbers ≤ length counts)

-- what is returned, and both buffers afterwards
pub record Stored : Type 0 where
  pub code : ℕ
  pub fit : List Float
  pub counts : List ℕ

-- which values of a fit a ring's call writes, and how many they are: the Rust's six, or the record's seven
pub record Form : Type 0 where
  pub room : ℕ
  pub values : TwoAxisFit → List Float

abbrev pub the_six : Form
the_six = record { room = 6; values = λ f. fit_values (without_mean f) }

abbrev pub the_record : Form
the_record = record { room = 7; values = record_values }

-- as the code writes either: the first n of the record's values
abbrev pub first_values : ℕ → Form
first_values n = record { room = n; values = λ f. take n (record_values f) }

-- 0 for a fit, whose values and counts stand in front; of a refusal number * 65536 + place, with both buffers as they were
unfoldable pub ring_stored : Form → RingAnswer → List Float → List ℕ → Stored
ring_stored w (Ok r) fit counts = record { code = 0; fit = put_from (w.values r.fit) 0 fit; counts = put_from (map wide (fit_counts r)) 0 counts }
ring_stored w (Err e) fit counts = record { code = code_of e; fit = fit; counts = counts }

-- the call for a ring of n samples, with the tables that are held; a buffer that is too short gives number 1
unfoldable pub ring_call : Form → List Table → ℕ → List Float → List Float → List Float → List ℕ → Stored
ring_call w tables n samples angles fit counts =
    cond (ltb (length fit) w.room) (record { code = 65536; fit = fit; counts = counts })
    (cond (ltb (length counts) 4) (record { code = 65536; fit = fit; counts = counts })
    (ring_stored w (checked_ring tables n samples angles) fit counts))

-- the record's call serves both rings: 24 samples are a ring of 24, and any other number is taken as a ring of 16
abbrev pub ring_size : List Float → ℕ
ring_size samples = cond (eqb (length samples) 24) 24 16

unfoldable pub disk_stored : DiskAnswer → List Float → List ℕ → Stored
disk_stored (Ok m) fit counts =
    record { code = 0; fit = put_from (measured_values m) 0 fit; counts = put_from (map wide (measured_counts m)) 0 counts }
disk_stored (Err e) fit counts = record { code = code_of e; fit = fit; counts = counts }

unfoldable pub disk_call : DiskData → Float → Float → List Float → List ℕ → Stored
disk_call D base0 base1 fit counts =
    cond (ltb (length fit) 11) (record { code = 65536; fit = fit; counts = counts })
    (cond (ltb (length counts) 2) (record { code = 65536; fit = fit; counts = counts })
    (disk_stored (checked_disk D base0 base1) fit counts))
