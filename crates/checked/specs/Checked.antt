-- The checked entries (docs/RULES.md, Refusals): what is refused by number and place, and what is answered. Definitions only.
use Rattle.std.specs.Prelude.{Bool, cond, ◌&&◌, ◌||◌, List, [], ◌∷◌, ◌++◌, ℕ, zero, suc, ◌+◌, length, get_or, eqb, ltb, Float}
use Rattle.std.specs.Prelude.{Option, Some, None, Result, Ok, Err}
use Rattle.std.specs.Float.{nan}
use Rattle.std.specs.Float.Ieee.Scale.{finite}
use Rattle.seed_models.specs.Models.{Table}
use Rattle.robust.specs.Record.{record_ring}
use Rattle.robust_choice.specs.declared.RingFit.{RingFit}
use Rattle.solver_record.specs.Fit.{RustFit}
use Rattle.solver_record.specs.Record.{without_mean}
use Rattle.solver_record.specs.declared.TwoAxisFit.{TwoAxisFit}
use Rattle.score.specs.Score.{fit_estimate}
use Rattle.score.specs.declared.Fit.{Fit}
use Rattle.data.specs.Data.{DiskData, max_tanh_pixels}
use Rattle.search.specs.Search.{DiskFit, best_disk_fit}
use Rattle.checked.specs.declared.Measured.{Measured}
use Rattle.checked.specs.declared.Refusal.{Refusal}
use Rattle.checked.specs.declared.Refusal.TheVariants.{WrongLength, PixelCount, NotFinite, NothingFound, TablesFull}

-- ---- the number and the place of each refusal (docs/RULES.md, Refusals)
abbrev pub refusal_number : Refusal → ℕ
refusal_number WrongLength = 1
refusal_number PixelCount = 2
refusal_number (NotFinite place) = 3
refusal_number (NothingFound trials) = 4
refusal_number TablesFull = 6

abbrev pub refusal_place : Refusal → ℕ
refusal_place WrongLength = 0
refusal_place PixelCount = 0
refusal_place (NotFinite place) = place
refusal_place (NothingFound trials) = trials
refusal_place TablesFull = 0

-- what the entries answer: a fit, or why there is none
abbrev pub RingAnswer : Type 0
RingAnswer = Result RingFit Refusal

abbrev pub DiskAnswer : Type 0
DiskAnswer = Result Measured Refusal

-- the first of `left` places from i on whose value is not finite
unfoldable pub wild_from : List Float → ℕ → ℕ → Option ℕ
wild_from l zero i = None
wild_from l (suc left) i = cond (finite (get_or l i nan)) (wild_from l left (i + 1)) (Some i)

unfoldable pub first_wild : List Float → Option ℕ
first_wild l = wild_from l (length l) 0

-- ---- the ring of n samples: 1 for a length that is not n, then 3 for the first value that is not finite. `tables` are the tables of seed models that are
-- held; the entries that know of none give []
-- the values in the order of their places: the samples, then the angles
abbrev pub ring_inputs : List Float → List Float → List Float
ring_inputs samples angles = samples ++ angles

unfoldable pub ring_looked : List Table → ℕ → List Float → List Float → Option ℕ → RingAnswer
ring_looked tables n samples angles None = Ok (record_ring tables n samples angles)
ring_looked tables n samples angles (Some i) = Err (NotFinite i)

-- the two slices are as long as the ring has samples
abbrev pub ring_sized : ℕ → List Float → List Float → Bool
ring_sized n samples angles = eqb (length samples) n && eqb (length angles) n

unfoldable pub checked_ring : List Table → ℕ → List Float → List Float → RingAnswer
checked_ring tables n samples angles =
    cond (ring_sized n samples angles)
    (ring_looked tables n samples angles (first_wild (ring_inputs samples angles)))
    (Err WrongLength)

-- ---- number, place and values of each case (docs/RULES.md, Refusals)
unfoldable pub ring_number : RingAnswer → ℕ
ring_number (Ok r) = 0
ring_number (Err e) = refusal_number e

unfoldable pub ring_place : RingAnswer → ℕ
ring_place (Ok r) = 0
ring_place (Err e) = refusal_place e

-- amp, theta1, theta2, both errors, rms: the order of a ring's values stands here alone
abbrev pub fit_values : RustFit → List Float
fit_values f = f.amp ∷ f.theta1 ∷ f.theta2 ∷ f.fit_std_error_theta1 ∷ f.fit_std_error_theta2 ∷ f.rms ∷ []

-- nothing of a refusal
unfoldable pub ring_values : RingAnswer → List Float
ring_values (Ok r) = fit_values (without_mean r.fit)
ring_values (Err e) = []

-- the record: those six, and the mean
abbrev pub record_values : TwoAxisFit → List Float
record_values f = fit_values (without_mean f) ++ (f.mean ∷ [])

unfoldable pub ring_record : RingAnswer → List Float
ring_record (Ok r) = record_values r.fit
ring_record (Err e) = []

-- starts, updates of the first and of the second start, known
abbrev pub flag : Bool → ℕ
flag b = cond b 1 0

abbrev pub fit_counts : RingFit → List ℕ
fit_counts r = r.starts ∷ r.first ∷ r.second ∷ flag r.standing.known ∷ []

unfoldable pub ring_counts : RingAnswer → List ℕ
ring_counts (Ok r) = fit_counts r
ring_counts (Err e) = []

-- ---- the disk: 2 for the number of pixels, 1 for lengths that differ, 3 for the first value that is not finite, 4 where the search answers nothing
-- the values in the order of their places
abbrev pub disk_inputs : DiskData → Float → Float → List Float
disk_inputs D base0 base1 = D.val_energy ∷ base0 ∷ base1 ∷ (D.xs ++ (D.ys ++ (D.vals_centered ++ (D.grad_angles ++ D.grad_weights))))

-- the fit with its errors and their standing
abbrev pub measured_of : DiskData → Fit → ℕ → Measured
measured_of D f trials = record { fit = f; estimate = fit_estimate D f; trials = trials }

-- or that there is none after so many trials
unfoldable pub disk_measured : DiskData → DiskFit → DiskAnswer
disk_measured D (Err trials) = Err (NothingFound trials)
disk_measured D (Ok r) = Ok (measured_of D r.best r.trials)

unfoldable pub disk_fitted : DiskData → Float → Float → DiskAnswer
disk_fitted D base0 base1 = disk_measured D (best_disk_fit D base0 base1)

unfoldable pub disk_looked : DiskData → Float → Float → Option ℕ → DiskAnswer
disk_looked D base0 base1 (Some i) = Err (NotFinite i)
disk_looked D base0 base1 None = disk_fitted D base0 base1

-- the number of pixels is the length of xs, and the other four are as long
unfoldable pub same_lengths : DiskData → Bool
same_lengths D =
    let same : List Float → Bool = λ l. eqb (length l) D.n in
    same D.xs && (same D.ys && (same D.vals_centered && (same D.grad_angles && same D.grad_weights)))

unfoldable pub checked_disk : DiskData → Float → Float → DiskAnswer
checked_disk D base0 base1 =
    cond (eqb D.n 0 || ltb max_tanh_pixels D.n) (Err PixelCount)
    (cond (same_lengths D)
    (disk_looked D base0 base1 (first_wild (disk_inputs D base0 base1)))
    (Err WrongLength))

unfoldable pub disk_number : DiskAnswer → ℕ
disk_number (Ok m) = 0
disk_number (Err e) = refusal_number e

unfoldable pub disk_place : DiskAnswer → ℕ
disk_place (Ok m) = 0
disk_place (Err e) = refusal_place e

-- theta1, theta2, width, amp, rms, rel_rms, corr, edge_score, objective, both errors: the order of a disk's values stands here alone
abbrev pub measured_values : Measured → List Float
measured_values m =
    m.fit.theta1 ∷ m.fit.theta2 ∷ m.fit.width ∷ m.fit.amp ∷ m.fit.rms ∷ m.fit.rel_rms ∷ m.fit.corr ∷ m.fit.edge_score ∷
    m.fit.objective ∷ m.estimate.errors.error1 ∷ m.estimate.errors.error2 ∷ []

unfoldable pub disk_values : DiskAnswer → List Float
disk_values (Ok m) = measured_values m
disk_values (Err e) = []

-- trials, known
abbrev pub measured_counts : Measured → List ℕ
measured_counts m = m.trials ∷ flag m.estimate.standing.known ∷ []

unfoldable pub disk_counts : DiskAnswer → List ℕ
disk_counts (Ok m) = measured_counts m
disk_counts (Err e) = []
