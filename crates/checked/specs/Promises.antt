-- What the checked entries promise, for every list of values, non-numbers included: exactly when each number is given, and what an answer's values
-- and counts keep to. `checked_ring` and `checked_disk` are the answers' definitions: the contracts of `checked::fit_ring` and `checked::fit_disk` say
-- that the code's answers equal them. A promise speaks of the paper's number, place, values and counts of an answer (Checked.antt). Assumes nothing.
use Rattle.std.specs.Prelude.{Option, Some, None, Ok, Err}
use Rattle.std.specs.Prelude.{◌≡◌, cond, not, ◌&&◌, ◌||◌, ℕ, ◌+◌, ◌*◌, ◌^◌, ◌≤◌, ◌<◌, min, get_or}
use Rattle.std.proofs.Math.Path.{refl, ap}
use Rattle.std.proofs.Common.{sym, subst, ◌∙◌, true≢false, arith, ltb-false}
use Rattle.std.proofs.Math.Bool.{Bool, true, false}
use Rattle.std.proofs.lemmas.Bool.{false≢true}
use mathlib.Core.List.{List, [], ◌∷◌, ◌++◌}
use Rattle.std.proofs.Math.ListN.{length, length-append, get_or-append}
use Rattle.std.proofs.Math.Dec.{T, eqb, ltb, eqb→eq}
use Rattle.std.specs.Float.Ieee.{Float, lt, le, eq, is_nan}
use Rattle.std.specs.Float.{nan, binary32}
use Rattle.std.specs.Float.Ieee.Scale.{finite}
use Rattle.floats.specs.Ops.{◌⊘◌, nought, pi, tau}
use Rattle.floats.specs.Library.{sqrt}
use Rattle.floats.specs.Rows.{at, count}
use Rattle.floats.specs.NarrowLaws.{narrow_fits}
use Rattle.solver_errors.specs.StdErrors.{axis_std_errors}
use Rattle.solver_errors.specs.Known.{KnownErrors, residual_var, Estimated}
use Rattle.solver_errors.proofs.StdErrorsLaws.{known_only, known_if}
use Rattle.solver_errors.proofs.CappedLaws.{known_estimated}
use Rattle.solver_errors.specs.declared.Standing.{Standing}
use Rattle.solver_record.specs.Fit.{axes_of}
use Rattle.solver_record.specs.Record.{without_mean}
use Rattle.solver.specs.Solver.{Final, pass, sines, cosines}
use Rattle.solver_record.specs.declared.Params.{Params}
use Rattle.seed_models.specs.Models.{Table}
use Rattle.seed_models.specs.HeldLaws.{TablesHeld}
use Rattle.robust_choice.specs.Choice.{Source, of_pass, of_seed}
use Rattle.robust.specs.Robust.{mean_of, variance_of, ring, fit_ring, ring_sum}
use Rattle.robust.specs.Record.{record_ring}
use Rattle.robust.proofs.RecordLaws.{ring_rust, ring_dropped, OwnPass, ring_own}
use Rattle.robust.proofs.KnownLaws.{StandsOn, ring_stands}
use Rattle.robust.proofs.SoundLaws.{SoundRing, ring_sound}
use Rattle.robust.specs.Residual.{MadeOf, half, Share, Tiny}
use Rattle.robust.proofs.ResidualLaws.{ring_made, ring_tiny, finite_mean, ring_sum_upright, share_16, share_24}
use Rattle.robust_choice.specs.declared.RingFit.{RingFit}
use Rattle.score.specs.Score.{fit_std_errors, error_matrix, error_sum, fit_standing, widths_px}
use Rattle.score.specs.ScoreLaws.{SoundFit, errors_sound, error_sum_upright}
use Rattle.score.specs.declared.Fit.{Fit}
use Rattle.data.specs.Data.{DiskData, max_tanh_pixels}
use Rattle.search.specs.Search.{DiskFit, best_disk_fit}
use Rattle.search.specs.Bill.{trials_of, pairs_kept, leaders_kept, answered_trials}
use Rattle.search.proofs.BillLaws.{disk_bill, disk_bill_most, leaders_are, missing_bill, missing_leaders}
use Rattle.search.proofs.SoundLaws.{search_sound, width_known}
use Rattle.checked.specs.declared.Measured.{Measured}
use Rattle.checked.specs.declared.Refusal.TheVariants.{WrongLength, PixelCount, NotFinite, NothingFound}
use Rattle.checked.specs.Checked as C
use Rattle.checked.specs.Checked.{RingAnswer, DiskAnswer}
use Rattle.checked.specs.Checked.{first_wild, ring_inputs, checked_ring, ring_number, ring_place, ring_values, ring_record, ring_counts}
use Rattle.checked.specs.Checked.{disk_inputs, checked_disk, disk_number, disk_place, disk_values, disk_counts}
use Rattle.checked.specs.CheckedLaws.{IsFirstWild, wild_first, clean_finite}
use Rattle.floats.specs.FiniteLaws.{of_true}

is_one : (b : Bool) → C.flag b ≡ 1 → b ≡ true
is_one true e = refl
is_one false e = absurd (none e)
  where
    none : ◌≡◌ {A = ℕ} 0 1 → ⊥
    none e = omega arith

-- every value of a list is finite
abbrev pub AllFinite : List Float → Type 0
AllFinite l = (i : ℕ) → i < length l → finite (get_or l i nan) ≡ true

-- ---- the ring of n samples: 16 and 24 are the rings that have an entry
module _ (tables : List Table) (held : TablesHeld tables) (n : ℕ) (samples angles : List Float) where
  abbrev inputs : List Float
  inputs = ring_inputs samples angles

  abbrev answer : RingAnswer
  answer = checked_ring tables n samples angles

  -- exactly when each answer is given: 1 for a length that is not n; 3, with both lengths n, for a value that is not finite, at the first such
  -- place; a fit where all 2 n values are finite
  pub data RingCase (a : RingAnswer) : Type 0 where
    wrong_length : C.ring_sized n samples angles ≡ false → a ≡ Err WrongLength → RingCase a
    wrong_value : (p : ℕ) → (C.ring_sized n samples angles ≡ true) × (p < 2 * n) → IsFirstWild inputs p → a ≡ Err (NotFinite p) → RingCase a
    answered : length samples ≡ n → length inputs ≡ 2 * n → AllFinite inputs → a ≡ Ok (record_ring tables n samples angles) → RingCase a

  pub ring_cases : RingCase answer
  unfolding checked_ring C.ring_looked
  ring_cases = go (eqb (length samples) n) (eqb (length angles) n) refl refl (first_wild inputs) refl
    where
      sized : (l : List Float) → eqb (length l) n ≡ true → length l ≡ n
      sized l p = eqb→eq (length l) n (of_true p)

      total : eqb (length samples) n ≡ true → eqb (length angles) n ≡ true → length inputs ≡ 2 * n
      total p q = length-append samples angles ∙ omega (arith, sized samples p, sized angles q)

      go : (x y : Bool) → eqb (length samples) n ≡ x → eqb (length angles) n ≡ y → (w : Option ℕ) → first_wild inputs ≡ w →
          RingCase (cond (x && y) (C.ring_looked tables n samples angles w) (Err WrongLength))
      go true true p q None e = answered (sized samples p) (total p q) (clean_finite inputs e) refl
      go true true p q (Some i) e = let f = wild_first inputs i e in wrong_value i (rw (p, q) refl, omega (arith, f.inside, total p q)) f refl
      go true false p q w e = wrong_length (rw (p, q) refl) refl
      go false y p q w e = wrong_length (rw p refl) refl

  -- the numbers are 0, 1 and 3
  pub ring_numbers : T (eqb (ring_number answer) 0 || (eqb (ring_number answer) 1 || eqb (ring_number answer) 3))
  unfolding ring_number
  ring_numbers = go ring_cases
    where
      go : RingCase answer → T (eqb (ring_number answer) 0 || (eqb (ring_number answer) 1 || eqb (ring_number answer) 3))
      go (wrong_length l e) = rw e tt
      go (wrong_value p b f e) = rw e tt
      go (answered s l c e) = rw e tt

  -- what number 1 means: a length is not n, and the place is 0
  pub ring_wrong_length : ring_number answer ≡ 1 → (C.ring_sized n samples angles ≡ false) × (ring_place answer ≡ 0)
  unfolding ring_number ring_place
  ring_wrong_length one = go ring_cases
    where
      no : {A : Type 0} (m : ℕ) → ring_number answer ≡ m → (m ≡ 1 → ⊥) → A
      no m e f = absurd (f (sym e ∙ one))

      go : RingCase answer → (C.ring_sized n samples angles ≡ false) × (ring_place answer ≡ 0)
      go (wrong_length l e) = rw e (l, refl)
      go (wrong_value p b f e) = no 3 (ap ring_number e) (λ z. omega arith)
      go (answered s l c e) = no 0 (ap ring_number e) (λ z. omega arith)

  -- what number 3 means: the value at the place is not finite, all before it are, and the place is one of the 2 n
  pub ring_wrong_value : ring_number answer ≡ 3 → IsFirstWild inputs (ring_place answer) × (ring_place answer < 2 * n)
  unfolding ring_number ring_place
  ring_wrong_value three = go ring_cases
    where
      no : {A : Type 0} (m : ℕ) → ring_number answer ≡ m → (m ≡ 3 → ⊥) → A
      no m e f = absurd (f (sym e ∙ three))

      go : RingCase answer → IsFirstWild inputs (ring_place answer) × (ring_place answer < 2 * n)
      go (wrong_length l e) = no 1 (ap ring_number e) (λ z. omega arith)
      go (wrong_value p b f e) = rw e (f, b.1)
      go (answered s l c e) = no 0 (ap ring_number e) (λ z. omega arith)

  -- what a residual of 0 says
  abbrev pub SumTiny : Type 0
  SumTiny = let sum = ring_sum tables n samples angles in T (not (is_nan sum)) × T (le nought sum) × T (le sum (half n))

  -- what the answered start was made of: where its updates stopped, with the sums of the last pass, or, where it was degenerate, its seed
  abbrev source : Source
  source = (ring tables n samples angles).answered.source

  -- what is asked of a ring whose errors are known: the answered start was not degenerate, there are more than four samples, both eliminations of its
  -- last pass's matrix succeed, and the residual sum and the two entries on the diagonal are finite
  pub record RingKnown : Type 0 where
    pub end : Final
    pub fitted : source ≡ of_pass end
    pub errors : KnownErrors end.last.m end.last.ssr n

  -- what number 0 means: 2 n finite values, and the fit of the definition with its own counts, value by value
  pub record RingFitted : Type 0 where
    pub sized : length samples ≡ n
    pub length : length inputs ≡ 2 * n
    pub finite : AllFinite inputs
    pub answer : checked_ring tables n samples angles ≡ Ok (record_ring tables n samples angles)

  module _ (zero_number : ring_number answer ≡ 0) where
    pub answered_is_the_fit : RingFitted
    unfolding ring_number
    answered_is_the_fit = go ring_cases
      where
        no : (m : ℕ) → ring_number answer ≡ m → (m ≡ 0 → ⊥) → ⊥
        no m e f = f (sym e ∙ zero_number)

        go : RingCase answer → RingFitted
        go (wrong_length l e) = absurd (no 1 (ap ring_number e) (λ z. omega arith))
        go (wrong_value p b f e) = absurd (no 3 (ap ring_number e) (λ z. omega arith))
        go (answered s l c e) = record { sized = s; length = l; finite = c; answer = e }

    abbrev the_fit : RingFit
    the_fit = record_ring tables n samples angles

    values_are : ring_values answer ≡ C.fit_values (without_mean the_fit.fit)
    unfolding ring_values
    values_are = rw answered_is_the_fit.answer

    counts_are : ring_counts answer ≡ C.fit_counts the_fit
    unfolding ring_counts
    counts_are = rw answered_is_the_fit.answer

    -- amp, theta1, theta2, both errors, rms; and starts, updates of the first and of the second
    abbrev value : ℕ → Float
    value k = get_or (ring_values answer) k nan

    abbrev counted : ℕ → ℕ
    counted k = get_or (ring_counts answer) k 0

    -- the founding demand: an answered ring has 2 n values, and all of them are finite
    pub answered_finite : (length (ring_inputs samples angles) ≡ 2 * n) × AllFinite (ring_inputs samples angles)
    answered_finite = (answered_is_the_fit.length, answered_is_the_fit.finite)

    -- demand 2: the six values are those of the definition that follows the Rust, and the counts those of its steps
    pub answered_values : (ring_values answer ≡ C.fit_values (fit_ring tables n samples angles)) × (ring_counts answer ≡ C.fit_counts the_fit)
    answered_values = (values_are ∙ ap C.fit_values (ring_rust tables n samples angles), counts_are)

    -- the record has these six values and the mean, the mu that the Rust drops: that of the final parameters of the answered start, or, where that start
    -- is degenerate, of its seed
    abbrev recorded : ℕ → Float
    recorded k = get_or (ring_record answer) k nan

    pub ring_mean :
        (ring_record answer ≡ ring_values answer ++ (recorded 6 ∷ [])) ×
        ((end : Final) → source ≡ of_pass end → recorded 6 ≡ end.p.mu) × ((seed : Params) → source ≡ of_seed seed → recorded 6 ≡ seed.mu)
    unfolding ring_record ring_values
    ring_mean =
        let m = ring_dropped tables n samples angles in
        rw answered_is_the_fit.answer (refl, λ end e. rw e at m, λ seed e. rw e at m)

    sound : SoundRing the_fit
    sound = ring_sound tables held n samples angles

    -- demand 3, the bill: one or two starts, each of at most six updates; a second start's updates are 0 where there is none
    pub ring_bill : (1 ≤ counted 0) × (counted 0 ≤ 2) × (counted 1 ≤ 6) × (counted 2 ≤ 6) × (counted 0 ≡ 1 → counted 2 ≡ 0)
    ring_bill = let b = sound.bill in rw counts_are (b.some, b.most, b.first, b.second, b.alone)

    -- 0 ≤ theta1 < PI and theta1 ≤ theta2 < TAU
    pub ring_axes : T (le nought (value 1)) × T (lt (value 1) pi) × T (le (value 1) (value 2)) × T (lt (value 2) tau)
    ring_axes = let s = sound.fit in rw values_are (s.low, s.first, s.order, s.second)

    -- both errors from 0 to PI
    pub ring_errors : T (le nought (value 3)) × T (le (value 3) pi) × T (le nought (value 4)) × T (le (value 4) pi)
    ring_errors = let s = sound.fit in rw values_are (s.low1, s.high1, s.low2, s.high2)

    -- known is 1 exactly if that holds
    pub ring_known : (counted 3 ≡ 1 → RingKnown) × (RingKnown → counted 3 ≡ 1)
    ring_known = rw counts_are (λ e. only source refl (ring_stands tables held n samples angles) (is_one _ e), λ k. ap C.flag (if k))
      where
        only : (s : Source) → source ≡ s → StandsOn n s (without_mean the_fit.fit) the_fit.standing → the_fit.standing.known ≡ true → RingKnown
        only (of_seed seed) p w e = absurd (false≢true (sym (ap (λ (x : Standing). x.known) w.2) ∙ e))
        only (of_pass end) p w e =
            record { end = end; fitted = p; errors = known_only end.last.m end.last.ssr n (sym (ap (λ (x : Standing). x.known) w.1) ∙ e) }

        if : RingKnown → the_fit.standing.known ≡ true
        if k =
            let w = subst (λ (s : Source). StandsOn n s (without_mean the_fit.fit) the_fit.standing) k.fitted
            (ring_stands tables held n samples angles) in
            ap (λ (x : Standing). x.known) w.1 ∙ known_if k.end.last.m k.end.last.ssr n k.errors

    -- The error words do not depend on it: they are the Rust's errors of that matrix and that sum, exchanged where the axes are, and of a degenerate
    -- start PI.
    pub ring_error_words :
        ((seed : Params) → source ≡ of_seed seed → (value 3 ≡ pi) × (value 4 ≡ pi)) ×
        ((end : Final) → source ≡ of_pass end →
        let a = axes_of end.p in
        let e = axis_std_errors end.last.m end.last.ssr n in
        (value 1 ≡ a.theta1) × (value 2 ≡ a.theta2) ×
        (value 3 ≡ cond a.swapped e.error2 e.error1) × (value 4 ≡ cond a.swapped e.error1 e.error2))
    ring_error_words =
        rw values_are (
          λ seed p. let w = of (of_seed seed) p in (w.0, w.1),
          λ end p. let o = (of (of_pass end) p).0 in (o.axis1, o.axis2, o.first, o.second),
        )
      where
        of : (s : Source) → source ≡ s → StandsOn n s (without_mean the_fit.fit) the_fit.standing
        of s p = subst (λ (x : Source). StandsOn n x (without_mean the_fit.fit) the_fit.standing) p (ring_stands tables held n samples angles)

    -- of a start that was not degenerate, whatever the order of the values in front of them
    errors_are : (end : Final) → source ≡ of_pass end →
        let a = axes_of end.p in
        let e = axis_std_errors end.last.m end.last.ssr n in
        (value 3 ≡ cond a.swapped e.error2 e.error1) × (value 4 ≡ cond a.swapped e.error1 e.error2)
    errors_are end p =
        let o = (subst (λ (x : Source). StandsOn n x (without_mean the_fit.fit) the_fit.standing) p (ring_stands tables held n samples angles)).0 in
        rw values_are (o.first, o.second)

    -- Where they are known, each is an estimate, of the variance and of its own entry, capped at PI: one that is PI was PI or more.
    pub ring_estimated : n ≤ 2 ^ 24 → (k : RingKnown) →
        let v = residual_var k.end.last.ssr n in
        let c2 = at k.errors.first.solution 2 in
        let c3 = at k.errors.second.solution 3 in
        let w = (axes_of k.end.p).swapped in
        Estimated v (cond w c3 c2) (value 3) × Estimated v (cond w c2 c3) (value 4)
    ring_estimated few k =
        let end = k.end in
        let sum = ring_sum_upright tables held n samples angles end k.fitted k.errors.sum in
        let words = errors_are end k.fitted in
        let e = ordered (axes_of end.p).swapped (known_estimated end.last.m end.last.ssr n sum.0 sum.1 few k.errors) in
        (rw words.0 e.0, rw words.1 e.1)
      where
        ordered : {v c d x y : Float} (w : Bool) → Estimated v c x × Estimated v d y →
            Estimated v (cond w d c) (cond w y x) × Estimated v (cond w c d) (cond w x y)
        ordered true e = (e.1, e.0)
        ordered false e = e

    -- The mean is the one with which the rms was made: where the answered start is not degenerate, amplitude and axes are the canonical form of its final
    -- parameters, whose mu the mean is, and the rms is the root of the n-th part of the sum of squares of a pass at these parameters.
    pub ring_residual : (end : Final) → source ≡ of_pass end →
        let a = axes_of end.p in
        (value 0 ≡ a.amp) × (value 1 ≡ a.theta1) × (value 2 ≡ a.theta2) ×
        (value 5 ≡ sqrt binary32 ((pass n end.p samples (sines n angles) (cosines n angles)).ssr ⊘ count n))
    ring_residual end e =
        let o = (subst (λ (x : Source). StandsOn n x (without_mean the_fit.fit) the_fit.standing) e (ring_stands tables held n samples angles)).0 in
        let centered_var = variance_of n samples (mean_of n samples) in
        let made = subst (λ (x : Source). MadeOf n centered_var the_fit.fit.rms x) e (ring_made tables held n samples angles) in
        rw values_are (o.amp, o.axis1, o.axis2, rw (subst (OwnPass n samples angles) e (ring_own n samples angles tables held)) at made)

    -- the amplitude is NaN or not below zero
    pub ring_amplitude : T (is_nan (value 0) || le nought (value 0))
    ring_amplitude = rw values_are sound.fit.size

    -- the samples are the first n of the values
    samples_finite : (i : ℕ) → i < n → T (finite (get_or samples i nan))
    samples_finite i h =
        let sized = answered_is_the_fit.sized in
        of_true (sym (ap finite (get_or-append samples angles nan i (omega (arith, sized)))) ∙ answered_finite.1 i (omega (arith, answered_finite.0)))

    -- a mean that is not finite does not hide: the rms is then not finite either
    pub ring_mean_finite : Share n → T (finite (value 5)) → T (finite (recorded 6))
    unfolding ring_record
    ring_mean_finite share t =
        rw answered_is_the_fit.answer (finite_mean n share tables held samples angles samples_finite (rw values_are at t))

    -- the sum of a residual of 0, as the law of robust has it
    sum_tiny : Share n → eq (value 5) nought ≡ true → Tiny n (ring_sum tables n samples angles)
    sum_tiny share z = ring_tiny n share tables held samples angles samples_finite (rw values_are at z)

    -- A residual of 0 is never a non-number in disguise: the sum of squares that the rms was made of is a number, not below 0, and at most half of n
    -- units of 2 ^ -149, the largest whose n-th part rounds to 0 (`Share n`). `ring_sum` is the sum of the answered start, and `ring_made` of robust's
    -- ResidualLaws says of every ring that the rms is the root of its n-th part, or, for a start that is refused, of the greater of that and 0.
    pub ring_zero : Share n → eq (value 5) nought ≡ true → SumTiny
    ring_zero share z = let t = sum_tiny share z in (t.number, t.above, t.small)

-- of the two rings: the sum is at most 8 units of 16 samples, and 12 of 24
module _ (tables : List Table) (held : TablesHeld tables) (samples angles : List Float) where
  pub ring_16_zero : (z : ring_number (checked_ring tables 16 samples angles) ≡ 0) → eq (value tables held 16 samples angles z 5) nought ≡ true
      → SumTiny tables held 16 samples angles
  ring_16_zero z e = let t = sum_tiny tables held 16 samples angles z share_16 e in (t.number, t.above, t.small)

  pub ring_24_zero : (z : ring_number (checked_ring tables 24 samples angles) ≡ 0) → eq (value tables held 24 samples angles z 5) nought ≡ true
      → SumTiny tables held 24 samples angles
  ring_24_zero z e = let t = sum_tiny tables held 24 samples angles z share_24 e in (t.number, t.above, t.small)

-- ---- the disk
module _ (D : DiskData) (base0 base1 : Float) where
  abbrev disk_inputs_lem : List Float
  disk_inputs_lem = disk_inputs D base0 base1

  abbrev disk_answer_lem : DiskAnswer
  disk_answer_lem = checked_disk D base0 base1

  -- the number of pixels is 1 to 320
  abbrev PixelsInRange : Type 0
  PixelsInRange = (eqb D.n 0 || ltb max_tanh_pixels D.n) ≡ false

  -- all lengths are the number of pixels, and it is in range
  abbrev DiskSound : Type 0
  DiskSound = PixelsInRange × (C.same_lengths D ≡ true)

  -- exactly when each answer is given: 2 for the number of pixels, then 1 for lengths that differ, 3 for a value that is not finite, at the first
  -- such place, 4 where the search answers nothing, at the number of its trials; else its fit
  pub data DiskCase (a : DiskAnswer) : Type 0 where
    wrong_count : (eqb D.n 0 || ltb max_tanh_pixels D.n) ≡ true → a ≡ Err PixelCount → DiskCase a
    wrong_lengths : PixelsInRange → C.same_lengths D ≡ false → a ≡ Err WrongLength → DiskCase a
    wrong_disk_value : (p : ℕ) → p < 3 + 5 * D.n → DiskSound → IsFirstWild disk_inputs_lem p → a ≡ Err (NotFinite p) → DiskCase a
    no_fit : (t : ℕ) → DiskSound → AllFinite disk_inputs_lem → best_disk_fit D base0 base1 ≡ Err t → a ≡ Err (NothingFound t) → DiskCase a
    disk_answered_lem :
        (f : Fit) (t : ℕ) → DiskSound → AllFinite disk_inputs_lem → best_disk_fit D base0 base1 ≡ Ok (record { best = f; trials = t }) →
        a ≡ Ok (C.measured_of D f t) → DiskCase a

  -- lengths that do not differ are the number of pixels, and the values are 3 + 5 n
  same : (x a b c d : Bool) → (x && (a && (b && (c && d)))) ≡ true → T x × T a × T b × T c × T d
  same true true true true true e = (tt, tt, tt, tt, tt)
  same true true true true false e = absurd (true≢false (sym e))
  same true true true false d e = absurd (true≢false (sym e))
  same true true false c d e = absurd (true≢false (sym e))
  same true false b c d e = absurd (true≢false (sym e))
  same false a b c d e = absurd (true≢false (sym e))

  disk_total : C.same_lengths D ≡ true → length disk_inputs_lem ≡ 3 + 5 * D.n
  unfolding C.same_lengths
  disk_total e =
      let at_n : List Float → Bool = λ l. eqb (length l) D.n in
      let s = same (at_n D.xs) (at_n D.ys) (at_n D.vals_centered) (at_n D.grad_angles) (at_n D.grad_weights) e in
      let hx = eqb→eq (length D.xs) D.n s.0 in
      let hy = eqb→eq (length D.ys) D.n s.1 in
      let hv = eqb→eq (length D.vals_centered) D.n s.2 in
      let hg = eqb→eq (length D.grad_angles) D.n s.3 in
      let hw = eqb→eq (length D.grad_weights) D.n s.4 in
      simp length-append (omega (arith, hx, hy, hv, hg, hw))

  searched : DiskSound → AllFinite disk_inputs_lem → (r : DiskFit) → best_disk_fit D base0 base1 ≡ r → DiskCase (C.disk_measured D r)
  unfolding C.disk_measured
  searched s c (Err u) g = no_fit u s c g refl
  searched s c (Ok r) g = disk_answered_lem r.best r.trials s c g refl

  pub disk_cases : DiskCase disk_answer_lem
  unfolding checked_disk C.disk_looked C.disk_fitted
  disk_cases = go (eqb D.n 0 || ltb max_tanh_pixels D.n) (C.same_lengths D) refl refl (first_wild disk_inputs_lem) refl
    where
      go : (x y : Bool) → (eqb D.n 0 || ltb max_tanh_pixels D.n) ≡ x → C.same_lengths D ≡ y → (w : Option ℕ) → first_wild disk_inputs_lem ≡ w →
          DiskCase (cond x (Err PixelCount) (cond y (C.disk_looked D base0 base1 w) (Err WrongLength)))
      go true y p q w e = wrong_count p refl
      go false false p q w e = wrong_lengths p q refl
      go false true p q (Some i) e = let f = wild_first disk_inputs_lem i e in wrong_disk_value i (omega (arith, f.inside, disk_total q)) (p, q) f refl
      go false true p q None e = searched (p, q) (clean_finite disk_inputs_lem e) (best_disk_fit D base0 base1) refl

  -- the numbers are 0 to 4
  pub disk_numbers : disk_number disk_answer_lem ≤ 4
  unfolding disk_number
  disk_numbers = go disk_cases
    where
      go : DiskCase disk_answer_lem → disk_number disk_answer_lem ≤ 4
      go (wrong_count x e) = rw e (omega arith)
      go (wrong_lengths x y e) = rw e (omega arith)
      go (wrong_disk_value p b c f e) = rw e (omega arith)
      go (no_fit u l c g e) = rw e (omega arith)
      go (disk_answered_lem f u l c g e) = rw e (omega arith)

  -- number 3: the value at the place is not finite, all before it are, and the place is one of the 3 + 5 n
  pub disk_wrong_value : disk_number disk_answer_lem ≡ 3 →
      IsFirstWild disk_inputs_lem (disk_place disk_answer_lem) × (disk_place disk_answer_lem < 3 + 5 * D.n)
  unfolding disk_number disk_place
  disk_wrong_value n = go disk_cases
    where
      no : {A : Type 0} (m : ℕ) → disk_number disk_answer_lem ≡ m → (m ≡ 3 → ⊥) → A
      no m e f = absurd (f (sym e ∙ n))

      go : DiskCase disk_answer_lem → IsFirstWild disk_inputs_lem (disk_place disk_answer_lem) × (disk_place disk_answer_lem < 3 + 5 * D.n)
      go (wrong_count x e) = no 2 (ap disk_number e) (λ z. omega arith)
      go (wrong_lengths x y e) = no 1 (ap disk_number e) (λ z. omega arith)
      go (wrong_disk_value p b c f e) = rw e (f, b)
      go (no_fit u l c g e) = no 4 (ap disk_number e) (λ z. omega arith)
      go (disk_answered_lem f u l c g e) = no 0 (ap disk_number e) (λ z. omega arith)

  -- number 4: every value is finite, the search answers nothing, its trials are the place, exactly 4 k of them, and no trial had answered
  pub disk_nothing : disk_number disk_answer_lem ≡ 4 → AllFinite disk_inputs_lem × (best_disk_fit D base0 base1 ≡ Err (disk_place disk_answer_lem)) ×
      (disk_place disk_answer_lem ≡ 4 * pairs_kept D base0 base1) × (leaders_kept D base0 base1 ≡ 0)
  unfolding disk_number disk_place
  disk_nothing n = go disk_cases
    where
      no : {A : Type 0} (m : ℕ) → disk_number disk_answer_lem ≡ m → (m ≡ 4 → ⊥) → A
      no m e f = absurd (f (sym e ∙ n))

      go : DiskCase disk_answer_lem → AllFinite disk_inputs_lem × (best_disk_fit D base0 base1 ≡ Err (disk_place disk_answer_lem)) ×
          (disk_place disk_answer_lem ≡ 4 * pairs_kept D base0 base1) × (leaders_kept D base0 base1 ≡ 0)
      go (wrong_count x e) = no 2 (ap disk_number e) (λ z. omega arith)
      go (wrong_lengths x y e) = no 1 (ap disk_number e) (λ z. omega arith)
      go (wrong_disk_value p b c f e) = no 3 (ap disk_number e) (λ z. omega arith)
      go (no_fit u l c g e) = rw e (c, g, missing_bill D base0 base1 u g, missing_leaders D base0 base1 u g)
      go (disk_answered_lem f u l c g e) = no 0 (ap disk_number e) (λ z. omega arith)

  -- what number 0 means: at most 320 pixels, 3 + 5 n finite values, and the search's own fit with its number of trials and the errors of that fit
  pub record DiskFitted : Type 0 where
    pub fit : Fit
    pub trials : ℕ
    pub pixels : D.n ≤ max_tanh_pixels
    pub length : length disk_inputs_lem ≡ 3 + 5 * D.n
    pub finite : AllFinite disk_inputs_lem
    pub found : best_disk_fit D base0 base1 ≡ Ok (record { best = fit; trials = trials })
    pub answer : checked_disk D base0 base1 ≡ Ok (C.measured_of D fit trials)

  module _ (zero_number : disk_number disk_answer_lem ≡ 0) where
    pub disk_answered_is_the_fit : DiskFitted
    unfolding disk_number
    disk_answered_is_the_fit = go disk_cases
      where
        no : (m : ℕ) → disk_number disk_answer_lem ≡ m → (m ≡ 0 → ⊥) → DiskFitted
        no m e f = absurd (f (sym e ∙ zero_number))

        neither : (a b : Bool) → (a || b) ≡ false → b ≡ false
        neither true b e = absurd (true≢false e)
        neither false b e = e

        go : DiskCase disk_answer_lem → DiskFitted
        go (wrong_count x e) = no 2 (ap disk_number e) (λ z. omega arith)
        go (wrong_lengths x y e) = no 1 (ap disk_number e) (λ z. omega arith)
        go (wrong_disk_value p b c f e) = no 3 (ap disk_number e) (λ z. omega arith)
        go (no_fit u l c g e) = no 4 (ap disk_number e) (λ z. omega arith)
        go (disk_answered_lem f u l c g e) =
            let pixels = ltb-false max_tanh_pixels D.n (neither (eqb D.n 0) (ltb max_tanh_pixels D.n) l.0) in
            record { fit = f; trials = u; pixels = pixels; length = disk_total l.1; finite = c; found = g; answer = e }

    abbrev it : DiskFitted
    it = disk_answered_is_the_fit

    abbrev measured : Measured
    measured = C.measured_of D it.fit it.trials

    disk_values_are : disk_values disk_answer_lem ≡ C.measured_values measured
    unfolding disk_values
    disk_values_are = rw it.answer

    disk_counts_are : disk_counts disk_answer_lem ≡ C.measured_counts measured
    unfolding disk_counts
    disk_counts_are = rw it.answer

    -- theta1, theta2, width, amp, rms, rel_rms, corr, edge_score, objective, both errors; and the trials
    abbrev disk_value : ℕ → Float
    disk_value k = get_or (disk_values disk_answer_lem) k nan

    abbrev disk_counted : ℕ → ℕ
    disk_counted k = get_or (disk_counts disk_answer_lem) k 0

    -- the founding demand: an answered disk has 3 + 5 n values, and all of them are finite
    pub disk_answered_finite : (length (disk_inputs D base0 base1) ≡ 3 + 5 * D.n) × AllFinite (disk_inputs D base0 base1)
    disk_answered_finite = (it.length, it.finite)

    -- demand 2: the eleven values and the counts are those of the definition that follows the Rust
    pub disk_answered_values : (disk_values disk_answer_lem ≡ C.measured_values measured) × (disk_counts disk_answer_lem ≡ C.measured_counts measured)
    disk_answered_values = (disk_values_are, disk_counts_are)

    -- demand 3, the bill: exactly 4 k + 24 m trials, k the pairs kept and m the leaders kept by the definition; at most 144
    pub disk_trials : (disk_counted 0 ≡ 4 * pairs_kept D base0 base1 + 24 * leaders_kept D base0 base1) × (disk_counted 0 ≤ 144)
    disk_trials =
        let q = ap trials_of it.found in
        rw disk_counts_are (
          subst (λ (t : ℕ). t ≡ 4 * pairs_kept D base0 base1 + 24 * leaders_kept D base0 base1) q (disk_bill D base0 base1),
          subst (λ (t : ℕ). t ≤ 144) q (disk_bill_most D base0 base1),
        )

    sound_disk : SoundFit it.fit
    sound_disk = search_sound D base0 base1 _ it.found

    -- 0 ≤ theta1 < PI and theta1 ≤ theta2 < TAU
    pub disk_axes : T (le nought (disk_value 0)) × T (lt (disk_value 0) pi) × T (le (disk_value 0) (disk_value 1)) × T (lt (disk_value 1) tau)
    disk_axes = let s = sound_disk in rw disk_values_are (s.low, s.first, s.order, s.second)

    -- both errors from 0 to PI
    pub disk_errors : T (le nought (disk_value 9)) × T (le (disk_value 9) pi) × T (le nought (disk_value 10)) × T (le (disk_value 10) pi)
    disk_errors =
        let b = errors_sound D it.fit in
        rw disk_values_are (b.low1, b.high1, b.low2, b.high2)

    -- known is 1 exactly if there are more than four pixels, both eliminations succeed, and the residual sum, which is narrowed from f64, and the two
    -- entries on the diagonal are finite: a disk has no start that could be degenerate
    pub disk_known :
        (disk_counted 1 ≡ 1 → KnownErrors (error_matrix D it.fit) (error_sum D it.fit) D.n) ×
        (KnownErrors (error_matrix D it.fit) (error_sum D it.fit) D.n → disk_counted 1 ≡ 1)
    unfolding fit_standing
    disk_known = rw disk_counts_are (λ e. known_only _ _ _ (is_one _ e), λ k. ap C.flag (known_if _ _ _ k))

    -- the error words are the Rust's, known or not
    pub disk_error_words : (disk_value 9 ≡ (fit_std_errors D it.fit).error1) × (disk_value 10 ≡ (fit_std_errors D it.fit).error2)
    disk_error_words = rw disk_values_are (refl, refl)

    -- where they are known, each is an estimate, of the variance and of its own entry, capped at PI
    pub disk_estimated : (k : KnownErrors (error_matrix D it.fit) (error_sum D it.fit) D.n) →
        let v = residual_var (error_sum D it.fit) D.n in
        Estimated v (at k.first.solution 2) (disk_value 9) × Estimated v (at k.second.solution 3) (disk_value 10)
    unfolding fit_std_errors
    disk_estimated k =
        let few = it.pixels in
        rw (disk_error_words.0, disk_error_words.1)
        (known_estimated (error_matrix D it.fit) (error_sum D it.fit) D.n (narrow_fits _) (error_sum_upright D it.fit) (omega (arith, few)) k)

    -- the amplitude is NaN or not below zero
    pub disk_amplitude : T (is_nan (disk_value 3) || le nought (disk_value 3))
    disk_amplitude = rw disk_values_are sound_disk.size

    -- the width is one of the four
    pub disk_width : (w : ℕ) × (w < length widths_px) × (disk_value 2 ≡ get_or widths_px w nan)
    disk_width = rw disk_values_are (width_known D base0 base1 _ it.found)

-- m is the lesser of 2 and the number of trials that answered
pub disk_leaders : (D : DiskData) (base0 base1 : Float) → leaders_kept D base0 base1 ≡ min 2 (answered_trials D base0 base1)
disk_leaders D base0 base1 = leaders_are D base0 base1

-- any two answers that a contract permits are equal, of each entry
pub ring_answers_equal : (tables : List Table) (n : ℕ) (samples angles : List Float) (a b : RingAnswer)
    → a ≡ checked_ring tables n samples angles → b ≡ checked_ring tables n samples angles → a ≡ b
ring_answers_equal tables n samples angles a b e g = e ∙ sym g

pub disk_answers_equal : (D : DiskData) (base0 base1 : Float) (a b : DiskAnswer) → a ≡ checked_disk D base0 base1 → b ≡ checked_disk D base0 base1 → a ≡ b
disk_answers_equal D base0 base1 a b e g = e ∙ sym g
