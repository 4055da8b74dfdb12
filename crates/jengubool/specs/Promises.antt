-- What the value calls return and leave in a caller's buffers: 0 with the answer's values and true counts in front, or number and place with both
-- buffers as they came. Assumes nothing.
use Rattle.std.specs.Prelude.{◌≡◌, Ok, Err, Bool, cond, List, [], ℕ, ◌+◌, ◌*◌, ◌≤◌, length, ltb, Float}
use Rattle.std.proofs.Math.Path.{refl}
use Rattle.std.proofs.Math.Bool.{true, false}
use Rattle.std.proofs.Common.{arith}
use borrow.Author.Tests.{le-ltb, ne_eqb}
use Rattle.data.specs.Data.{DiskData}
use Rattle.checked.specs.Checked.{checked_ring, checked_disk, ring_number, ring_place, ring_values, ring_record, ring_counts, disk_number}
use Rattle.checked.specs.Checked.{disk_place, disk_values, disk_counts, flag, fit_counts}
use Rattle.seed_models.specs.Models.{Table}
use Rattle.seed_models.specs.HeldLaws.{TablesHeld}
use Rattle.robust.specs.Record.{record_ring}
use Rattle.robust_choice.specs.declared.RingFit.{RingFit}
use Rattle.score.specs.Score.{fit_standing}
use Rattle.checked.specs.Promises.{answered_is_the_fit, answered_values, ring_bill, disk_answered_is_the_fit, disk_answered_values, disk_trials}
use Rattle.checked.specs.Checked.{RingAnswer, DiskAnswer}
use Rattle.checked.specs.declared.Refusal.{Refusal}
use Rattle.jengubool.specs.Calls.{Form, the_six, the_record, ring_size, Stored, code_of, put_from, wide, ring_stored, ring_call, disk_stored, disk_call}

module _ (fit : List Float) (counts : List ℕ) where
  -- the code c, and every float and every count as it was
  abbrev refusal : ℕ → Stored
  refusal c = record { code = c; fit = fit; counts = counts }

  -- of any way to store that gives 0 with a fit, and of a refusal its number and place with both buffers
  stored_keeps :
      (store : RingAnswer → Stored) → ((r : RingFit) → (store (Ok r)).code ≡ 0) →
      ((e : Refusal) → store (Err e) ≡ refusal (code_of e)) →
      (a : RingAnswer) → ((store a).code ≡ 0 → ⊥) → store a ≡ refusal (store a).code
  stored_keeps store none kept (Ok r) h = absurd (h (none r))
  stored_keeps store none kept (Err e) h = rw (kept e) refl

  short_keeps : (a b : Bool) (r : Stored) → ((r.code ≡ 0 → ⊥) → r ≡ refusal r.code) →
      let s = cond a (refusal 65536) (cond b (refusal 65536) r) in (s.code ≡ 0 → ⊥) → s ≡ refusal s.code
  short_keeps true b r f h = refl
  short_keeps false true r f h = refl
  short_keeps false false r f h = f h

  -- a call that returns anything but 0 leaves every byte of the fit and of the counts
  pub refused_keeps : (w : Form) (tables : List Table) (n : ℕ) (samples angles : List Float) →
      let s = ring_call w tables n samples angles fit counts in (s.code ≡ 0 → ⊥) → s ≡ refusal s.code
  unfolding ring_call ring_stored
  refused_keeps w tables n samples angles =
      short_keeps (ltb (length fit) w.room) (ltb (length counts) 4) (ring_stored w (checked_ring tables n samples angles) fit counts)
      (stored_keeps (λ (a : RingAnswer). ring_stored w a fit counts) (λ r. refl) (λ e. refl) (checked_ring tables n samples angles))

  disk_stored_keeps : (a : DiskAnswer) → ((disk_stored a fit counts).code ≡ 0 → ⊥) → disk_stored a fit counts ≡ refusal (disk_stored a fit counts).code
  unfolding disk_stored
  disk_stored_keeps (Ok m) h = absurd (h refl)
  disk_stored_keeps (Err e) h = refl

  -- the same of the disk's call
  pub disk_refused_keeps : (D : DiskData) (base0 base1 : Float) → let s = disk_call D base0 base1 fit counts in (s.code ≡ 0 → ⊥) → s ≡ refusal s.code
  unfolding disk_call
  disk_refused_keeps D base0 base1 = short_keeps (ltb (length fit) 11) (ltb (length counts) 2) _ (disk_stored_keeps (checked_disk D base0 base1))

  -- ---- what is returned, and what is written with 0
  ring_stored_code : (w : Form) (a : RingAnswer) → (ring_stored w a fit counts).code ≡ ring_number a * 65536 + ring_place a
  unfolding ring_stored ring_number ring_place
  ring_stored_code w (Ok r) = refl
  ring_stored_code w (Err e) = refl

  disk_stored_code : (a : DiskAnswer) → (disk_stored a fit counts).code ≡ disk_number a * 65536 + disk_place a
  unfolding disk_stored disk_number disk_place
  disk_stored_code (Ok m) = refl
  disk_stored_code (Err e) = refl

  -- with buffers that are long enough the code is the answer's number and place
  pub ring_code : (w : Form) (tables : List Table) (n : ℕ) (samples angles : List Float) → w.room ≤ length fit → 4 ≤ length counts →
      let a = checked_ring tables n samples angles in (ring_call w tables n samples angles fit counts).code ≡ ring_number a * 65536 + ring_place a
  unfolding ring_call
  ring_code w tables n samples angles f c = rw (le-ltb _ _ f, le-ltb _ _ c) (ring_stored_code w (checked_ring tables n samples angles))

  pub disk_code : (D : DiskData) (base0 base1 : Float) → 11 ≤ length fit → 2 ≤ length counts →
      (disk_call D base0 base1 fit counts).code ≡ disk_number (checked_disk D base0 base1) * 65536 + disk_place (checked_disk D base0 base1)
  unfolding disk_call
  disk_code D base0 base1 f c = rw (le-ltb _ _ f, le-ltb _ _ c) (disk_stored_code (checked_disk D base0 base1))

  -- a record is of 16 samples or of 24, and any other number is refused with 1, whatever the buffers
  pub record_sizes : (samples angles : List Float) →
      (length samples ≡ 16 → ring_size samples ≡ 16) × (length samples ≡ 24 → ring_size samples ≡ 24) ×
      ((length samples ≡ 16 → ⊥) → (length samples ≡ 24 → ⊥) → (ring_call the_record [] (ring_size samples) samples angles fit counts).code ≡ 65536)
  unfolding ring_call ring_stored checked_ring
  record_sizes samples angles = (
    λ e. rw e refl,
    λ e. rw e refl,
    λ no16 no24. rw (ne_eqb (length samples) 24 no24, ne_eqb (length samples) 16 no16) (short (ltb (length fit) 7) (ltb (length counts) 4)),
  )
    where
      short : (a b : Bool) → (cond a (refusal 65536) (cond b (refusal 65536) (refusal 65536))).code ≡ 65536
      short true b = refl
      short false true = refl
      short false false = refl

  -- the counts are small, so that 32 bits hold them as they are
  small : (n : ℕ) → n ≤ 1000 → wide n ≡ n
  small n h = omega arith

  flagged : (b : Bool) → flag b ≤ 1
  flagged true = omega arith
  flagged false = omega arith

  -- with number 0 the values and the true counts stand in front, and all behind them is as it was
  module _ (tables : List Table) (held : TablesHeld tables) (n : ℕ) (samples angles : List Float)
      (zero_number : ring_number (checked_ring tables n samples angles) ≡ 0) where
    abbrev fitted : RingAnswer
    fitted = checked_ring tables n samples angles

    written : (w : Form) → w.room ≤ length fit → 4 ≤ length counts →
        let r = record_ring tables n samples angles in
        ring_call w tables n samples angles fit counts ≡
        record { code = 0; fit = put_from (w.values r.fit) 0 fit; counts = put_from (fit_counts r) 0 counts }
    unfolding ring_call ring_stored
    written w f c =
        let r = record_ring tables n samples angles in
        let v = answered_values tables held n samples angles zero_number in
        let b = rw v.1 at (ring_bill tables held n samples angles zero_number) in
        let k = r.standing.known in
        let known : flag k ≤ 1000 = omega (arith, flagged k) in
        let starts : r.starts ≤ 1000 = omega (arith, b.1) in
        let first : r.first ≤ 1000 = omega (arith, b.2) in
        let second : r.second ≤ 1000 = omega (arith, b.3) in
        rw (
          le-ltb _ _ f,
          le-ltb _ _ c,
          (answered_is_the_fit tables held n samples angles zero_number).answer,
          small r.starts starts,
          small r.first first,
          small r.second second,
          small (flag k) known,
        )

    -- the six values
    pub ring_written : 6 ≤ length fit → 4 ≤ length counts →
        ring_call the_six tables n samples angles fit counts ≡
        record { code = 0; fit = put_from (ring_values fitted) 0 fit; counts = put_from (ring_counts fitted) 0 counts }
    unfolding ring_values ring_counts
    ring_written f c = rw (answered_is_the_fit tables held n samples angles zero_number).answer (written the_six f c)

    -- the record: the six and the mean
    pub record_written : 7 ≤ length fit → 4 ≤ length counts →
        ring_call the_record tables n samples angles fit counts ≡
        record { code = 0; fit = put_from (ring_record fitted) 0 fit; counts = put_from (ring_counts fitted) 0 counts }
    unfolding ring_record ring_counts
    record_written f c = rw (answered_is_the_fit tables held n samples angles zero_number).answer (written the_record f c)

  module _ (D : DiskData) (base0 base1 : Float) (zero_number : disk_number (checked_disk D base0 base1) ≡ 0) where
    -- the same of a disk: eleven values, the trials and known
    pub disk_written : 11 ≤ length fit → 2 ≤ length counts →
        disk_call D base0 base1 fit counts ≡
        record {
          code = 0;
          fit = put_from (disk_values (checked_disk D base0 base1)) 0 fit;
          counts = put_from (disk_counts (checked_disk D base0 base1)) 0 counts;
        }
    unfolding disk_call disk_stored
    disk_written f c =
        let a = disk_answered_is_the_fit D base0 base1 zero_number in
        let v = disk_answered_values D base0 base1 zero_number in
        let b = rw v.1 at (disk_trials D base0 base1 zero_number) in
        let k = (fit_standing D a.fit).known in
        let known : flag k ≤ 1000 = omega (arith, flagged k) in
        let trials : a.trials ≤ 1000 = omega (arith, b.1) in
        rw (le-ltb _ _ f, le-ltb _ _ c, v.0, v.1, a.answer, small a.trials trials, small (flag k) known)
