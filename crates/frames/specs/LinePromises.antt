-- What a line's answer promises, for every line: exactly when each number is given, and that with 0 the text has the checked entry's own
-- values and its true counts. The remainders in the text's definition are idle, since no count reaches them. Assumes nothing.
use Rattle.std.specs.Prelude.{◌≡◌, Ok, Bool, true, false, ℕ, ◌+◌, ◌*◌, ◌%◌, ◌^◌, ◌≤◌, ◌<◌, length, get_or}
use Rattle.std.proofs.Math.Path.{refl}
use mathlib.Core.List.{List, [], ◌∷◌, ◌++◌}
use Rattle.std.proofs.Common.{arith}
use Rattle.hexadecimal.specs.Hex.{value_of, values_of, byte_text, count_text, words_text}
use Rattle.shapes.specs.Shapes.{shape_of, samples_of, answer_type}
use Rattle.shapes.specs.declared.Fault.{Fault}
use Rattle.shapes.specs.declared.Shape.{Shape}
use Rattle.shapes.specs.declared.Shape.TheVariants as Shapes
use Rattle.checked.specs.Checked as C
use Rattle.checked.specs.Checked.{ring_number, ring_place, ring_values, ring_counts, checked_disk, disk_number, disk_place, disk_values, disk_counts}
use Rattle.seed_models.specs.HeldLaws.{no_tables}
use Rattle.checked.specs.Promises.{RingCase, wrong_length, wrong_value, answered, ring_cases, ring_bill}
use Rattle.checked.specs.Promises.{DiskCase, wrong_count, wrong_lengths, wrong_disk_value, no_fit, disk_answered_lem, disk_cases, disk_numbers, disk_trials}
use Rattle.checked.specs.declared.Measured.{Measured}
use Rattle.robust_choice.specs.declared.RingFit.{RingFit}
use Rattle.shapes.specs.declared.RingKind.{RingKind}
use Rattle.checked.specs.Checked.{RingAnswer, DiskAnswer}
use Rattle.frames.specs.Frames.{Answer, answer_of, shaped_answer, ring_answered, ring_of_line, disk_answered, disk_of_line, value_words}
use Rattle.frames.specs.Frames.{ring_text, disk_text, refusal_text, text_of, number_of}

-- counts side by side, a byte each, as they are
abbrev pub plain_word : List ℕ → ℕ
plain_word [] = 0
plain_word (n ∷ ns) = n * 256 ^ length ns + plain_word ns

byte : (n : ℕ) → n ≤ 255 → n % 256 ≡ n
byte n h = omega arith

flagged : (b : Bool) → C.flag b ≤ 255
flagged true = omega arith
flagged false = omega arith

module _ (line : List ℕ) where
  -- the checked entries' answers to the values that the line has
  abbrev pub ring_at : RingKind → RingAnswer
  ring_at kind = ring_of_line line (samples_of kind)

  abbrev pub disk_at : ℕ → DiskAnswer
  disk_at n = checked_disk (disk_of_line line n) (value_of line 14) (value_of line 22)

  -- the text of an answered ring and of an answered disk
  abbrev pub ring_line : RingKind → List ℕ
  ring_line kind =
      count_text (answer_type kind * 256) ++ words_text (value_words (ring_values (ring_at kind)) ++ (plain_word (ring_counts (ring_at kind)) ∷ [])) 7

  abbrev pub disk_line : ℕ → List ℕ
  disk_line n =
      count_text 0x8200 ++ (words_text (value_words (disk_values (disk_at n))) 11 ++
      (count_text (get_or (disk_counts (disk_at n)) 0 0) ++ byte_text (get_or (disk_counts (disk_at n)) 1 0)))

  -- 0 with the fit's text and no other number with it; else a refusal's text of type, number and place
  pub data LineCase (a : Answer) : Type 0 where
    ring_fit :
        (kind : RingKind) → shape_of line ≡ Shapes.Ring kind → ring_number (ring_at kind) ≡ 0 → number_of a ≡ 0 →
        text_of a ≡ ring_line kind → LineCase a
    ring_refused :
        (kind : RingKind) → shape_of line ≡ Shapes.Ring kind → 0 < ring_number (ring_at kind) → number_of a ≡ ring_number (ring_at kind) →
        text_of a ≡ refusal_text (answer_type kind) (ring_number (ring_at kind)) (ring_place (ring_at kind)) → LineCase a
    disk_fit : (n : ℕ) → shape_of line ≡ Shapes.Disk n → disk_number (disk_at n) ≡ 0 → number_of a ≡ 0 → text_of a ≡ disk_line n → LineCase a
    disk_refused :
        (n : ℕ) → shape_of line ≡ Shapes.Disk n → 0 < disk_number (disk_at n) → number_of a ≡ disk_number (disk_at n) →
        text_of a ≡ refusal_text 0x82 (disk_number (disk_at n)) (disk_place (disk_at n)) → LineCase a
    count_refused : (n : ℕ) → shape_of line ≡ Shapes.BadCount n → number_of a ≡ 2 → text_of a ≡ refusal_text 0x82 2 0 → LineCase a
    other_type : (kind : ℕ) → shape_of line ≡ Shapes.OtherType kind → number_of a ≡ 5 → text_of a ≡ refusal_text 0xff 5 0 → LineCase a
    malformed_line : (f : Fault) → shape_of line ≡ Shapes.Malformed f → number_of a ≡ 5 → text_of a ≡ refusal_text 0xff 5 0 → LineCase a

  -- the counts of an answer are below 256, and its trials below 65536
  ring_text_lem :
      (kind : RingKind) (r : RingFit) → ring_at kind ≡ Ok r → ring_number (ring_at kind) ≡ 0 → ring_text kind r ≡ ring_line kind
  unfolding ring_text ring_values ring_counts
  ring_text_lem kind r e z =
      let n = samples_of kind in
      let c : ring_counts (ring_at kind) ≡ C.fit_counts r = rw e in
      let b = rw c at (ring_bill [] no_tables n (values_of line 2 n) (values_of line (2 + 8 * n) n) z) in
      let starts = byte r.starts (omega (arith, b.1)) in
      let first = byte r.first (omega (arith, b.2)) in
      let second = byte r.second (omega (arith, b.3)) in
      let known = byte (C.flag r.standing.known) (flagged r.standing.known) in
      rw (e, starts, first, second, known)

  disk_text_lem :
      (n : ℕ) (m : Measured) → disk_at n ≡ Ok m → disk_number (disk_at n) ≡ 0 → disk_text m ≡ disk_line n
  unfolding disk_text disk_values disk_counts
  disk_text_lem n m e z =
      let c : disk_counts (disk_at n) ≡ C.measured_counts m = rw e in
      let b = rw c at (disk_trials (disk_of_line line n) (value_of line 14) (value_of line 22) z) in
      let trials : m.trials % 65536 ≡ m.trials = omega (arith, b.1) in
      rw (e, trials)

  -- the cases of a ring's values
  abbrev AtRing : RingKind → Type 0
  AtRing kind = let n = samples_of kind in RingCase [] no_tables n (values_of line 2 n) (values_of line (2 + 8 * n) n) (ring_at kind)

  at_ring : (kind : RingKind) → AtRing kind
  at_ring kind = let n = samples_of kind in ring_cases [] no_tables n (values_of line 2 n) (values_of line (2 + 8 * n) n)

  ring_line_lem : (kind : RingKind) → shape_of line ≡ Shapes.Ring kind → AtRing kind → LineCase (ring_answered kind (ring_at kind))
  unfolding ring_number ring_place
  ring_line_lem kind s (wrong_length l e) = rw e (ring_refused kind s (rw e (omega arith)) (rw e refl) (rw e refl))
  ring_line_lem kind s (wrong_value p b f e) = rw e (ring_refused kind s (rw e (omega arith)) (rw e refl) (rw e refl))
  ring_line_lem kind s (answered n t f e) =
      let z : ring_number (ring_at kind) ≡ 0 = rw e refl in
      rw e (ring_fit kind s z refl (ring_text_lem kind _ e z))

  disk_line_lem :
      (n : ℕ) → shape_of line ≡ Shapes.Disk n → DiskCase (disk_of_line line n) (value_of line 14) (value_of line 22) (disk_at n) →
      LineCase (disk_answered (disk_at n))
  unfolding disk_number disk_place
  disk_line_lem n s (wrong_count x e) = rw e (disk_refused n s (rw e (omega arith)) (rw e refl) (rw e refl))
  disk_line_lem n s (wrong_lengths x y e) = rw e (disk_refused n s (rw e (omega arith)) (rw e refl) (rw e refl))
  disk_line_lem n s (wrong_disk_value p b c f e) = rw e (disk_refused n s (rw e (omega arith)) (rw e refl) (rw e refl))
  disk_line_lem n s (no_fit u l c g e) = rw e (disk_refused n s (rw e (omega arith)) (rw e refl) (rw e refl))
  disk_line_lem n s (disk_answered_lem f u l c g e) =
      let z : disk_number (disk_at n) ≡ 0 = rw e refl in
      rw e (disk_fit n s z refl (disk_text_lem n _ e z))

  pub line_cases : LineCase (answer_of line)
  unfolding answer_of
  line_cases = go (shape_of line) refl
    where
      go : (s : Shape) → shape_of line ≡ s → LineCase (shaped_answer line s)
      go (Shapes.Ring kind) e = ring_line_lem kind e (at_ring kind)
      go (Shapes.Disk n) e = disk_line_lem n e (disk_cases (disk_of_line line n) (value_of line 14) (value_of line 22))
      go (Shapes.BadCount n) e = count_refused n e refl refl
      go (Shapes.OtherType kind) e = other_type kind e refl refl
      go (Shapes.Malformed f) e = malformed_line f e refl refl

  ring_most : (kind : RingKind) → AtRing kind → ring_number (ring_at kind) ≤ 3
  unfolding ring_number
  ring_most kind (wrong_length l e) = rw e (omega arith)
  ring_most kind (wrong_value p b f e) = rw e (omega arith)
  ring_most kind (answered n t f e) = rw e (omega arith)

  -- the numbers are 0 to 5
  pub line_numbers : number_of (answer_of line) ≤ 5
  line_numbers = go line_cases
    where
      go : LineCase (answer_of line) → number_of (answer_of line) ≤ 5
      go (ring_fit k s z n t) = omega (arith, n)
      go (ring_refused k s z n t) = omega (arith, n, ring_most k (at_ring k))
      go (disk_fit k s z n t) = omega (arith, n)
      go (disk_refused k s z n t) = omega (arith, n, disk_numbers (disk_of_line line k) (value_of line 14) (value_of line 22))
      go (count_refused k s n t) = omega (arith, n)
      go (other_type k s n t) = omega (arith, n)
      go (malformed_line f s n t) = omega (arith, n)
