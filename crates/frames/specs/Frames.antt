-- What a frame line is answered (docs/RULES.md, Frame lines), in the order of the refusals. Definitions only.
use Rattle.std.specs.Prelude.{Bool, cond, List, [], ◌∷◌, ◌++◌, map, ℕ, ◌+◌, ◌*◌, ◌%◌, ◌^◌, length, ltb, Float, Result, Ok, Err}
use Rattle.std.specs.Float.{binary32}
use Rattle.std.specs.Float.Ieee.{to_bits}
use Rattle.hexadecimal.specs.Hex.{value_of, values_of, byte_text, count_text, words_text, put}
use Rattle.shapes.specs.Shapes.{shape_of, samples_of, answer_type}
use Rattle.shapes.specs.declared.RingKind.{RingKind}
use Rattle.shapes.specs.declared.Shape.{Shape}
use Rattle.shapes.specs.declared.Shape.TheVariants as Shapes
use Rattle.robust_choice.specs.declared.RingFit.{RingFit}
use Rattle.data.specs.Data.{DiskData}
use Rattle.solver_record.specs.Record.{without_mean}
use Rattle.checked.specs.Checked as C
use Rattle.checked.specs.Checked.{RingAnswer, DiskAnswer, checked_ring, checked_disk, flag, fit_values, fit_counts, measured_values}
use Rattle.checked.specs.declared.Refusal.TheVariants.{PixelCount}
use Rattle.checked.specs.declared.Measured.{Measured}
use Rattle.frames.specs.declared.FrameFit.{FrameFit}
use Rattle.frames.specs.declared.FrameFit.TheVariants.{Ring, Disk}
use Rattle.frames.specs.declared.LineRefusal.{LineRefusal}
use Rattle.frames.specs.declared.LineRefusal.TheVariants as Refused

-- ---- the answer to a line: a fit, or why there is none
abbrev pub Answer : Type 0
Answer = Result FrameFit LineRefusal

-- the type, the number and the place of each refusal: number 5 has the type ff
abbrev pub refused_type : LineRefusal → ℕ
refused_type Refused.Malformed = 0xff
refused_type (Refused.Ring kind e) = answer_type kind
refused_type (Refused.Disk e) = 0x82

abbrev pub refused_number : LineRefusal → ℕ
refused_number Refused.Malformed = 5
refused_number (Refused.Ring kind e) = C.refusal_number e
refused_number (Refused.Disk e) = C.refusal_number e

abbrev pub refused_place : LineRefusal → ℕ
refused_place Refused.Malformed = 0
refused_place (Refused.Ring kind e) = C.refusal_place e
refused_place (Refused.Disk e) = C.refusal_place e

abbrev pub malformed : Answer
malformed = Err Refused.Malformed

-- a fit or a refusal, of its type
abbrev pub ring_answered : RingKind → RingAnswer → Answer
ring_answered kind (Ok r) = Ok (Ring kind r)
ring_answered kind (Err e) = Err (Refused.Ring kind e)

-- a ring's line has a word for each sample behind the type, and then one for each angle
abbrev pub ring_of_line : List ℕ → ℕ → RingAnswer
ring_of_line l n = checked_ring [] n (values_of l 2 n) (values_of l (2 + 8 * n) n)

abbrev pub ring_answer : List ℕ → RingKind → Answer
ring_answer l kind = ring_answered kind (ring_of_line l (samples_of kind))

abbrev pub disk_answered : DiskAnswer → Answer
disk_answered (Ok m) = Ok (Disk m)
disk_answered (Err e) = Err (Refused.Disk e)

-- a disk's has the count of four digits, three values and five runs of n values behind the type
unfoldable pub disk_of_line : List ℕ → ℕ → DiskData
disk_of_line l n =
    record {
      n = n;
      xs = values_of l 30 n;
      ys = values_of l (30 + 8 * n) n;
      vals_centered = values_of l (30 + 16 * n) n;
      grad_angles = values_of l (30 + 24 * n) n;
      grad_weights = values_of l (30 + 32 * n) n;
      val_energy = value_of l 6;
    }

abbrev pub disk_fit_of : List ℕ → ℕ → DiskAnswer
disk_fit_of l n = checked_disk (disk_of_line l n) (value_of l 14) (value_of l 22)

abbrev pub disk_answer : List ℕ → ℕ → Answer
disk_answer l n = disk_answered (disk_fit_of l n)

-- by the line's shape, which says what comes before the values: number 5, number 2, number 5 again
abbrev pub shaped_answer : List ℕ → Shape → Answer
shaped_answer l (Shapes.Ring kind) = ring_answer l kind
shaped_answer l (Shapes.Disk n) = disk_answer l n
shaped_answer l (Shapes.BadCount n) = Err (Refused.Disk PixelCount)
shaped_answer l (Shapes.OtherType kind) = malformed
shaped_answer l (Shapes.Malformed fault) = malformed

unfoldable pub answer_of : List ℕ → Answer
answer_of l = shaped_answer l (shape_of l)

-- ---- the text of an answer
-- counts, a byte each
abbrev pub counts_word : List ℕ → ℕ
counts_word [] = 0
counts_word (n ∷ ns) = n % 256 * 256 ^ length ns + counts_word ns

abbrev pub value_words : List Float → List ℕ
value_words = map (to_bits binary32)

-- the six values, and a word of the four counts
abbrev pub ring_words : RingFit → List ℕ
ring_words r = value_words (fit_values (without_mean r.fit)) ++ (counts_word (fit_counts r) ∷ [])

-- 8100 or 8300, then seven words: 60 characters
unfoldable pub ring_text : RingKind → RingFit → List ℕ
ring_text kind r = count_text (answer_type kind * 256) ++ words_text (ring_words r) 7

abbrev pub disk_words : Measured → List ℕ
disk_words m = value_words (measured_values m)

-- 8200, then eleven words, the trials in four digits and known: 98 characters
unfoldable pub disk_text : Measured → List ℕ
disk_text m =
    count_text 0x8200 ++ (words_text (disk_words m) 11 ++ (count_text (m.trials % 65536) ++ byte_text (flag m.estimate.standing.known)))

unfoldable pub refusal_text : ℕ → ℕ → ℕ → List ℕ
refusal_text kind number place = byte_text kind ++ (byte_text number ++ count_text place)

abbrev pub text_of : Answer → List ℕ
text_of (Ok (Ring kind r)) = ring_text kind r
text_of (Ok (Disk m)) = disk_text m
text_of (Err e) = refusal_text (refused_type e) (refused_number e) (refused_place e)

abbrev pub number_of : Answer → ℕ
number_of (Ok f) = 0
number_of (Err e) = refused_number e

-- ---- the line call: the number that it returns, and the whole of the lent buffer afterwards
pub record Reply : Type 0 where
  pub number : ℕ
  pub buffer : List ℕ

unfoldable pub reply_of : List ℕ → List ℕ → Reply
reply_of l out =
    cond (ltb (length out) 98) (record { number = 1; buffer = out })
    (record { number = number_of (answer_of l); buffer = put out 0 (text_of (answer_of l)) })

-- ---- a line as the program prints its answer; the start of a line that was dropped as it came was too long
abbrev pub kept_answer : Bool → List ℕ → Answer
kept_answer skip l = cond skip malformed (answer_of l)

unfoldable pub line_text : Bool → List ℕ → List ℕ
line_text skip l = text_of (kept_answer skip l) ++ (10 ∷ [])
