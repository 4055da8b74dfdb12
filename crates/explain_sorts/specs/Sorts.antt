-- What a line of frames and answers is, and which answer the frame above it is due. Definitions only.
use Rattle.std.specs.Prelude.{Bool, true, false, cond, not, ◌&&◌, ◌||◌, List, ℕ, zero, suc, ◌+◌, ◌*◌, ◌≤◌, ◌<◌, length, eqb, ltb}
use Rattle.std.specs.Prelude.{Option, Some, None, is_none}
use Rattle.std.specs.Float.Ieee.Scale.{finite}
use Rattle.hexadecimal.specs.Hex.{byte_of, word_of, value_of}
use Rattle.shapes.specs.Shapes.{shape_of, fit_length, samples_of}
use Rattle.shapes.specs.declared.Shape.{Shape}
use Rattle.shapes.specs.declared.Shape.TheVariants as Shapes
use Rattle.shapes.specs.declared.Fault.TheVariants.{TooLong}
use Rattle.shapes.specs.declared.Kind.{Kind}
use Rattle.shapes.specs.declared.Kind.TheVariants as Kinds
use Rattle.shapes.specs.declared.RingKind.TheVariants.{Sixteen, TwentyFour}
use Rattle.explain_sorts.specs.declared.Asks.{Asks}
use Rattle.explain_sorts.specs.declared.Asks.TheVariants.{Ring, Disk}
use Rattle.explain_sorts.specs.declared.Due.{Due}
use Rattle.explain_sorts.specs.declared.Due.TheVariants as Dues
use Rattle.explain_sorts.specs.declared.Frame.{Frame}
use Rattle.explain_sorts.specs.declared.Above.{Above}
use Rattle.explain_sorts.specs.declared.Above.TheVariants as Aboves
use Rattle.explain_sorts.specs.declared.Wrong.{Wrong}
use Rattle.explain_sorts.specs.declared.Wrong.TheVariants.{Malformed, UnknownType, AnswerLength, FitNumber, NoNumber, StrangeNumber}
use Rattle.explain_sorts.specs.declared.Sort.{Sort}
use Rattle.explain_sorts.specs.declared.Sort.TheVariants.{Asked, Fit, Refused, Bad}

-- ---- answers (docs/RULES.md, Frame lines): a ring's refusal has number 1 or 3, a disk's 1 to 4, that of type ff, which is of no kind, 5
abbrev pub is_of : Option Kind → ℕ → Bool
is_of (Some (Kinds.Ring kind)) number = eqb number 1 || eqb number 3
is_of (Some Kinds.Disk) number = ltb number 5
is_of None number = eqb number 5

unfoldable pub refusal_sort : List ℕ → Option Kind → Sort
refusal_sort l kind =
    let number = byte_of l 2 in
    cond (eqb number 0 || ltb 5 number) (Bad (NoNumber number))
    (cond (is_of kind number) (Refused (record { kind = kind; number = number; place = byte_of l 4 * 256 + byte_of l 6 })) (Bad (StrangeNumber kind number)))

unfoldable pub fit_answer : List ℕ → Kind → Sort
fit_answer l kind =
    cond (eqb (length l) 8) (refusal_sort l (Some kind))
    (cond (not (eqb (length l) (fit_length kind))) (Bad (AnswerLength (Some kind)))
    (cond (not (eqb (byte_of l 2) 0)) (Bad (FitNumber (byte_of l 2))) (Fit kind)))

unfoldable pub malformed_answer : List ℕ → Sort
malformed_answer l = cond (eqb (length l) 8) (refusal_sort l None) (Bad (AnswerLength None))

-- by the type: 81 and 83 of the rings, 82 of a disk, ff of a malformed line
unfoldable pub answer_sort : List ℕ → ℕ → Sort
answer_sort l answer =
    cond (eqb answer 129) (fit_answer l (Kinds.Ring Sixteen))
    (cond (eqb answer 131) (fit_answer l (Kinds.Ring TwentyFour))
    (cond (eqb answer 130) (fit_answer l Kinds.Disk) (cond (eqb answer 255) (malformed_answer l) (Bad (UnknownType answer)))))

-- ---- frames: the first of the words from k on, `left` of them, that is no finite value
unfoldable pub wild_word : List ℕ → ℕ → ℕ → ℕ → Option ℕ
wild_word l at zero k = None
wild_word l at (suc left) k = cond (not (finite (value_of l (at + 8 * k)))) (Some k) (wild_word l at left (k + 1))

abbrev pub WordWithin : ℕ → Option ℕ → Type 0
WordWithin n (Some k) = k < n
WordWithin n None = Unit {0}

-- what a frame of n values from `at` on is due: the refusal of the first that is not finite, or a fit
abbrev pub due_at : List ℕ → ℕ → Option ℕ → Due
due_at l at (Some k) = Dues.Wild k (word_of l (at + 8 * k))
due_at l at None = Dues.Fit

abbrev pub due_of : List ℕ → ℕ → ℕ → Due
due_of l at n = due_at l at (wild_word l at n 0)

abbrev pub asked : ℕ → Asks → Due → Sort
asked line asks due = Asked (record { line = line; asks = asks; due = due })

abbrev pub shape_sort : List ℕ → ℕ → Shape → Sort
shape_sort l line (Shapes.Ring kind) = asked line (Ring kind) (due_of l 2 (2 * samples_of kind))
shape_sort l line (Shapes.Disk n) = asked line (Disk n) (due_of l 6 (3 + 5 * n))
shape_sort l line (Shapes.BadCount n) = asked line (Disk n) Dues.BadCount
shape_sort l line (Shapes.OtherType answer) = answer_sort l answer
shape_sort l line (Shapes.Malformed fault) = Bad (Malformed fault)

-- ---- a line; of one that was dropped as it came the start is gone
unfoldable pub sort_of : List ℕ → Bool → ℕ → Sort
sort_of l skip line = cond skip (Bad (Malformed TooLong)) (shape_sort l line (shape_of l))

-- what a reader of an answer relies on
abbrev pub SortSound : ℕ → Sort → Type 0
SortSound size (Asked f) = Unit {0}
SortSound size (Fit kind) = fit_length kind ≤ size
SortSound size (Refused r) = Unit {0}
SortSound size (Bad w) = Unit {0}

-- ---- what stands above the next line. Of what is wrong as an answer it is not known whether it is meant as a frame
abbrev pub bad_above : Wrong → ℕ → Above
bad_above (Malformed fault) line = Aboves.Malformed line
bad_above (UnknownType answer) line = Aboves.Malformed line
bad_above (AnswerLength kind) line = Aboves.Flawed line
bad_above (FitNumber number) line = Aboves.Flawed line
bad_above (NoNumber number) line = Aboves.Flawed line
bad_above (StrangeNumber kind number) line = Aboves.Flawed line

abbrev pub above_of : Sort → ℕ → Above
above_of (Asked f) line = Aboves.Asked f
above_of (Fit kind) line = Aboves.Nothing
above_of (Refused r) line = Aboves.Nothing
above_of (Bad w) line = bad_above w line

-- ---- whether an answer may be that of what stands above: of a frame it has the kind that is asked for, and what is due, which is the refusal of
-- its count or of a value, and else a fit, or a disk's number 4
abbrev pub is_asked : Asks → Option Kind → Bool
is_asked (Ring Sixteen) (Some (Kinds.Ring Sixteen)) = true
is_asked (Ring TwentyFour) (Some (Kinds.Ring TwentyFour)) = true
is_asked (Disk n) (Some Kinds.Disk) = true
is_asked _ _ = false

abbrev pub is_fit_of : Asks → ℕ → Bool
is_fit_of (Ring kind) number = eqb number 0
is_fit_of (Disk n) number = eqb number 0 || eqb number 4

abbrev pub is_dued : Asks → Due → ℕ → ℕ → Bool
is_dued asks Dues.BadCount number place = eqb number 2 && eqb place 0
is_dued asks (Dues.Wild k bits) number place = eqb number 3 && eqb place k
is_dued asks Dues.Fit number place = is_fit_of asks number

abbrev pub is_due : Frame → ℕ → ℕ → Bool
is_due f number place = is_dued f.asks f.due number place

abbrev pub belongs : Above → Option Kind → ℕ → ℕ → Bool
belongs (Aboves.Asked f) kind number place = is_asked f.asks kind && is_due f number place
belongs (Aboves.Malformed line) kind number place = is_none kind && eqb number 5 && eqb place 0
belongs (Aboves.Flawed line) kind number place = true
belongs Aboves.Nothing kind number place = true

-- ---- whether a line is no answer, so that the frame above has none; and whether it is an answer that is not that of the frame above
abbrev pub is_alone : Sort → Bool
is_alone (Asked f) = true
is_alone (Fit kind) = false
is_alone (Refused r) = false
is_alone (Bad w) = true

abbrev pub is_strange : Sort → Above → Bool
is_strange (Asked f) a = false
is_strange (Fit kind) a = not (belongs a (Some kind) 0 0)
is_strange (Refused r) a = not (belongs a r.kind r.number r.place)
is_strange (Bad w) a = false
