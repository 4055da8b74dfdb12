-- What explain says of a line, sentence by sentence: when, and in which words. Definitions only.
-- Its warnings stand in `explain_warnings`. How a word in a blank is spelt, and which stands in which blank, is not said.
use Rattle.std.specs.Prelude.{ℕ, ◌+◌, ◌-◌, ◌*◌, ◌/◌, Bool, true, false, cond, not, ◌&&◌, ◌||◌, List, [], ◌∷◌, ◌++◌, length, ◌==◌, nat_le, nat_lt}
use Rattle.std.specs.Prelude.{Option, Some, None, is_none, position, slice_index}
use Prim.Native.String.{String}
use Rattle.hexadecimal.specs.Hex.{is_hex}
use Rattle.shapes.specs.Shapes.{samples_of, answer_type}
use Rattle.shapes.specs.declared.RingKind.{RingKind}
use Rattle.shapes.specs.declared.RingKind.TheVariants.{Sixteen, TwentyFour}
use Rattle.shapes.specs.declared.Kind.{Kind}
use Rattle.shapes.specs.declared.Kind.TheVariants.{Ring, Disk}
use Rattle.shapes.specs.declared.Fault.TheVariants.{TooLong, Foreign, Short, RingLength, DiskShort, DiskLength}
use Rattle.explain_words.specs.Tell.{Said, telling}
use Rattle.explain_words.specs.declared.Page.{Page}
use Rattle.explain_warnings.specs.declared.Reading.{Reading}
use Rattle.explain_warnings.specs.Warnings.{reading_of, warnings_text}
use Rattle.explain_sorts.specs.declared.Asks.{Asks}
use Rattle.explain_sorts.specs.declared.Asks.TheVariants as Askings
use Rattle.explain_sorts.specs.declared.Due.{Due}
use Rattle.explain_sorts.specs.declared.Due.TheVariants as Dues
use Rattle.explain_sorts.specs.declared.Above.{Above}
use Rattle.explain_sorts.specs.declared.Above.TheVariants as Aboves
use Rattle.explain_sorts.specs.declared.Refusal.{Refusal}
use Rattle.explain_sorts.specs.declared.Wrong.{Wrong}
use Rattle.explain_sorts.specs.declared.Wrong.TheVariants.{Malformed, UnknownType, AnswerLength, FitNumber, NoNumber, StrangeNumber}
use Rattle.explain_sorts.specs.declared.Sort.{Sort}
use Rattle.explain_sorts.specs.declared.Sort.TheVariants.{Asked, Fit, Refused, Bad}
use Rattle.explain_sorts.specs.Sorts.{belongs, is_alone, is_strange}
use Rattle.explain_sentences.specs.declared.refusal.Part.{Part}
use Rattle.explain_sentences.specs.declared.refusal.Part.TheVariants.{Energy, Base0, Base1, Xs, Ys, ValsCentered, GradAngles, GradWeights, Beyond}

-- ---- what a frame or an answer is of
abbrev pub of_ring : RingKind → Option Kind → Bool
of_ring Sixteen (Some (Ring Sixteen)) = true
of_ring TwentyFour (Some (Ring TwentyFour)) = true
of_ring _ _ = false

abbrev pub disk_kind : Option Kind → Bool
disk_kind (Some Disk) = true
disk_kind _ = false

abbrev pub kind_asked : Asks → Kind
kind_asked (Askings.Ring kind) = Ring kind
kind_asked (Askings.Disk n) = Disk

abbrev pub kind_above : Above → Option Kind
kind_above (Aboves.Asked f) = Some (kind_asked f.asks)
kind_above _ = None

-- an answer's type: a disk's is 82, that of a malformed line ff
abbrev pub type_of_kind : Option Kind → ℕ
type_of_kind (Some (Ring kind)) = answer_type kind
type_of_kind (Some Disk) = 0x82
type_of_kind None = 0xff

-- the number of the line above, and the count of pixels there; 0 where there is none
abbrev pub line_above : Above → ℕ
line_above Aboves.Nothing = 0
line_above (Aboves.Asked f) = f.line
line_above (Aboves.Malformed line) = line
line_above (Aboves.Flawed line) = line

abbrev pub pixels_asked : Asks → ℕ
pixels_asked (Askings.Ring kind) = 0
pixels_asked (Askings.Disk n) = n

abbrev pub pixels_above : Above → ℕ
pixels_above (Aboves.Asked f) = pixels_asked f.asks
pixels_above _ = 0

-- ---- a frame that no answer follows
unfoldable pub alone_rows : Above → List (Bool × String)
alone_rows a =
    (of_ring Sixteen (kind_above a), "line {a}: ring frame without an answer: run it through fitlines\n")
    ∷ (of_ring TwentyFour (kind_above a), "line {a}: 24-point ring frame without an answer: run it through fitlines\n")
    ∷ (disk_kind (kind_above a), "line {a}: disk frame of {b} pixel{c} without an answer: run it through fitlines\n")
    ∷ []

-- ---- an answer that is not that of the frame above it, which is due a refusal, or a fit: its values are finite
abbrev pub is_fit_due : Due → Bool
is_fit_due Dues.Fit = true
is_fit_due _ = false

abbrev pub is_refused : Above → Bool
is_refused (Aboves.Asked f) = not (is_fit_due f.due)
is_refused (Aboves.Malformed line) = true
is_refused _ = false

abbrev pub is_clean : Above → Bool
is_clean (Aboves.Asked f) = is_fit_due f.due
is_clean _ = false

-- that refusal, by its kind, its number and its place
abbrev pub due_refusal : Asks → Due → Option Refusal
due_refusal asks Dues.Fit = None
due_refusal asks Dues.BadCount = Some (record { kind = Some (kind_asked asks); number = 2; place = 0 })
due_refusal asks (Dues.Wild k bits) = Some (record { kind = Some (kind_asked asks); number = 3; place = k })

abbrev pub due : Above → Option Refusal
due (Aboves.Asked f) = due_refusal f.asks f.due
due (Aboves.Malformed line) = Some (record { kind = None; number = 5; place = 0 })
due _ = None

unfoldable pub mismatch_rows : Above → List (Bool × String)
mismatch_rows a =
    (is_refused a, "  warning: this does not answer line {a}: its frame is refused, {b}\n")
    ∷ (is_clean a && of_ring Sixteen (kind_above a), "  warning: this does not answer line {a}: a ring frame of finite values has a ring fit\n")
    ∷ (
      is_clean a && of_ring TwentyFour (kind_above a),
      "  warning: this does not answer line {a}: a 24-point ring frame of finite values has a 24-point ring fit\n",
    )
    ∷ (is_clean a && disk_kind (kind_above a), "  warning: this does not answer line {a}: a disk frame of finite values has a disk fit, or refusal 4\n")
    ∷ []

-- ---- a fit, of its answer's kind, whose errors are known or not
unfoldable pub fit_rows : Kind → Bool → List (Bool × String)
fit_rows kind known =
    (of_ring Sixteen (Some kind), "line {a}: ring fit\n")
    ∷ (of_ring TwentyFour (Some kind), "line {a}: 24-point ring fit\n")
    ∷ (disk_kind (Some kind), "line {a}: disk fit\n")
    ∷ (true, "  axes        {b} and {c} degrees, {d} apart\n")
    ∷ (known, "  errors      {e} and {f} degrees\n")
    ∷ (not known, "  errors      not known ({e} and {f} degrees stand in their place)\n")
    ∷ (true, "  amplitude   {g}\n")
    ∷ (true, "  residual    {h}{i}{j}{k}\n")
    ∷ (not (disk_kind (Some kind)), "  work        {l} start{m}, {n}{o}{p} update{q}\n")
    ∷ (disk_kind (Some kind), "  rel_rms     {r}\n")
    ∷ (disk_kind (Some kind), "  width       {s}\n")
    ∷ (disk_kind (Some kind), "  correlation {t}\n")
    ∷ (disk_kind (Some kind), "  edge score  {u}\n")
    ∷ (disk_kind (Some kind), "  objective   {v}\n")
    ∷ (disk_kind (Some kind), "  work        {w} trial{x}\n")
    ∷ []

-- ---- a refusal: number 3 has the place of a value, which has a name: a ring's samples, and behind them as many angles
abbrev pub in_samples : Option Kind → ℕ → Bool
in_samples (Some (Ring kind)) place = nat_lt place (samples_of kind)
in_samples _ place = false

abbrev pub is_sample : Refusal → Bool
is_sample r = r.number == 3 && in_samples r.kind r.place

abbrev pub in_angles : Option Kind → ℕ → Bool
in_angles (Some (Ring kind)) place = nat_le (samples_of kind) place && nat_lt place (2 * samples_of kind)
in_angles _ place = false

abbrev pub is_angle : Refusal → Bool
is_angle r = r.number == 3 && in_angles r.kind r.place

abbrev pub is_disk : Refusal → Bool
is_disk r = disk_kind r.kind && r.number == 3

-- the energy, the two base angles, and then the five runs of n values
abbrev pub numbered : ℕ → Part
numbered k =
    cond (k == 0) Energy
    (cond (k == 1) Base0
    (cond (k == 2) Base1
    (cond (k == 3) Xs (cond (k == 4) Ys (cond (k == 5) ValsCentered (cond (k == 6) GradAngles (cond (k == 7) GradWeights Beyond)))))))

unfoldable pub part_of : ℕ → ℕ → Part
part_of n place = cond (nat_lt place 3) (numbered place) (cond (n == 0) Beyond (numbered (3 + (place - 3) / n)))

-- a disk's count is needed for the name, and is known where it is not refused
abbrev pub count_asked : Asks → Due → Option ℕ
count_asked (Askings.Ring kind) due = None
count_asked (Askings.Disk n) Dues.BadCount = None
count_asked (Askings.Disk n) _ = Some n

abbrev pub count_above : Above → Option ℕ
count_above (Aboves.Asked f) = count_asked f.asks f.due
count_above _ = None

abbrev pub part_at : Option ℕ → ℕ → Option Part
part_at (Some n) place = Some (part_of n place)
part_at None place = None

unfoldable pub name_of : Refusal → Above → Option Part
name_of r a = cond (is_disk r) (part_at (count_above a) r.place) None

abbrev pub is_part : Part → Option Part → Bool
is_part Energy (Some Energy) = true
is_part Base0 (Some Base0) = true
is_part Base1 (Some Base1) = true
is_part Xs (Some Xs) = true
is_part Ys (Some Ys) = true
is_part ValsCentered (Some ValsCentered) = true
is_part GradAngles (Some GradAngles) = true
is_part GradWeights (Some GradWeights) = true
is_part Beyond (Some Beyond) = true
is_part _ _ = false

-- the value is known where the frame above is refused for it
abbrev pub is_wild_due : Due → Bool
is_wild_due (Dues.Wild k bits) = true
is_wild_due _ = false

abbrev pub is_above_wild : Above → Bool
is_above_wild (Aboves.Asked f) = is_wild_due f.due
is_above_wild _ = false

abbrev pub is_shown : Refusal → Above → Bool
is_shown r a = is_above_wild a && belongs a r.kind r.number r.place

abbrev pub is_bad : Above → Bool
is_bad (Aboves.Malformed line) = true
is_bad (Aboves.Flawed line) = true
is_bad _ = false

abbrev pub has_stray_place : Refusal → Bool
has_stray_place r = not (r.place == 0) && (r.number == 1 || r.number == 2 || r.number == 5)

-- below what stands above, the value with its name, shown or not
unfoldable pub refusal_rows : Refusal → Above → Option Part → Bool → List (Bool × String)
refusal_rows r a name shown =
    (of_ring Sixteen r.kind, "line {a}: ring refused, number {b}: ")
    ∷ (of_ring TwentyFour r.kind, "line {a}: 24-point ring refused, number {b}: ")
    ∷ (disk_kind r.kind, "line {a}: disk refused, number {b}: ")
    ∷ (is_none r.kind, "line {a}: refused, number {b}: ")
    ∷ ((r.number == 1), "a slice has the wrong length, or the answer buffer is too short\n")
    ∷ ((r.number == 2), "the count of pixels is 0 or over 320\n")
    ∷ ((r.number == 3), "a value is not finite\n")
    ∷ ((r.number == 4), "the search over the disk found nothing\n")
    ∷ ((r.number == 5), "the frame line is malformed\n")
    ∷ (r.number == 2 && disk_kind (kind_above a), "  pixels      {c}\n")
    ∷ (is_sample r, "  value       sample {d}")
    ∷ (is_angle r, "  value       angle {e}")
    ∷ (of_ring Sixteen r.kind && r.number == 3 && nat_lt 31 r.place, "  warning: there is no place {d}: a ring's values are 0 to 31")
    ∷ (of_ring TwentyFour r.kind && r.number == 3 && nat_lt 47 r.place, "  warning: there is no place {d}: a 24-point ring's values are 0 to 47")
    ∷ (is_part Energy name, "  value       val_energy")
    ∷ (is_part Base0 name, "  value       base0")
    ∷ (is_part Base1 name, "  value       base1")
    ∷ (is_part Xs name, "  value       xs[{f}]")
    ∷ (is_part Ys name, "  value       ys[{f}]")
    ∷ (is_part ValsCentered name, "  value       vals_centered[{f}]")
    ∷ (is_part GradAngles name, "  value       grad_angles[{f}]")
    ∷ (is_part GradWeights name, "  value       grad_weights[{f}]")
    ∷ (is_part Beyond name, "  warning: there is no place {d} in a disk of {c} pixel{g}")
    ∷ (is_disk r && is_none name, "  value       {d} (0 is the energy, 1 and 2 the base angles, then xs, ys, vals_centered, ")
    ∷ (is_disk r && is_none name, "grad_angles and grad_weights, as long as there are pixels)")
    ∷ (shown, " is {h} (bits {i})")
    ∷ ((r.number == 3), "\n")
    ∷ ((r.number == 4), "  work        {d} trial{j}\n")
    ∷ (r.number == 5 && is_bad a, "  frame       line {k}; what is wrong stands there\n")
    ∷ (has_stray_place r, "  warning: the place is {d}, and number {b} has the place 0\n")
    ∷ []

abbrev pub refused_rows : Refusal → Above → List (Bool × String)
refused_rows r a = refusal_rows r a (name_of r a) (is_shown r a)

-- ---- a bad line of n characters, of which b is the first that is no digit
abbrev pub foreign_place : List ℕ → Option ℕ
foreign_place l = position (λ b. not (is_hex b)) l

abbrev pub byte_at : List ℕ → Option ℕ → Option ℕ
byte_at l (Some k) = Some (slice_index l k)
byte_at l None = None

abbrev pub foreign_byte : List ℕ → Option ℕ
foreign_byte l = byte_at l (foreign_place l)

-- A to F, and a carriage return
abbrev pub is_upper : Option ℕ → Bool
is_upper (Some b) = nat_le 65 b && nat_le b 70
is_upper None = false

abbrev pub is_return : Option ℕ → Bool
is_return (Some b) = b == 13
is_return None = false

-- what is wrong, by its sentence
abbrev pub is_too_long : Wrong → Bool
is_too_long (Malformed TooLong) = true
is_too_long _ = false

abbrev pub is_foreign : Wrong → Bool
is_foreign (Malformed Foreign) = true
is_foreign _ = false

abbrev pub is_short : Wrong → Bool
is_short (Malformed Short) = true
is_short _ = false

abbrev pub is_unknown_type : Wrong → Bool
is_unknown_type (UnknownType kind) = true
is_unknown_type _ = false

abbrev pub is_ring_length : Wrong → Bool
is_ring_length (Malformed (RingLength Sixteen)) = true
is_ring_length _ = false

abbrev pub is_ring24_length : Wrong → Bool
is_ring24_length (Malformed (RingLength TwentyFour)) = true
is_ring24_length _ = false

abbrev pub is_disk_short : Wrong → Bool
is_disk_short (Malformed DiskShort) = true
is_disk_short _ = false

abbrev pub is_disk_length : Wrong → Bool
is_disk_length (Malformed (DiskLength n)) = true
is_disk_length _ = false

abbrev pub is_answer_length : Wrong → Bool
is_answer_length (AnswerLength kind) = true
is_answer_length _ = false

abbrev pub is_ring_answer_length : Wrong → Bool
is_ring_answer_length (AnswerLength (Some (Ring kind))) = true
is_ring_answer_length _ = false

abbrev pub is_disk_answer_length : Wrong → Bool
is_disk_answer_length (AnswerLength (Some Disk)) = true
is_disk_answer_length _ = false

abbrev pub is_malformed_answer_length : Wrong → Bool
is_malformed_answer_length (AnswerLength None) = true
is_malformed_answer_length _ = false

abbrev pub is_fit_number : Wrong → Bool
is_fit_number (FitNumber number) = true
is_fit_number _ = false

abbrev pub is_no_number : Wrong → Bool
is_no_number (NoNumber number) = true
is_no_number _ = false

abbrev pub is_strange_number : Wrong → Bool
is_strange_number (StrangeNumber kind number) = true
is_strange_number _ = false

-- the type, the count of pixels and the number of refusal that a sentence speaks of; 0 where it speaks of none
abbrev pub type_of : Wrong → ℕ
type_of (UnknownType kind) = kind
type_of (AnswerLength kind) = type_of_kind kind
type_of (StrangeNumber kind number) = type_of_kind kind
type_of _ = 0

abbrev pub pixels_of : Wrong → ℕ
pixels_of (Malformed (DiskLength n)) = n
pixels_of _ = 0

abbrev pub number_told : Wrong → ℕ
number_told (FitNumber number) = number
number_told (NoNumber number) = number
number_told (StrangeNumber kind number) = number
number_told _ = 0

unfoldable pub bad_rows : Wrong → ℕ → Option ℕ → List (Bool × String)
bad_rows w n b =
    (true, "line {a}: bad line: ")
    ∷ (is_too_long w, "over 12830 characters, the most that a frame has\n")
    ∷ (is_foreign w && is_upper b, "upper-case digit at character {b}: the house format is lower-case\n")
    ∷ (is_foreign w && is_return b, "carriage return at character {b}: a line ends in a line feed alone\n")
    ∷ (is_foreign w && not (is_upper b || is_return b), "character {b} is no hexadecimal digit (byte {c})\n")
    ∷ (is_short w && (n == 0), "empty: as a frame it is answered ff050000\n")
    ∷ (is_short w && not (n == 0), "1 character (an odd number): the type alone has 2\n")
    ∷ (is_unknown_type w, "unknown type {d}, {e} character{f}{g}: frames are 01, 02 and 03, answers 81, 82, 83 and ff\n")
    ∷ (is_ring_length w, "a ring frame of {e} character{f}{g} instead of 258\n")
    ∷ (is_ring24_length w, "a 24-point ring frame of {e} character{f}{g} instead of 386\n")
    ∷ (is_disk_short w, "a disk frame of {e} character{f}{g}: it has 30, and 40 for each pixel\n")
    ∷ (is_disk_length w, "a disk frame of {e} character{f}{g} instead of {h} for its {i} pixel{j}\n")
    ∷ (is_answer_length w, "an answer of type {d} with {e} character{f}{g}: ")
    ∷ (is_ring_answer_length w, "a fit has 60, a refusal 8\n")
    ∷ (is_disk_answer_length w, "a fit has 98, a refusal 8\n")
    ∷ (is_malformed_answer_length w, "it has 8\n")
    ∷ (is_fit_number w, "an answer as long as a fit, with the number of refusal {k}: a fit has 0\n")
    ∷ (is_no_number w, "unknown number of refusal {k}: there are 1 to 5\n")
    ∷ (is_strange_number w, "an answer of type {d} with the number of refusal {k}: ")
    ∷ (is_strange_number w, "a ring has 1 and 3, a disk 1 to 4, type ff has 5\n")
    ∷ []

abbrev pub line_rows : Wrong → List ℕ → List (Bool × String)
line_rows w l = bad_rows w (length l) (foreign_byte l)

-- ---- a line l of its sort, below a: first that the frame above has no answer, where this line is none; at the end that this is not its answer
abbrev pub fit_text : List (List ℕ) → Kind → Reading → List ℕ
fit_text ws kind r = telling ws (fit_rows kind r.known) ++ warnings_text r

-- a fit's line l told on the page p, which is q now, whatever the words in the blanks are
pub record Fitted (l : List ℕ) (kind : Kind) (p q : Page) : Type 0 where
  pub words : List (List ℕ)
  pub said : Said p q (fit_text words kind (reading_of l kind))

abbrev pub body_of : List (List ℕ) → List ℕ → Sort → Above → List ℕ
body_of ws l (Asked f) a = []
body_of ws l (Fit kind) a = fit_text ws kind (reading_of l kind)
body_of ws l (Refused r) a = telling ws (refused_rows r a)
body_of ws l (Bad w) a = telling ws (line_rows w l)

-- sentences that are told where it is so
abbrev pub telling_if : Bool → List (List ℕ) → List (Bool × String) → List ℕ
telling_if on ws rows = cond on (telling ws rows) []

abbrev pub explained : List (List ℕ) → List (List ℕ) → List (List ℕ) → List ℕ → Sort → Above → List ℕ
explained us vs ws l s a = telling_if (is_alone s) us (alone_rows a) ++ (body_of vs l s a ++ telling_if (is_strange s a) ws (mismatch_rows a))
