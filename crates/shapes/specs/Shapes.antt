-- A frame's shape (docs/RULES.md, Frame lines): its type, length and characters, in the order of the refusals. Definitions only.
use Rattle.std.specs.Prelude.{cond, not, ◌||◌, List, ◌≡◌, ℕ, ◌+◌, ◌*◌, ◌≤◌, length, ltb, eqb}
use Rattle.data.specs.Data.{max_tanh_pixels}
use Rattle.hexadecimal.specs.Hex.{all_hex, byte_of}
use Rattle.shapes.specs.declared.RingKind.{RingKind}
use Rattle.shapes.specs.declared.RingKind.TheVariants.{Sixteen, TwentyFour}
use Rattle.shapes.specs.declared.Kind.{Kind}
use Rattle.shapes.specs.declared.Kind.TheVariants as Kinds
use Rattle.shapes.specs.declared.Fault.TheVariants.{TooLong, Foreign, Short, RingLength, DiskShort, DiskLength}
use Rattle.shapes.specs.declared.Shape.{Shape}
use Rattle.shapes.specs.declared.Shape.TheVariants.{Ring, Disk, BadCount, OtherType, Malformed}

-- the type and 2 words for each of n samples; the type, the count, 3 words and 5 words for each of n pixels
abbrev pub ring_length : ℕ → ℕ
ring_length n = 2 + 16 * n

abbrev pub disk_length : ℕ → ℕ
disk_length n = 30 + 40 * n

-- 12,830 characters
abbrev pub limit : ℕ
limit = disk_length max_tanh_pixels

-- how long the answer of a fit is, a ring's and a disk's
abbrev pub fit_length : Kind → ℕ
fit_length (Kinds.Ring kind) = 60
fit_length Kinds.Disk = 98

-- the samples of a ring: 16 of type 01, 24 of type 03
abbrev pub samples_of : RingKind → ℕ
samples_of Sixteen = 16
samples_of TwentyFour = 24

-- an answer's type is the frame's plus 80
abbrev pub answer_type : RingKind → ℕ
answer_type Sixteen = 0x81
answer_type TwentyFour = 0x83

unfoldable pub ring_shape : List ℕ → RingKind → Shape
ring_shape l kind = cond (eqb (length l) (ring_length (samples_of kind))) (Ring kind) (Malformed (RingLength kind))

-- a count of 0 or of too many is refused before the length is looked at
unfoldable pub counted_shape : ℕ → ℕ → Shape
counted_shape size n = cond (eqb n 0 || ltb max_tanh_pixels n) (BadCount n) (cond (eqb size (disk_length n)) (Disk n) (Malformed (DiskLength n)))

-- the count is the four digits behind the type
unfoldable pub disk_shape : List ℕ → Shape
disk_shape l = cond (ltb (length l) 30) (Malformed DiskShort) (counted_shape (length l) (byte_of l 2 * 256 + byte_of l 4))

unfoldable pub typed_shape : List ℕ → Shape
typed_shape l =
    let kind = byte_of l 0 in
    cond (eqb kind 1) (ring_shape l Sixteen) (cond (eqb kind 3) (ring_shape l TwentyFour) (cond (eqb kind 2) (disk_shape l) (OtherType kind)))

-- too long; a foreign character; under 2 characters; another type; and then by the type
unfoldable pub shape_of : List ℕ → Shape
shape_of l =
    cond (ltb limit (length l)) (Malformed TooLong)
    (cond (not (all_hex l (length l))) (Malformed Foreign)
    (cond (ltb (length l) 2) (Malformed Short) (typed_shape l)))

-- what a reader of the values relies on
abbrev pub ShapeSized : ℕ → Shape → Type 0
ShapeSized size (Ring kind) = size ≡ ring_length (samples_of kind)
ShapeSized size (Disk n) = (n ≤ max_tanh_pixels) × (size ≡ disk_length n)
ShapeSized size (BadCount n) = 0 ≤ size
ShapeSized size (OtherType kind) = 0 ≤ size
ShapeSized size (Malformed fault) = 0 ≤ size
