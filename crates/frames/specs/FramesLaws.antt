-- The lengths of the answers' texts: 60 of a ring's fit, 98 of a disk's and 8 of a refusal. Assumes nothing.
use Rattle.std.specs.Prelude.{◌≡◌, refl, Bool, true, false, List, ◌++◌, ℕ, ◌+◌, ◌≤◌, length}
use Rattle.std.proofs.Common.{ap, ◌∙◌, append_assoc, arith, length-append}
use Rattle.std.specs.Int.{from_bool}
use Rattle.checked.specs.Checked.{flag}
use Rattle.hexadecimal.specs.Hex.{byte_text, count_text, put}
use Rattle.hexadecimal.specs.HexLaws.{words_length, put_put}
use Rattle.shapes.specs.declared.RingKind.{RingKind}
use Rattle.robust_choice.specs.declared.RingFit.{RingFit}
use Rattle.checked.specs.declared.Measured.{Measured}
use Rattle.frames.specs.Frames.{ring_words, ring_text, disk_words, disk_text, refusal_text}

pub ring_length_lem : (kind : RingKind) (r : RingFit) → 60 ≡ length (ring_text kind r)
unfolding ring_text count_text byte_text
ring_length_lem kind r = simp length-append (omega (arith, words_length (ring_words r) 7))

pub disk_length_lem : (m : Measured) → 98 ≡ length (disk_text m)
unfolding disk_text count_text byte_text
disk_length_lem m = simp length-append (omega (arith, words_length (disk_words m) 11))

pub refusal_length : (kind number place : ℕ) → 8 ≡ length (refusal_text kind number place)
unfolding refusal_text count_text byte_text
refusal_length kind number place = refl

-- the four writes of a disk's answer are one
pub four_puts : (l : List ℕ) (at : ℕ) (a b c d : List ℕ) → length a ≡ 4 → length b ≡ 88 → length c ≡ 4 → length d ≡ 2 → at + 98 ≤ length l
    → put (put (put (put l at a) (at + 4) b) (at + 92) c) (at + 96) d ≡ put l at (a ++ (b ++ (c ++ d)))
four_puts l at a b c d la lb lc ld h =
    let p = put_put l at a b (at + 4) (omega arith) (omega arith) in
    let q = put_put l at (a ++ b) c (at + 92) (simp length-append (omega arith)) (omega arith) in
    let r = put_put l at ((a ++ b) ++ c) d (at + 96) (simp length-append (omega arith)) (omega arith) in
    rw (p, q, r) (ap (put l at) (append_assoc (a ++ b) c d ∙ append_assoc a b (c ++ d)))

-- a flag is the number that Rust makes of a bool
pub flag_number : (b : Bool) → from_bool b ≡ flag b
flag_number true = refl
flag_number false = refl
