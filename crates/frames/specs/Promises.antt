-- What the line call promises, for every line and every lent buffer. `reply_of` is its definition: the contract of `frames::answer_line`
-- says that the number returned and the whole buffer equal it. Assumes nothing.
use Rattle.std.specs.Prelude.{◌≡◌, List, ◌++◌, ℕ, ◌<◌, ◌≤◌, length, drop}
use Rattle.std.proofs.Common.{lt-ltb, le-ltb}
use Rattle.hexadecimal.specs.HexLaws.{put_zero}
use Rattle.frames.specs.Frames.{reply_of, answer_of, text_of, number_of}

-- a buffer under 98 bytes keeps every byte, and the number is 1
pub short_buffer : (line out : List ℕ) → length out < 98 → reply_of line out ≡ record { number = 1; buffer = out }
unfolding reply_of
short_buffer line out h = rw (lt-ltb _ _ h)

-- of any other the answer's text stands in front, and every byte behind it is what it was
pub answer_in_front : (line out : List ℕ) → 98 ≤ length out
    → reply_of line out ≡ record { number = number_of (answer_of line); buffer = text_of (answer_of line) ++ drop (length (text_of (answer_of line))) out }
unfolding reply_of
answer_in_front line out h = rw (le-ltb _ _ h, put_zero out (text_of (answer_of line)))
