-- Hexadecimal text: what a slice of characters says, and the characters of a number. Definitions only.
use Rattle.std.specs.Prelude.{Bool, true, false, cond, ◌&&◌, List, [], ◌∷◌, ◌++◌, ◌≡◌, ℕ, zero, suc, ◌+◌, ◌*◌, ◌/◌, ◌%◌, length, get_or, take, drop, ltb, Float}
use Prim.Native.String.{String, len, char_at}
use Prim.Native.Char.{code}
use Rattle.std.specs.Float.{binary32}
use Rattle.std.specs.Float.Ieee.{of_bits}
use Rattle.loops.specs.Loops.{iter, tab}

unfoldable pub is_hex : ℕ → Bool
is_hex b = cond (ltb b 48) false (cond (ltb b 58) true (cond (ltb b 97) false (ltb b 103)))

-- each of the first n characters is a digit
unfoldable pub all_hex : List ℕ → ℕ → Bool
all_hex l n = iter (λ i ok. ok && is_hex (get_or l i 0)) true n

-- the value of a digit; of another character some number below 16
abbrev pub digit_of : ℕ → ℕ
digit_of b = (b % 16 + 9 * (b / 64)) % 16

unfoldable pub byte_of : List ℕ → ℕ → ℕ
byte_of l at = digit_of (get_or l at 0) * 16 + digit_of (get_or l (at + 1) 0)

unfoldable pub word_of : List ℕ → ℕ → ℕ
word_of l at = byte_of l at * 16777216 + byte_of l (at + 2) * 65536 + byte_of l (at + 4) * 256 + byte_of l (at + 6)

-- the words from a place on
unfoldable pub word_list_of : List ℕ → ℕ → ℕ → List ℕ
word_list_of l at n = tab (λ k. word_of l (at + 8 * k)) n

-- the value whose bits a word is, and those from a place on
abbrev pub value_of : List ℕ → ℕ → Float
value_of l at = of_bits binary32 (word_of l at)

unfoldable pub values_of : List ℕ → ℕ → ℕ → List Float
values_of l at n = tab (λ k. value_of l (at + 8 * k)) n

-- the character of a digit, and the text of a byte, of four digits, of a word and of words
abbrev pub hex_of : ℕ → ℕ
hex_of n = cond (ltb n 10) (n + 48) (n + 87)

unfoldable pub byte_text : ℕ → List ℕ
byte_text b = hex_of (b / 16) ∷ hex_of (b % 16) ∷ []

unfoldable pub count_text : ℕ → List ℕ
count_text n = byte_text (n / 256) ++ byte_text (n % 256)

unfoldable pub word_text : ℕ → List ℕ
word_text w = count_text (w / 65536) ++ count_text (w % 65536)

unfoldable pub words_text : List ℕ → ℕ → List ℕ
words_text ws zero = []
words_text ws (suc n) = words_text ws n ++ word_text (get_or ws n 0)

-- xs written over l at the place `at`
unfoldable pub put : List ℕ → ℕ → List ℕ → List ℕ
put l at xs = take at l ++ (xs ++ drop (at + length xs) l)

-- t stands in l, which is m now, at the place `at`, and r is the place behind it
pub record Written (l : List ℕ) (at : ℕ) (t m : List ℕ) (r : ℕ) : Type 0 where
  pub text : m ≡ put l at t
  pub place : r ≡ at + length t

-- the codes of a text of plain characters
unfoldable pub codes : String → ℕ → ℕ → List ℕ
codes s i zero = []
codes s i (suc n) = code (char_at s i) ∷ codes s (i + 1) n

unfoldable pub bytes : String → List ℕ
bytes s = codes s 0 (len s)
