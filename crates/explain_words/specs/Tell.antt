-- Sentences with blanks: which of them are told, and what stands in a blank. Definitions only.
-- `{a}` in a sentence is the first word, `{b}` the second; every other character stands for itself. A sentence has no bar.
use Rattle.std.specs.Prelude.{ℕ, zero, suc, ◌≡◌, ◌+◌, ◌*◌, ◌%◌, ◌≤◌, Bool, true, false, cond, not, ◌&&◌, ◌||◌, List, [], ◌∷◌, ◌++◌, length, ◌==◌, nat_lt}
use Rattle.std.specs.Prelude.{slice_index, slice_index_or}
use Prim.Native.String.{String}
use Rattle.hexadecimal.specs.Hex.{Written, bytes}
use Rattle.explain_words.specs.declared.Page.{Page}

-- ---- t said on the page p, which is q now: over its text from its place on, and the place is behind it
pub record Said (p q : Page) (t : List ℕ) : Type 0 where
  pub same : q.text.ghost_name ≡ p.text.ghost_name
  pub kept : length q.text.now ≡ length p.text.now
  pub said : Written p.text.now p.at t q.text.now q.at

-- ---- a word has 24 characters, of which control characters are left out: so no word ends a line
abbrev pub letter : ℕ → List ℕ
letter b = cond (nat_lt b 32) [] (b ∷ [])

unfoldable pub spelt : List ℕ → ℕ → List ℕ
spelt w zero = []
spelt w (suc n) = spelt w n ++ letter (slice_index w n)

-- the word of a letter: 97 is `a`
abbrev pub word_at : List (List ℕ) → ℕ → List ℕ
word_at ws c = spelt (slice_index_or ws ((c + 31) % 32) []) 24

-- ---- what a character stands for, behind an opening brace or not: braces and bars are not written
abbrev pub is_mark : ℕ → Bool
is_mark c = c == 123 || c == 125 || c == 124

unfoldable pub piece : List (List ℕ) → Bool → ℕ → List ℕ
piece ws inside c = cond (is_mark c) [] (cond inside (word_at ws c) (c ∷ []))

abbrev pub piece_if : Bool → List (List ℕ) → Bool → ℕ → List ℕ
piece_if on ws inside c = cond on (piece ws inside c) []

unfoldable pub spelled : List (List ℕ) → Bool → List ℕ → List ℕ
spelled ws inside [] = []
spelled ws inside (c ∷ cs) = piece ws inside c ++ spelled ws (c == 123) cs

-- ---- sentences, each with whether it is told
unfoldable pub telling : List (List ℕ) → List (Bool × String) → List ℕ
telling ws [] = []
telling ws ((on, s) ∷ rest) = cond on (spelled ws false (bytes s)) [] ++ telling ws rest

-- ---- the same from one text of sentences, each ended by a bar: the flag of number k says whether sentence k is told
abbrev pub sentence_after : ℕ → ℕ → ℕ
sentence_after k c = cond (c == 124) (k + 1) k

unfoldable pub told : List Bool → List (List ℕ) → ℕ → Bool → List ℕ → List ℕ
told fs ws k inside [] = []
told fs ws k inside (c ∷ cs) = piece_if (slice_index_or fs k false) ws inside c ++ told fs ws (sentence_after k c) (c == 123) cs

pub record Tells (fs : List Bool) (ws : List (List ℕ)) (s : List ℕ) (p q : Page) : Type 0 where
  pub fits : q.at ≤ p.at + 24 * length s
  pub said : Said p q (told fs ws 0 false s)

unfoldable pub flags_of : List (Bool × String) → List Bool
flags_of [] = []
flags_of ((on, s) ∷ rest) = on ∷ flags_of rest

unfoldable pub barred : List (Bool × String) → List ℕ
barred [] = []
barred ((on, s) ∷ rest) = bytes s ++ (124 ∷ barred rest)

-- no sentence has a bar
unfoldable pub barless : List ℕ → Bool
barless [] = true
barless (c ∷ cs) = not (c == 124) && barless cs

unfoldable pub all_barless : List (Bool × String) → Bool
all_barless [] = true
all_barless ((on, s) ∷ rest) = barless (bytes s) && all_barless rest

-- ---- sentences told on the page p, which is q now, whatever the words in their blanks are
pub record Told (rows : List (Bool × String)) (p q : Page) : Type 0 where
  pub words : List (List ℕ)
  pub said : Said p q (telling words rows)
