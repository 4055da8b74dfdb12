-- Storing a table (docs/RULES.md, Refusals): what is refused by number and place, and what the words are afterwards. Definitions only.
use Rattle.std.specs.Prelude.{cond, ℕ, ◌+◌, ◌*◌, length, eqb, ltb, Option, Some, None, Result, Ok, Err}
use Rattle.floats.specs.Rows.{Row}
use Rattle.seed_models.specs.Words.{ring_samples, most_tables, held_in, stored_in}
use Rattle.checked.specs.Checked.{refusal_number, refusal_place, first_wild}
use Rattle.checked.specs.declared.Refusal.{Refusal}
use Rattle.checked.specs.declared.Refusal.TheVariants.{WrongLength, NotFinite, TablesFull}

-- that a table is stored, or why it is not
abbrev pub TableAnswer : Type 0
TableAnswer = Result (Unit {0}) Refusal

-- ---- 1 for a length that is not 16, then 3 for the first angle that is not finite, then 6 where three tables are held
unfoldable pub table_looked : Row → Option ℕ → TableAnswer
table_looked words (Some i) = Err (NotFinite i)
table_looked words None = cond (ltb (held_in words) most_tables) (Ok tt) (Err TablesFull)

unfoldable pub table_refusal : Row → Row → TableAnswer
table_refusal words angles = cond (eqb (length angles) ring_samples) (table_looked words (first_wild angles)) (Err WrongLength)

-- a refused table leaves every word
unfoldable pub words_after : TableAnswer → Row → Row → Row
words_after (Err e) words angles = words
words_after (Ok u) words angles = stored_in words angles

abbrev pub words_with : Row → Row → Row
words_with words angles = words_after (table_refusal words angles) words angles

-- number * 65536 + place, or 0
abbrev pub refusal_code : TableAnswer → ℕ
refusal_code (Err e) = refusal_number e * 65536 + refusal_place e
refusal_code (Ok u) = 0
