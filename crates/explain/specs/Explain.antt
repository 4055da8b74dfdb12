-- What explain does with its input, turn by turn: all that it says but what stands in its sentences' blanks. Definitions only.
use Rattle.std.specs.Prelude.{◌≡◌, ℕ, ◌+◌, ◌%◌, ◌^◌, List}
use Rattle.lines.specs.declared.Found.{Found}
use Rattle.lines.specs.declared.Found.TheVariants.{Line, More, Done}
use Rattle.lines.specs.Lines.{found_of}
use Rattle.lines.specs.declared.State.{State}
use Rattle.lines.specs.Turns.{Answered, Read, Run, closed, line_to, opening}
use Rattle.shapes.specs.Shapes.{limit}
use Rattle.explain_words.specs.declared.Page.{Page}
use Rattle.explain_words.specs.Tell.{Said, telling}
use Rattle.explain_sorts.specs.declared.Above.{Above}
use Rattle.explain_sorts.specs.declared.Above.TheVariants.{Nothing}
use Rattle.explain_sorts.specs.declared.Sort.{Sort}
use Rattle.explain_sorts.specs.Sorts.{sort_of, above_of}
use Rattle.explain_sentences.specs.Sentences.{alone_rows, body_of, explained}
use Rattle.explain.specs.declared.Explaining.{Explaining}

-- ---- a line l of its sort s, below a, on the page p, which is q now
pub record Body (l : List ℕ) (s : Sort) (a : Above) (p q : Page) : Type 0 where
  pub words : List (List ℕ)
  pub said : Said p q (body_of words l s a)

pub record Explained (l : List ℕ) (s : Sort) (a : Above) (p q : Page) : Type 0 where
  pub first : List (List ℕ)
  pub second : List (List ℕ)
  pub third : List (List ℕ)
  pub said : Said p q (explained first second third l s a)

-- ---- a turn from x to y: its input goes from b to c, its text from l to m; lines are counted from 1, modulo 2^64
abbrev pub text_room : ℕ
text_room = 60000

abbrev pub first_state : Explaining
first_state = record { state = opening; above = Nothing; lines = 0 }

abbrev pub line_number : Explaining → ℕ
line_number x = (x.lines + 1) % 2 ^ 64

abbrev pub sort_at : Explaining → List ℕ → ℕ → Sort
sort_at x b e = sort_of (line_to b x.state.feed e) x.state.feed.skip (line_number x)

-- the line up to e is explained, and the next one starts at `from`
pub record Explains (x : Explaining) (b : List ℕ) (e from : ℕ) (l m : List ℕ) (y : Explaining) : Type 0 where
  pub first : List (List ℕ)
  pub second : List (List ℕ)
  pub third : List (List ℕ)
  pub text : Answered text_room x.state from (explained first second third (line_to b x.state.feed e) (sort_at x b e) x.above) l m y.state
  pub above : y.above ≡ above_of (sort_at x b e) (line_number x)
  pub counted : y.lines ≡ line_number x

-- a block is read, and nothing is said
pub record Block (x : Explaining) (b c : List ℕ) (y : Explaining) : Type 0 where
  pub read : Read x.state limit b c y.state
  pub above : y.above ≡ x.above
  pub counted : y.lines ≡ x.lines

-- the end: a frame that stands last has no answer, which is said before the text is written out
pub record End (x : Explaining) (l m : List ℕ) (y : Explaining) : Type 0 where
  pub words : List (List ℕ)
  pub said : State
  pub text : Answered text_room x.state x.state.feed.from (telling words (alone_rows x.above)) l m said
  pub state : y.state ≡ closed said
  pub above : y.above ≡ x.above
  pub counted : y.lines ≡ x.lines

abbrev pub ExplainTurned : Found → Explaining → List ℕ → List ℕ → List ℕ → List ℕ → Explaining → Type 0
ExplainTurned (Line e next) x b c l m y = Explains x b e next l m y × (c ≡ b)
ExplainTurned More x b c l m y = Block x b c y × (m ≡ l)
ExplainTurned Done x b c l m y = End x l m y × (c ≡ b)

pub record ExplainTurn (x : Explaining) (b c l m : List ℕ) (y : Explaining) : Type 0 where
  pub made : ExplainTurned (found_of b x.state.feed) x b c l m y

-- all turns
abbrev pub AllExplained : List ℕ → List ℕ → Explaining → List ℕ → List ℕ → Type 0
AllExplained b l r c m = Run Explaining ExplainTurn (λ x. x.state.more) first_state b l r c m
