-- What fitlines does with its input, turn by turn. Definitions only.
use Rattle.std.specs.Prelude.{List, ℕ}
use Rattle.lines.specs.declared.State.{State}
use Rattle.lines.specs.Lines.{found_of}
use Rattle.lines.specs.Turns.{Run, Turned, line_to, opening}
use Rattle.shapes.specs.Shapes.{limit}
use Rattle.frames.specs.Frames as F

-- the answer to the line up to e of the buffer b, in at most 99 bytes
abbrev pub answer : State → List ℕ → ℕ → List ℕ
answer s b e = F.line_text s.feed.skip (line_to b s.feed e)

-- a turn from the state s to r: its input goes from b to c, its text from l to m
pub record Turn (s : State) (b c l m : List ℕ) (r : State) : Type 0 where
  pub made : Turned 99 limit (answer s b) (found_of b s.feed) s b c l m r

-- all turns
abbrev pub Served : List ℕ → List ℕ → State → List ℕ → List ℕ → Type 0
Served b l r c m = Run State Turn (λ s. s.more) opening b l r c m
