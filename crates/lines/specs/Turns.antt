-- The turns of a program that answers line by line: what each leaves of its input, its text and its place. Definitions only.
use Rattle.std.specs.Prelude.{Bool, true, false, cond, ◌≡◌, List, ℕ, ◌+◌, ◌-◌, ◌≤◌, length, take, drop, leb}
use Rattle.hexadecimal.specs.Hex.{put}
use Rattle.lines.specs.declared.Feed.{Feed}
use Rattle.lines.specs.declared.Found.{Found}
use Rattle.lines.specs.declared.Found.TheVariants.{Line, More, Done}
use Rattle.lines.specs.declared.State.{State}
use Rattle.lines.specs.Lines.{Filled, begun, passed}

-- the place for `need` bytes in a text of `size`: the same where there is room, and else the start, once the text is written out
abbrev pub room_of : ℕ → ℕ → ℕ → ℕ
room_of at need size = cond (leb (at + need) size) at 0

-- the sizes of a program's buffers; what holds of its state from turn to turn; where a line lies that ends at e, before the next at `from`
abbrev pub input : ℕ
input = 81920

abbrev pub output : ℕ
output = 65536

abbrev pub StateKept : State → Type 0
StateKept s = (s.feed.from ≤ s.feed.total) × (s.feed.total ≤ input) × (s.put ≤ output)

abbrev pub Lies : State → ℕ → ℕ → Type 0
Lies s e from = (s.feed.from ≤ e) × (e ≤ from) × (from ≤ s.feed.total)

abbrev pub opening : State
opening = record { feed = begun; put = 0; more = true }

abbrev pub answered_of : State → ℕ → ℕ → State
answered_of s from at = record { feed = passed s.feed from; put = at; more = true }

abbrev pub closed : State → State
closed s = record { feed = s.feed; put = 0; more = false }

-- a block came into the buffer b, which is c now, and the text is written out
pub record Read (s : State) (limit : ℕ) (b c : List ℕ) (r : State) : Type 0 where
  pub block : Filled s.feed limit b c r.feed
  pub written : r.put ≡ 0
  pub goes_on : r.more ≡ true

-- a line was answered by t: of the text l, which is m now, t stands at the place that `room` gives, and the state is past the line and past t
pub record Answered (need : ℕ) (s : State) (from : ℕ) (t : List ℕ) (l m : List ℕ) (r : State) : Type 0 where
  pub text : m ≡ put l (room_of s.put need (length l)) t
  pub state : r ≡ answered_of s from (room_of s.put need (length l) + length t)

-- the line of the buffer b that ends at e
abbrev pub line_to : List ℕ → Feed → ℕ → List ℕ
line_to b f e = take (e - f.from) (drop f.from b)

-- a turn that finds `found`, of a program that answers the line up to e by `text e`, each answer in at most `need` bytes
abbrev pub Turned : ℕ → ℕ → (ℕ → List ℕ) → Found → State → List ℕ → List ℕ → List ℕ → List ℕ → State → Type 0
Turned need limit text (Line e next) s b c l m r = Answered need s next (text e) l m r × (c ≡ b)
Turned need limit text More s b c l m r = Read s limit b c r × (m ≡ l)
Turned need limit text Done s b c l m r = (r ≡ closed s) × (m ≡ l) × (c ≡ b)

-- ---- a run of a program with states S: `Turn s b c l m r` is a turn from s to r, in which the buffer goes from b to c and the text from l to m
pub data Turns (S : Type 0) (Turn : S → List ℕ → List ℕ → List ℕ → List ℕ → S → Type 0)
    : ℕ → S → List ℕ → List ℕ → S → List ℕ → List ℕ → Type 0 where
  none : {s : S} {b l : List ℕ} → Turns S Turn 0 s b l s b l
  then : {n : ℕ} {s t r : S} {b c d l m o : List ℕ} → Turns S Turn n s b l t c m → Turn t c d m o r → Turns S Turn (n + 1) s b l r d o

-- it ends where there is nothing more to do, or after 2^64 - 1 turns
abbrev pub most_turns : ℕ
most_turns = 18_446_744_073_709_551_615

pub record Run (S : Type 0) (Turn : S → List ℕ → List ℕ → List ℕ → List ℕ → S → Type 0) (more : S → Bool)
    (s : S) (b l : List ℕ) (r : S) (c m : List ℕ) : Type 0 where
  pub number : ℕ
  pub turns : Turns S Turn number s b l r c m
  pub ends : more r ≡ true → number ≡ most_turns
