-- The first slot that has theta, or else the one to fill, as in the definition. Assumes nothing.
use mathlib.Core.Path.{◌≡◌}
use Prim.Native.Nat.{ℕ, ◌≤◌, ◌<◌}
use Rattle.std.specs.Prelude.{false}
use Rattle.search_rows.specs.Rows.{key_at, is_same}
use Rattle.search_rows.proofs.slot_of.Given as goal

abbrev pub invariant-loop-q : goal.invariant-loop-q
invariant-loop-q l = (j : ℕ) → l.from ≤ j → j < l.q → is_same (key_at l.slots j) l.theta ≡ false
