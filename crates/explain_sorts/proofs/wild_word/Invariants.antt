-- The loop looks forward: from here on the search gives what it gives from the start. Assumes nothing.
use Rattle.explain_sorts.specs.Sorts.{wild_word}
use mathlib.Core.Path.{◌≡◌}
use Prim.Native.Nat.{◌-◌}
use Rattle.explain_sorts.proofs.wild_word.Given as goal

abbrev pub invariant-loop-k : goal.invariant-loop-k
invariant-loop-k l = wild_word l.line l.at (l.n - l.k) l.k ≡ wild_word l.line l.at l.n 0
