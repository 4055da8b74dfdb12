-- A loop of stores makes the list of its elements. Assumes nothing.
use mathlib.Core.Path.{◌≡◌}
use Prim.Native.Nat.{◌+◌, ◌*◌}
use lib.ListN.{set}
use Rattle.loops.specs.Loops.{iter}
use Rattle.hexadecimal.proofs.all_at.Given as goal

abbrev pub invariant-loop-k : goal.invariant-loop-k
invariant-loop-k g v = v.out ≡ iter (λ k l. set l k (g.T.Spelt.spelt v.s (v.at + 8 * k))) v.initial.out v.k
