-- The search for a value that is not finite goes on, or ends here. Assumes nothing.
use Rattle.std.specs.Prelude.{◌≡◌, true, false, not, List, Some, None}
use Prim.Native.Nat.{ℕ, suc, ◌+◌, ◌-◌, ◌*◌, ◌<◌}
use native.Mathlib.Omega.{arith}
use Rattle.std.specs.Float.Ieee.Scale.{finite}
use Rattle.hexadecimal.specs.Hex.{value_of}
use Rattle.explain_sorts.specs.Sorts.{wild_word}

module _ (l : List ℕ) (at n k : ℕ) where
  pub wild_on : k < n → not (finite (value_of l (at + 8 * k))) ≡ false → wild_word l at (n - (k + 1)) (k + 1) ≡ wild_word l at (n - k) k
  unfolding wild_word
  wild_on h e = let z : n - k ≡ suc (n - (k + 1)) = omega arith in rw (z, e)

  pub wild_word_here : k < n → not (finite (value_of l (at + 8 * k))) ≡ true → Some k ≡ wild_word l at (n - k) k
  unfolding wild_word
  wild_word_here h e = let z : n - k ≡ suc (n - (k + 1)) = omega arith in rw (z, e)

  pub wild_word_none : n ≡ k → None ≡ wild_word l at (n - k) k
  unfolding wild_word
  wild_word_none e = let z : n - k ≡ 0 = omega arith in rw z
