-- Loops that count, as functions on their state, and lists by their elements. Definitions only.
use Rattle.std.specs.Prelude.{List, [], ◌∷◌, ◌++◌, ℕ, zero, suc, ◌+◌, ◌-◌}

module _ {ℓ} {S : Type ℓ} where
  -- what the turns 0, 1, .. n - 1 make of the state s; turn i is f i
  unfoldable pub iter : (ℕ → S → S) → S → ℕ → S
  iter f s zero = s
  iter f s (suc n) = f n (iter f s n)

  -- the turns a, a + 1, .. b - 1
  unfoldable pub range : (ℕ → S → S) → S → ℕ → ℕ → S
  unfolding iter
  range f s a b = iter (λ d. f (a + d)) s (b - a)

module _ {A : Type 0} where
  -- f 0, f 1, .. f (n - 1)
  unfoldable pub tab : (ℕ → A) → ℕ → List A
  tab f zero = []
  tab f (suc n) = tab f n ++ (f n ∷ [])
