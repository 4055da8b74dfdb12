-- A fold over a list is the loop over its indices: the first element's turn comes first in both. Assumes nothing.
use Rattle.std.specs.Prelude.{◌≡◌, List, [], ◌∷◌, ℕ, zero, suc, length, get_or}
use Rattle.std.specs.List.{fold}
use Rattle.std.proofs.Math.Path.{refl}
use Rattle.std.proofs.Common.{sym, ap, ◌∙◌}
use Rattle.loops.specs.Loops.{iter}

-- the first turn, and then the others
iter_front : {S : Type 0} (f : ℕ → S → S) (s : S) (n : ℕ) → iter f s (suc n) ≡ iter (λ i. f (suc i)) (f 0 s) n
unfolding iter
iter_front f s zero = refl
iter_front f s (suc n) = ap (f (suc n)) (iter_front f s n)

pub fold_iter : {S A : Type 0} (step : S → A → S) (d : A) (s : S) (xs : List A) → fold step s xs ≡ iter (λ i s. step s (get_or xs i d)) s (length xs)
unfolding iter
fold_iter step d s [] = refl
fold_iter step d s (x ∷ xs) =
    fold_iter step d (step s x) xs ∙ sym (iter_front (λ i s. step s (get_or (x ∷ xs) i d)) s (length xs))
