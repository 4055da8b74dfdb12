-- One or two times m * 2 ^ 23, by the parity of j, and half of what is left of j. Assumes nothing.
use Rattle.std.proofs.Common.{ℕ, ◌+◌, ◌*◌, ◌-◌, ◌/◌, ◌%◌, ◌^◌, ◌≤◌, ◌<◌, ◌≡◌, refl, ap, ◌∙◌, Bool, true, false, ltb, arith}
use Rattle.std.proofs.Common.{mul_assoc, mul-one}
use Rattle.std.specs.Float.Ieee.{binary32}
use borrow.Author.Tests.{ltb-true, ltb-false}
use Rattle.floats.specs.RootLaws.{even_split, odd_split}
use Rattle.floats.specs.Library.{root_units}
use Rattle.roots.proofs.root_parts.Goals as goal

same : (a b p q : ℕ) → a ≡ b → p ≡ q → a * (2 ^ (p / 2) * 2 ^ (p / 2)) ≡ b * (2 ^ (q / 2) * 2 ^ (q / 2))
same a b p q e f = ap (λ (z : ℕ). z * (2 ^ (p / 2) * 2 ^ (p / 2))) e ∙ ap (λ (z : ℕ). b * (2 ^ (z / 2) * 2 ^ (z / 2))) f

split : (m j : ℕ) → 24 ≤ j → m * 8388608 * (1 + (1 - j % 2)) * (2 ^ ((j - 23 - (1 - j % 2)) / 2) * 2 ^ ((j - 23 - (1 - j % 2)) / 2)) ≡ m * 2 ^ j
split m j h = go (ltb 0 (j % 2)) refl
  where
    one : (j : ℕ) → j % 2 ≤ 0 → 1 + (1 - j % 2) ≡ 2
    one j l = omega arith

    none : (j : ℕ) → 0 < j % 2 → 1 + (1 - j % 2) ≡ 1
    none j l = omega arith

    even : (j : ℕ) → j % 2 ≤ 0 → j % 2 ≡ 0
    even j l = omega arith

    odd : (j : ℕ) → 0 < j % 2 → j % 2 ≡ 0 → ⊥
    odd j l e = omega arith

    less : (j : ℕ) → j % 2 ≤ 0 → j - 23 - (1 - j % 2) ≡ j - 24
    less j l = omega arith

    still : (j : ℕ) → 0 < j % 2 → j - 23 - (1 - j % 2) ≡ j - 23
    still j l = omega arith

    go : (b : Bool) → ltb 0 (j % 2) ≡ b → m * 8388608 * (1 + (1 - j % 2)) * (2 ^ ((j - 23 - (1 - j % 2)) / 2) * 2 ^ ((j - 23 - (1 - j % 2)) / 2)) ≡ m * 2 ^ j
    go true t =
        let l : 0 < j % 2 = ltb-true 0 (j % 2) t in
        same (m * 8388608 * (1 + (1 - j % 2))) (m * 8388608) (j - 23 - (1 - j % 2)) (j - 23) (ap (λ (z : ℕ). m * 8388608 * z) (none j l) ∙
        mul-one (m * 8388608)) (still j l) ∙ odd_split m j (omega arith) (odd j l)
    go false t =
        let l : j % 2 ≤ 0 = ltb-false 0 (j % 2) t in
        same (m * 8388608 * (1 + (1 - j % 2))) (m * 16777216) (j - 23 - (1 - j % 2)) (j - 24) (ap (λ (z : ℕ). m * 8388608 * z) (one j l) ∙
        mul_assoc m 8388608 2) (less j l) ∙ even_split m j h (even j l)

pub returns : goal.returns
returns c = c.root_even.ensures ∙ ap (root_units binary32) (split c.args.m c.args.j (omega arith))
