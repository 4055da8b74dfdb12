-- The nearest whole number s to the root of m is the whole root q, or q + 1: whichever the rounding of the root asks for. Assumes nothing.
use Rattle.std.proofs.Common.{ℕ, suc, ◌+◌, ◌*◌, ◌-◌, ◌^◌, ◌≤◌, ◌<◌, ◌≡◌, refl, ap, subst, ◌∙◌, Bool, true, false, ltb, arith}
use Rattle.std.proofs.Common.{lt_of_lt_of_le, le_of_eq, mul-add, add-mul, mul-le-mul}
use Rattle.std.specs.Float.Ieee.{binary32, units}
use borrow.Author.Tests.{ltb-true, ltb-false}
use Rattle.floats.specs.RootLaws.{root_up, root_stay, suc_square}
use Rattle.floats.specs.Library.{root_units}
use Rattle.roots.proofs.root_even.Goals as goal

-- a number below the next square, in the words of IsRoot
next : (m q : ℕ) → m ≤ q * q + q + q → m < suc q * suc q
next m q h = lt_of_lt_of_le (grown m q h) (le_of_eq (suc_square q))
  where
    grown : (m q : ℕ) → m ≤ q * q + q + q → m < (q + 1) * (q + 1)
    grown m q h = omega (arith, mul-add (q + 1) q 1, add-mul q 1 q)

-- q is the whole root of m if s = q + 1 is the nearest, and above the root
lower : (m s q : ℕ) → s ≡ q + 1 → m < s * s → s * s < m + s → (q * q ≤ m) × (q * q + q < m) × (m ≤ q * q + q + q)
lower m s q e h l =
    let h' : m < (q + 1) * (q + 1) = subst (λ (k : ℕ). m < k * k) e h in
    let l' : (q + 1) * (q + 1) < m + (q + 1) = subst (λ (k : ℕ). k * k < m + k) e l in (
      omega (arith, mul-add (q + 1) q 1, add-mul q 1 q),
      omega (arith, mul-add (q + 1) q 1, add-mul q 1 q),
      omega (arith, mul-add (q + 1) q 1, add-mul q 1 q),
    )

above_zero : (m s : ℕ) → m < s * s → s ≡ (s - 1) + 1
above_zero m s h = go (ltb 0 s) refl
  where
    go : (b : Bool) → ltb 0 s ≡ b → s ≡ (s - 1) + 1
    go true t = omega (arith, ltb-true 0 s t)
    go false t = omega (arith, mul-le-mul (ltb-false 0 s t) (ltb-false 0 s t))

module _ (m s : ℕ) (a : 2 ^ 46 ≤ m) (b : m < 2 ^ 48) (u : m ≤ s * s + s) (l : s * s < m + s) where
  near : (h : ℕ) → h < 200 → units binary32 false s h ≡ root_units binary32 (m * (2 ^ h * 2 ^ h))
  near h k = go (ltb m (s * s)) refl
    where
      go : (t : Bool) → ltb m (s * s) ≡ t → units binary32 false s h ≡ root_units binary32 (m * (2 ^ h * 2 ^ h))
      go false t = root_stay m h s (ltb-false m (s * s) t, next m s (omega arith)) a b k u
      go true t =
          let f : m < s * s = ltb-true m (s * s) t in
          let w = lower m s (s - 1) (above_zero m s f) f l in
          ap (λ (z : ℕ). units binary32 false z h) (above_zero m s f) ∙ root_up m h (s - 1) (w.0, next m (s - 1) w.2) a b k w.1

pub returns : goal.returns
returns c =
    c.assembled.ensures
    ∙ near c.args.m c.nearest_root.result c.requires.bound c.requires.m_bound c.nearest_root.ensures.0 c.nearest_root.ensures.1
    c.args.h c.requires.h_bound
