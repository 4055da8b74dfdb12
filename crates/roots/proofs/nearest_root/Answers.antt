-- `roots::nearest_root` meets its contract. The first loop ends since 2 ^ 25 squared is above n; the second keeps n ≤ s * s + s, since it goes down only
-- from an s that is not 0, and each loop's exit is one half of the answer. Assumes nothing.
use Rattle.std.proofs.Common.{ℕ, ◌+◌, ◌*◌, ◌-◌, ◌≤◌, ◌≡◌, refl, subst, Bool, true, false, ltb, arith, mul-le-mul, mul-add, add-mul}
use borrow.Author.Tests.{ltb-true, ltb-false}
use Rattle.roots.proofs.nearest_root.Goals as goal

above_zero : (n s : ℕ) → 1 ≤ n → n + s ≤ s * s → 1 ≤ s
above_zero n s h e = go (ltb 0 s) refl
  where
    go : (b : Bool) → ltb 0 s ≡ b → 1 ≤ s
    go true t = omega (arith, ltb-true 0 s t)
    go false t = omega (arith, mul-le-mul (ltb-false 0 s t) (ltb-false 0 s t))

next : (n s t : ℕ) → s ≡ t + 1 → n + s ≤ s * s → n ≤ t * t + t
next n s t e h =
    let h' : n + (t + 1) ≤ (t + 1) * (t + 1) = subst (λ (k : ℕ). n + k ≤ k * k) e h in
    omega (arith, mul-add (t + 1) t 1, add-mul t 1 t)

pub loop-s-2-preserved : goal.loop-s-2-preserved
loop-s-2-preserved c =
    let s = c.loop-s-2.s in
    let pos : 1 ≤ s = above_zero c.args.n s (omega arith) (omega arith) in
    (omega arith, next c.args.n s (s - 1) (omega arith) (omega arith))
