-- One law for where a loop starts and one for a turn more, in the shape `k + 1` that the code's counter has; and what an early exit leaves. Assumes nothing.
use Rattle.std.specs.Prelude.{◌≡◌, Bool, true, false, cond}
use Rattle.std.proofs.Math.Path.{refl}
use Rattle.std.proofs.Common.{ap, ◌∙◌}
use Prim.Native.Nat.{ℕ, zero, suc, ◌+◌, ◌-◌, ◌≤◌, ◌<◌}
use Rattle.std.proofs.Math.Numerals.{add-one}
use native.Mathlib.Omega.{arith}
use Rattle.loops.specs.Loops.{iter, range}

-- two loops side by side: what every pair of turns keeps of their states, the loops keep
module _ {ℓ κ μ} {S : Type ℓ} {T : Type κ} (R : S → T → Type μ) where
  pub iter_related :
      (f : ℕ → S → S) (g : ℕ → T → T) (s : S) (t : T) (n : ℕ) → R s t →
      ((i : ℕ) (x : S) (y : T) → i < n → R x y → R (f i x) (g i y)) → R (iter f s n) (iter g t n)
  unfolding iter
  iter_related f g s t zero r h = r
  iter_related f g s t (suc n) r h = h n (iter f s n) (iter g t n) (omega arith) (iter_related f g s t n r (λ i x y l q. h i x y (omega arith) q))

-- a loop seen through g, which takes each turn to a turn
pub iter_through {ℓ κ} :
    {S : Type ℓ} {T : Type κ} (g : S → T) (f : ℕ → S → S) (h : ℕ → T → T) (s : S) (n : ℕ) → ((i : ℕ) (x : S) → g (f i x) ≡ h i (g x)) →
    g (iter f s n) ≡ iter h (g s) n
iter_through g f h s n e = iter_related (λ x y. g x ≡ y) f h s (g s) n refl (λ i x y l q. e i x ∙ ap (h i) q)

module _ {ℓ} {S : Type ℓ} where
  pub iter_zero : (f : ℕ → S → S) (s : S) → iter f s 0 ≡ s
  unfolding iter
  iter_zero f s = refl

  pub iter_next : (f : ℕ → S → S) (s : S) (n : ℕ) → iter f s (n + 1) ≡ f n (iter f s n)
  unfolding iter
  iter_next f s n = rw add-one

  -- a state that no turn changes stays: what a loop's early exit leaves
  pub iter_stuck : (f : ℕ → S → S) (s x : S) (n d : ℕ) → ((i : ℕ) → f i x ≡ x) → iter f s n ≡ x → iter f s (n + d) ≡ x
  iter_stuck f s x n zero h e = let z : n + 0 ≡ n = omega arith in rw z e
  iter_stuck f s x n (suc d) h e =
      let z : n + suc d ≡ (n + d) + 1 = omega arith in
      rw (z, iter_next, iter_stuck f s x n d h e) (h (n + d))

  pub range_start : (f : ℕ → S → S) (s : S) (a : ℕ) → range f s a a ≡ s
  unfolding range
  range_start f s a = let z : a - a ≡ 0 = omega arith in rw (z, iter_zero)

  pub range_next : (f : ℕ → S → S) (s : S) (a k : ℕ) → a ≤ k → range f s a (k + 1) ≡ f k (range f s a k)
  unfolding range
  range_next f s a k h =
      let z : (k + 1) - a ≡ (k - a) + 1 = omega arith in
      let y : a + (k - a) ≡ k = omega arith in
      rw (z, iter_next, y)

  -- A turn more, for a loop's `again`: from the state s to the state t. The step's own equation is proved apart from the loop's.
  pub iter_more : (f : ℕ → S → S) (s₀ s t : S) (k : ℕ) → s ≡ iter f s₀ k → t ≡ f k s → t ≡ iter f s₀ (k + 1)
  iter_more f s₀ s t k e h = rw (iter_next, ← e) h

  pub range_more : (f : ℕ → S → S) (s₀ s t : S) (a k : ℕ) → a ≤ k → s ≡ range f s₀ a k → t ≡ f k s → t ≡ range f s₀ a (k + 1)
  range_more f s₀ s t a k l e h = rw (range_next, ← e) h

  -- a test that came out: for `sym (pick_true .. ∙ pick_false ..)` where `rw` would also reach into a record's field
  pub pick_true : {b : Bool} (x y : S) → b ≡ true → cond b x y ≡ x
  pick_true x y e = rw e

  pub pick_false : {b : Bool} (x y : S) → b ≡ false → cond b x y ≡ y
  pick_false x y e = rw e

  -- turns that agree below n make the same of a state
  pub iter_same : (f g : ℕ → S → S) (s : S) (n : ℕ) → ((i : ℕ) → i < n → (x : S) → f i x ≡ g i x) → iter f s n ≡ iter g s n
  iter_same f g s n h = iter_related ◌≡◌ f g s s n refl (λ i x y l q. ap (f i) q ∙ h i l y)

  -- what every turn keeps that knows its index, the loop keeps
  pub iter_keeps_below :
      (P : S → Type 0) (f : ℕ → S → S) (s : S) (n : ℕ) → P s → ((i : ℕ) (x : S) → i < n → P x → P (f i x)) → P (iter f s n)
  iter_keeps_below P f s n p h = iter_related (λ x y. P x) f f s s n p (λ i x y l q. h i x l q)

  pub range_keeps_below :
      (P : S → Type 0) (f : ℕ → S → S) (s : S) (a b : ℕ) → P s → ((i : ℕ) (x : S) → i < b → P x → P (f i x)) → P (range f s a b)
  unfolding range
  range_keeps_below P f s a b p h = iter_keeps_below P (λ d. f (a + d)) s (b - a) p (λ i x l q. h (a + i) x (omega arith) q)

  -- what every turn keeps, the loop keeps
  pub iter_keeps : (P : S → Type 0) (f : ℕ → S → S) (s : S) (n : ℕ) → P s → ((i : ℕ) (x : S) → P x → P (f i x)) → P (iter f s n)
  iter_keeps P f s n p h = iter_keeps_below P f s n p (λ i x l q. h i x q)

  pub range_keeps : (P : S → Type 0) (f : ℕ → S → S) (s : S) (a b : ℕ) → P s → ((i : ℕ) (x : S) → P x → P (f i x)) → P (range f s a b)
  range_keeps P f s a b p h = range_keeps_below P f s a b p (λ i x l q. h i x q)

  -- turns at the end that change nothing
  pub iter_idle : (f : ℕ → S → S) (s : S) (n d : ℕ) → ((i : ℕ) → n ≤ i → (x : S) → f i x ≡ x) → iter f s (n + d) ≡ iter f s n
  iter_idle f s n zero h = let z : n + 0 ≡ n = omega arith in rw z
  iter_idle f s n (suc d) h =
      let z : n + suc d ≡ (n + d) + 1 = omega arith in
      rw (z, iter_next) (h (n + d) (omega arith) (iter f s (n + d)) ∙ iter_idle f s n d h)

  -- turns that agree where they are made
  pub range_same : (f g : ℕ → S → S) (s : S) (a c : ℕ) → ((i : ℕ) → a ≤ i → i < c → (x : S) → f i x ≡ g i x) → range f s a c ≡ range g s a c
  unfolding range
  range_same f g s a c h = iter_same (λ d. f (a + d)) (λ d. g (a + d)) s (c - a) (λ d l x. h (a + d) (omega arith) (omega arith) x)
