-- The search for a pivot keeps the largest entry so far in size, and one that is passed over stays no larger than what it keeps: so a pivot that does
-- not stop the elimination is finite and 2 ^ -67 at least, and any other entry of its column is a NaN or no larger. Assumes nothing.
use Rattle.std.specs.Prelude.{◌≡◌, ◌⊎◌, Bool, true, false, not, ◌||◌, cond, ℕ, zero, suc, ◌+◌, ◌-◌, ◌*◌, ◌^◌, ◌≤◌, ◌<◌, negsuc, Float}
use Rattle.std.proofs.Math.Path.{refl, subst}
use Rattle.std.proofs.Common.{sym, ap, ◌∙◌, inl, inr, true≢false, le_refl, le_trans, le_of_eq, le_of_lt, lt_of_not-le, not-le_of_lt, eq-or-lt_of_le}
use Rattle.std.proofs.Common.{ltb→lt, nltb→le, lit≤, pow_mono, le-ltb}
use native.Mathlib.Omega.{arith}
use Rattle.std.proofs.Math.Dec.{T}
use Rattle.std.specs.Float.{nan, inf, fin}
use Rattle.std.specs.Float.Ieee.{binary32, up, down, size, lt, fits, is_nan, of_bits}
use Rattle.std.specs.Float.Ieee.Digits.{size-lt, size-le, size_reaches}
use Rattle.std.specs.Float.Ieee.Scale.{finite}
use Rattle.floats.specs.Ops.{lit}
use Rattle.floats.specs.Library.{abs}
use Rattle.floats.specs.UnitLaws.{Val, lt_val}
use Rattle.floats.specs.RoundingLaws.{counted}
use Rattle.floats.specs.SignLaws.{abs_fits, abs_val}
use Rattle.floats.specs.RankLaws.{rank_of, rank_lt, not_lt→rank, lt_no_nan}
use Rattle.floats.specs.RootOrderLaws.{nan_none}
use Rattle.floats.specs.WithinLaws.{Within}
use Rattle.loops.specs.Loops.{range}
use Rattle.loops.proofs.IterLaws.{range_start, range_next}
use Rattle.solver_elimination.specs.Solve as S
use Rattle.solver_elimination.specs.Solve.{Matrix, entry}

-- ---- comparisons
lt_self : (x : Float) → lt (abs x) (abs x) ≡ false
unfolding lt abs
lt_self nan = refl
lt_self (inf s) = refl
lt_self (fin s m e) = let a = m * up e * down e in le-ltb a a (le_refl a)

-- what is not above x is not above a y that is: a NaN is above neither
passed : (x y z : Float) → T (fits binary32 x) → T (fits binary32 y) → T (fits binary32 z) → T (lt x y) → lt x z ≡ false → lt y z ≡ false
passed x y z p q r h e = go z r e
  where
    number : (z : Float) → T (fits binary32 z) → lt x z ≡ false → T (not (is_nan z)) → lt y z ≡ false
    number z r e n =
        let k = lt_no_nan x y h in
        rank_lt binary32 y z q r k.1 n ∙
        le-ltb (rank_of binary32 y) (rank_of binary32 z)
        (le_trans (not_lt→rank binary32 x z p r k.0 n e)
        (le_of_lt (ltb→lt (rank_of binary32 x) (rank_of binary32 y) (subst T (rank_lt binary32 x y p q k.0 k.1) h))))

    go : (z : Float) → T (fits binary32 z) → lt x z ≡ false → lt y z ≡ false
    go nan r e = nan_none y
    go (inf s) r e = number (inf s) r e (unfold is_nan in tt)
    go (fin s m d) r e = number (fin s m d) r e (unfold is_nan in tt)

-- ---- the search: of the rows i to n - 1, the best is b
pub record Best (m : Matrix) (i n b : ℕ) : Type 0 where
  pub from : i ≤ b
  pub below : b < n
  pub largest : (k : ℕ) → i ≤ k → k < n → lt (abs (entry m b i)) (abs (entry m k i)) ≡ false

module _ (m : Matrix) (i : ℕ) (held : (k : ℕ) → i ≤ k → k < 4 → T (fits binary32 (entry m k i))) where
  best_next : (n b : ℕ) → i ≤ n → n < 4 → Best m i n b → Best m i (n + 1) (S.larger m i n b)
  unfolding S.larger
  best_next n b h l w = go (lt (abs (entry m b i)) (abs (entry m n i))) refl
    where
      fit : (k : ℕ) → i ≤ k → k < 4 → T (fits binary32 (abs (entry m k i)))
      fit k g u = abs_fits binary32 (entry m k i) (held k g u)

      -- the rows up to n are n and those before
      upto : (c : ℕ) → lt (abs (entry m c i)) (abs (entry m n i)) ≡ false →
          ((k : ℕ) → i ≤ k → k < n → lt (abs (entry m c i)) (abs (entry m k i)) ≡ false) →
          (k : ℕ) → i ≤ k → k < n + 1 → lt (abs (entry m c i)) (abs (entry m k i)) ≡ false
      upto c e f k g u =
          let v : k ≤ n = omega (arith, u) in elim (eq-or-lt_of_le v) [
            | inl q ↦ subst (λ (j : ℕ). lt (abs (entry m c i)) (abs (entry m j i)) ≡ false) (sym q) e
            | inr q ↦ f k g q
          ]

      go : (c : Bool) → lt (abs (entry m b i)) (abs (entry m n i)) ≡ c → Best m i (n + 1) (cond c n b)
      go true e =
          let y = w.below in
          record {
            from = h;
            below = omega arith;
            largest = upto n (lt_self (entry m n i)) (λ k g q.
                passed (abs (entry m b i)) (abs (entry m n i)) (abs (entry m k i)) (fit b w.from (omega (arith, y))) (fit n h l)
                (fit k g (omega (arith, q))) (subst T (sym e) tt) (w.largest k g q));
          }
      go false e = let y = w.below in record { from = w.from; below = omega (arith, y); largest = upto b e w.largest }

  best_after_lem : (d : ℕ) → i + 1 + d ≤ 4 → Best m i (i + 1 + d) (range (S.larger m i) i (i + 1) (i + 1 + d))
  best_after_lem zero h =
      let z : i + 1 + 0 ≡ i + 1 = omega arith in
      rw (z, range_start (S.larger m i) i (i + 1)) (record {
        from = le_refl i;
        below = omega arith;
        largest = λ k g u. subst (λ (j : ℕ). lt (abs (entry m i i)) (abs (entry m j i)) ≡ false) (omega (arith, g, u)) (lt_self (entry m i i));
      })
  best_after_lem (suc d) h =
      let z : i + 1 + suc d ≡ i + 1 + d + 1 = omega arith in
      rw (z, range_next (S.larger m i) i (i + 1) (i + 1 + d) (omega arith))
      (best_next (i + 1 + d) (range (S.larger m i) i (i + 1) (i + 1 + d)) (omega arith) (omega arith) (best_after_lem d (omega arith)))

  pub best : i < 4 → Best m i 4 (S.pivot_row m i)
  unfolding S.pivot_row
  best h =
      let z : i + 1 + (3 - i) ≡ 4 = omega arith in
      subst (λ (n : ℕ). Best m i n (range (S.larger m i) i (i + 1) n)) z (best_after_lem (3 - i) (le_of_eq z))

-- ---- a pivot that does not stop: of 2 ^ e units at least, and of no more than twice as many. 1e-20 is above 2 ^ 82 units.
pub record Pivot (p : Float) : Type 0 where
  pub sign : Bool
  pub count : ℕ
  pub val : Val binary32 p sign count
  pub e : ℕ
  pub from : 82 ≤ e
  pub below : e < 277
  pub least : 2 ^ e ≤ count
  pub most : count ≤ 2 ^ suc e

tiny : lit 0x1e3c_e508 ≡ fin false 1547425 (negsuc 86)
unfolding of_bits
tiny = refl

or_false : (a b : Bool) → (a || b) ≡ false → (a ≡ false) × (b ≡ false)
or_false true b h = absurd (true≢false h)
or_false false b h = (refl, h)

not_false : (b : Bool) → not b ≡ false → T b
not_false true e = tt
not_false false e = absurd (true≢false e)

-- a number of digits, as the power of two below
powered : (p : Float) (s : Bool) (c : ℕ) → Val binary32 p s c → 2 ^ 82 ≤ c → c < 2 ^ 277 → Pivot p
powered p s c v h k =
    let z = size c in
    let low : 82 < z = lt_of_not-le (λ (q : z ≤ 82). not-le_of_lt (size-lt c) (le_trans (pow_mono q) h)) in
    let high : z ≤ 277 = size-le c 277 k in
    let n : z ≡ suc (z - 1) = omega (arith, low) in
    record {
      sign = s;
      count = c;
      val = v;
      e = z - 1;
      from = omega (arith, low);
      below = omega (arith, low, high);
      least = size_reaches c (z - 1) (omega (arith, low));
      most = le_of_lt (subst (λ (d : ℕ). c < 2 ^ d) n (size-lt c));
    }

pub usable : (p : Float) → T (fits binary32 p) → S.unusable p ≡ false → Pivot p
unfolding S.unusable
usable p h u =
    let o = or_false (not (finite p)) (lt (abs p) (lit 0x1e3c_e508)) u in
    let k = counted binary32 p h (not_false (finite p) o.0) in
    let l = lt_val binary32 (abs p) (fin false 1547425 (negsuc 86)) false k.count false (1547425 * 2 ^ 62)
    (abs_val binary32 p k.sign k.count k.val) (refl, refl) in
    let g : 1547425 * 2 ^ 62 ≤ k.count =
    nltb→le k.count (1547425 * 2 ^ 62) (subst (λ (b : Bool). T (not b)) (sym o.1 ∙ ap (lt (abs p)) tiny ∙ l) tt) in
    powered p k.sign k.count k.val (le_trans (lit≤ tt) g) k.rep.4

-- ---- what is not above a finite p in size has no more units, or is a NaN
pub no_larger : (p x : Float) (t : Bool) (c : ℕ) → Val binary32 p t c → T (fits binary32 x) → lt (abs p) (abs x) ≡ false → (x ≡ nan) ⊎ Within binary32 c x
no_larger p nan t c v h e = inl refl
no_larger p (inf s) t c v h e = absurd (true≢false (sym (below_inf p v) ∙ e))
  where
    below_inf : (p : Float) → Val binary32 p t c → lt (abs p) (abs (inf s)) ≡ true
    below_inf nan w = absurd w
    below_inf (inf u) w = absurd w
    below_inf (fin u m d) w = unfold lt abs in refl
no_larger p (fin s m d) t c v h e =
    let x = fin s m d in
    let k = counted binary32 x h tt in
    let l = lt_val binary32 (abs p) (abs x) false c false k.count (abs_val binary32 p t c v) (abs_val binary32 x k.sign k.count k.val) in
    inr (record { sign = k.sign; count = k.count; val = k.val; most = nltb→le c k.count (subst (λ (b : Bool). T (not b)) (sym e ∙ l) tt) })
