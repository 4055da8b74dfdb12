-- A factor is a NaN, which makes its whole row NaN, or no larger than its pivot, so that a column grows the right side by a factor of 4 at most: the last
-- row, which is not all NaN since its pivot is no NaN, comes out finite. Assumes nothing.
use Rattle.std.specs.Prelude.{◌≡◌, ◌⊎◌, Bool, true, false, not, cond, List, [], pos, T, eqb, length, get_or, set, Option, Some, None, Float}
use Rattle.std.proofs.Math.Path.{refl, ap}
use Rattle.std.proofs.Common.{sym, ◌∙◌, subst, true≢false, le_refl, le_of_lt, eq-or-lt_of_le, arith, T_not, eqb→eq, lit≤, get_or-set_same, pow_mono, ne_eqb}
use Rattle.std.proofs.Math.Logic.{inl, inr}
use Prim.Native.Nat.{ℕ, zero, suc, ◌+◌, ◌-◌, ◌*◌, ◌^◌, ◌≤◌, ◌<◌}
use Rattle.std.proofs.Math.Dec.{eqb_refl}
use Rattle.std.proofs.Math.ListN.{length-set}
use Rattle.std.proofs.Math.Seq.{get_or-set_other}
use Rattle.std.specs.Float.{nan, fin, binary32}
use Rattle.std.specs.Float.Ieee.{lt, eq, mul, sub, neg, fits, of_bits}
use Rattle.std.specs.Float.Ieee.Bits.{is_true, of_bits-fits}
use Rattle.std.specs.Float.Ieee.Fits.{eq→eqb, cond-fits, sub-fits, nan-fits}
use Rattle.std.specs.Float.Ieee.Scale.{finite}
use Rattle.floats.specs.Ops.{◌⊖◌, ◌⊗◌, ◌⊘◌, nought, one}
use Rattle.floats.specs.Library.{abs}
use Rattle.floats.specs.Rows.{Row, at}
use Rattle.floats.specs.UnitLaws.{Val}
use Rattle.floats.specs.NanLaws.{add_nan}
use Rattle.floats.specs.FiniteLaws.{zero32}
use Rattle.floats.specs.WithinLaws.{Within, within_finite, within_more, rep_pow, mul_within, div_within, sub_within}
use Rattle.loops.specs.Loops.{iter}
use Rattle.solver_elimination.specs.Solve as S
use Rattle.solver_elimination.specs.Solve.{Matrix, Elim, gone, going, entry}
use Rattle.solver_elimination.specs.Wide.{failed}
use Rattle.solver_elimination.proofs.WideLaws.{at_scaled, at_reduced}
use Rattle.solver_elimination.specs.PivotLaws.{Best, best, Pivot, usable, no_larger}

-- ---- what a column makes of a right side of at most 2 ^ b units
one_is : one ≡ fin false 1 (pos 0)
unfolding of_bits
one_is = refl

one_within : Within binary32 (2 ^ 149) one
one_within =
    subst (λ (x : Float). Within binary32 (2 ^ 149) x) (sym one_is)
    (record { sign = false; count = 2 ^ 149; val = (refl, refl); most = le_refl (2 ^ 149) })

nought_within : Within binary32 (2 ^ 149) nought
nought_within = subst (λ (x : Float). Within binary32 (2 ^ 149) x) (sym zero32) (record { sign = false; count = 0; val = (refl, refl); most = lit≤ tt })

module _ (p : Float) (w : Pivot p) (b : ℕ) (from : 149 ≤ b) (below : b < 200) where
  scaled_within : (x : Float) → Within binary32 (2 ^ b) x → Within binary32 (2 ^ (b + 149 - w.e)) (x ⊗ (one ⊘ p))
  scaled_within x v =
      let h = w.from in
      let k = w.below in
      mul_within binary32 x (one ⊘ p) b (298 - w.e) (b + 149 - w.e) v
      (div_within binary32 one p 149 w.e (298 - w.e) w.sign w.count one_within w.val w.least (omega (arith, k)) (omega (arith, h)))
      (omega (arith, k, from)) (omega (arith, h, below))

  -- f is no larger than p, which is at most twice its power of two: so the product is within twice the bound
  reduced_within :
      (r f x : Float) → Within binary32 (2 ^ b) r → Within binary32 w.count f → Within binary32 (2 ^ b) x →
      Within binary32 (2 ^ suc (suc b)) (r ⊖ f ⊗ (x ⊗ (one ⊘ p)))
  reduced_within r f x u g v =
      let k = w.below in
      sub_within binary32 r (f ⊗ (x ⊗ (one ⊘ p))) (2 ^ b) (2 ^ suc b) (2 ^ suc (suc b)) u
      (mul_within binary32 f (x ⊗ (one ⊘ p)) (suc w.e) (b + 149 - w.e) (suc b) (within_more (2 ^ suc w.e) w.most g) (scaled_within x v)
      (omega (arith, k, from)) (omega (arith, below)))
      (rep_pow binary32 (suc (suc b)) (omega (arith, below))) (omega arith)

-- ---- rows: of f32s, and all NaN or with a right side of at most 2 ^ b units
abbrev Dead : Row → Type 0
Dead r = (j : ℕ) → at r j ≡ nan

record Good (b : ℕ) (r : Row) : Type 0 where
  held : (j : ℕ) → T (fits binary32 (at r j))
  small : Dead r ⊎ Within binary32 (2 ^ b) (at r 4)

-- a row with a number in it is not all NaN
alive : (b : ℕ) (r : Row) (j : ℕ) (s : Bool) (n : ℕ) → Good b r → Val binary32 (at r j) s n → Within binary32 (2 ^ b) (at r 4)
alive b r j s n g v = elim g.small [ inl d ↦ absurd (subst (λ (y : Float). Val binary32 y s n) (d j) v) | inr w ↦ w ]

spoilt : (x y : Float) → cond (eq nan nought) x (x ⊖ nan ⊗ y) ≡ nan
unfolding eq mul sub neg
spoilt x y = add_nan binary32 x

nan_reduced : (r p : Row) (f : Float) → f ≡ nan → Dead (S.reduced r p f)
nan_reduced r p f e j = rw (at_reduced r p f j, e) (spoilt (at r j) (at p j))

-- the pivot's row, scaled to 1 in column i
abbrev leading : Row → ℕ → Row
leading top i = S.scaled top (one ⊘ at top i)

module _ (b : ℕ) (from : 149 ≤ b) (below : b < 200) (top : Row) (i : ℕ) (w : Pivot (at top i)) (t : Good b top) where
  top_small : Within binary32 (2 ^ b) (at top 4)
  top_small = alive b top i w.sign w.count t w.val

  leading_finite : T (finite (at (leading top i) 4))
  leading_finite =
      rw (at_scaled top (one ⊘ at top i) 4)
      (within_finite (scaled_within (at top i) w b from below (at top 4) top_small))

  small_reduced : (r : Row) → Within binary32 w.count (at r i) → Within binary32 (2 ^ b) (at r 4) →
      Within binary32 (2 ^ suc (suc b)) (at (S.reduced r (leading top i) (at r i)) 4)
  small_reduced r f s = rw (at_reduced r (leading top i) (at r i) 4, at_scaled top (one ⊘ at top i) 4) (go (eq (at r i) nought))
    where
      go : (c : Bool) → Within binary32 (2 ^ suc (suc b)) (cond c (at r 4) (at r 4 ⊖ at r i ⊗ (at top 4 ⊗ (one ⊘ at top i))))
      go true = within_more (2 ^ suc (suc b)) (pow_mono (omega arith)) s
      go false = reduced_within (at top i) w b from below (at r 4) (at r i) (at top 4) s f top_small

  reduced_good : (r : Row) → Good b r → lt (abs (at top i)) (abs (at r i)) ≡ false → Good (suc (suc b)) (S.reduced r (leading top i) (at r i))
  reduced_good r g e = record {
    held = λ j. rw (at_reduced r (leading top i) (at r i) j) (cond-fits binary32 (eq (at r i) nought) _ _ (g.held j) (sub-fits binary32 _ _));
    small = elim (no_larger (at top i) (at r i) w.sign w.count w.val (g.held i) e) [
      | inl n ↦ inl (nan_reduced r (leading top i) (at r i) n)
      | inr f ↦ inr (small_reduced r f (alive b r i f.sign f.count g f.val))
    ];
  }

-- ---- a loop in which turn k changes element k alone
module _ {A : Type 0} (g : ℕ → A → A) (l : List A) (d : A) where
  abbrev each : ℕ → List A
  each = iter (λ k x. set x k (g k (get_or x k d))) l

  record Changed (n : ℕ) (x : List A) : Type 0 where
    len : length x ≡ length l
    done : (k : ℕ) → k < n → k < length l → get_or x k d ≡ g k (get_or l k d)
    rest : (k : ℕ) → n ≤ k → get_or x k d ≡ get_or l k d

  changed : (n : ℕ) → Changed n (each n)
  unfolding iter
  changed zero = record { len = refl; done = λ k h. absurd (omega (arith, h)); rest = λ k h. refl }
  changed (suc n) =
      let c = changed n in
      let x = each n in
      let y = g n (get_or x n d) in record {
        len = length-set x n y ∙ c.len;
        done = λ k h b. let v : k ≤ n = omega (arith, h) in elim (eq-or-lt_of_le v) [
          | inl e ↦ rw e (get_or-set_same x n y d (rw (c.len, ← e) b) ∙ ap (g n) (c.rest n (le_refl n)))
          | inr q ↦ get_or-set_other x n k y d (λ e. omega (arith, q, e)) ∙ c.done k q b
        ];
        rest = λ k h. get_or-set_other x n k y d (λ e. omega (arith, h, e)) ∙ c.rest k (le_of_lt h);
      }

-- ---- a column
-- before column i: a row at i or below has at most 4 ^ i in its right side, or is NaN; and the row above i, the last to be scaled, is finite there
record Kept (i : ℕ) (m : Matrix) : Type 0 where
  len : length m ≡ 4
  rows : (k : ℕ) → i ≤ k → k < 4 → Good (149 + 2 * i) (get_or m k [])
  last : (k : ℕ) → suc k ≡ i → T (finite (entry m k 4))

-- an exchange leaves below row i what stood at i or below it
exchanged : (m : Matrix) (t u : Row) (i b k : ℕ) → length m ≡ 4 → b < 4 → i < k → k < 4 →
    (j : ℕ) × (i ≤ j) × (j < 4) × (get_or (set (set (set m i t) b (get_or m i [])) i u) k [] ≡ get_or m j [])
exchanged m t u i b k len B I K = go (eqb k b) (eqb→eq k b) (λ n e. T_not (eqb k b) n (eq→eqb e))
  where
    r : Row
    r = get_or m i []

    apart : k ≡ i → ⊥
    apart e = omega arith

    upper : get_or (set (set (set m i t) b r) i u) k [] ≡ get_or (set (set m i t) b r) k []
    upper = get_or-set_other (set (set m i t) b r) i k u [] apart

    go : (c : Bool) → (T c → k ≡ b) → (T (not c) → k ≡ b → ⊥) → (j : ℕ) × (i ≤ j) × (j < 4) × (get_or (set (set (set m i t) b r) i u) k [] ≡ get_or m j [])
    go true e n = (i, le_refl i, omega arith, upper ∙ rw (e tt) (get_or-set_same (set m i t) b r [] (rw (length-set m i t, len) B)))
    go false e n = (k, le_of_lt I, K, upper ∙ get_or-set_other (set m i t) b k r [] (n tt) ∙ get_or-set_other m i k t [] apart)

columned_kept : (m : Matrix) (i : ℕ) → i < 4 → Kept i m → S.stopped m i ≡ false → Kept (suc i) (S.columned m i)
unfolding S.columned S.clear S.stopped S.top_row S.cleared
columned_kept m i h w u = record { len = cleared.len ∙ len; rows = rows; last = last }
  where
    b : ℕ
    b = S.pivot_row m i

    top : Row
    top = get_or m b []

    x : Best m i 4 b
    x = best m i (λ k g l. (w.rows k g l).held i) h

    g : Good (149 + 2 * i) top
    g = w.rows b x.from x.below

    p : Pivot (at top i)
    p = usable (at top i) (g.held i) u

    -- the exchange, and what the clearing makes of it
    n : Matrix
    n = set (set (set m i top) b (get_or m i [])) i (leading top i)

    len : length n ≡ 4
    len = simp length-set w.len

    cleared : Changed (S.cleared i (leading top i)) n [] 4 (S.columned m i)
    cleared = changed (S.cleared i (leading top i)) n [] 4

    last : (k : ℕ) → suc k ≡ suc i → T (finite (entry (S.columned m i) k 4))
    last k e =
        let q : k ≡ i = omega (arith, e) in
        rw (
          q,
          cleared.done i h (rw len h),
          is_true (eqb i i) (eqb_refl i),
          get_or-set_same (set (set m i top) b (get_or m i [])) i (leading top i) [] (simp length-set (rw w.len h)),
        )
        (leading_finite (149 + 2 * i) (omega arith) (omega arith) top i p g)

    rows : (k : ℕ) → suc i ≤ k → k < 4 → Good (149 + 2 * suc i) (get_or (S.columned m i) k [])
    rows k a l =
        let (j, J, L, e) = exchanged m top (leading top i) i b k w.len x.below a l in
        let z : 149 + 2 * suc i ≡ suc (suc (149 + 2 * i)) = omega arith in
        rw (z, cleared.done k l (rw len l), ne_eqb k i (λ q. omega (arith, a, q)), e)
        (reduced_good (149 + 2 * i) (omega arith) (omega arith) top i p g (get_or m j []) (w.rows j J L) (x.largest j J L))

-- ---- the elimination: it is gone, or its matrix is kept
data Stays (i : ℕ) : Elim → Type 0 where
  over : Stays i gone
  on : {m : Matrix} → Kept i m → Stays i (going m)

column_stays : (i : ℕ) (e : Elim) → i < 4 → Stays i e → Stays (suc i) (S.column i e)
column_stays i gone h s = over
column_stays i (going m) h (on w) = go (S.stopped m i) refl
  where
    go : (b : Bool) → S.stopped m i ≡ b → Stays (suc i) (cond b gone (going (S.columned m i)))
    go true e = over
    go false e = on (columned_kept m i h w e)

stays : (e : Elim) → Stays 0 e → (n : ℕ) → n ≤ 4 → Stays n (iter S.column e n)
unfolding iter
stays e s zero h = s
stays e s (suc n) h = column_stays n (iter S.column e n) h (stays e s n (omega arith))

-- ---- the right side 0, 0, 0, 1, of which no entry is above 1
unit_row : (r : Row) (b : Float) → ((j : ℕ) → j < 4 → T (fits binary32 (at r j))) → T (fits binary32 b) → Within binary32 (2 ^ 149) b →
    Good 149 (S.augmented_row r b)
unit_row r b h f w = record { held = held; small = inr w }
  where
    held : (j : ℕ) → T (fits binary32 (at (S.augmented_row r b) j))
    held zero = h 0 (lit≤ tt)
    held (suc zero) = h 1 (lit≤ tt)
    held (suc (suc zero)) = h 2 (lit≤ tt)
    held (suc (suc (suc zero))) = h 3 (lit≤ tt)
    held (suc (suc (suc (suc zero)))) = f
    held (suc (suc (suc (suc (suc j))))) = nan-fits binary32

start : (m : Matrix) → ((k j : ℕ) → k < 4 → j < 4 → T (fits binary32 (entry m k j))) → Kept 0 (S.augmented m S.unit3)
unfolding S.augmented
start m h = record { len = refl; rows = λ k g l. rows k l; last = λ k e. absurd (omega (arith, e)) }
  where
    clear_row : (k : ℕ) → k < 4 → Good 149 (S.augmented_row (get_or m k []) nought)
    clear_row k l = unit_row (get_or m k []) nought (λ j g. h k j l g) (of_bits-fits binary32 0) nought_within

    rows : (k : ℕ) → k < 4 → Good 149 (get_or (S.augmented m S.unit3) k [])
    rows zero l = clear_row 0 l
    rows (suc zero) l = clear_row 1 l
    rows (suc (suc zero)) l = clear_row 2 l
    rows (suc (suc (suc zero))) l = unit_row (get_or m 3 []) one (λ j g. h 3 j l g) (of_bits-fits binary32 0x3f80_0000) one_within
    rows (suc (suc (suc (suc k)))) l = absurd (omega arith)

abbrev fourth : Option Row → Float
fourth None = nan
fourth (Some d) = at d 3

-- Whatever the matrix holds, NaN and infinities included: the last entry of its inverse is finite, where it has one.
pub last_entry_finite :
    (m : Matrix) → ((k j : ℕ) → k < 4 → j < 4 → T (fits binary32 (entry m k j))) → (d : Row) →
    S.solve4x4 m S.unit3 ≡ Some d → finite (at d 3) ≡ true
unfolding S.solve4x4
last_entry_finite m h d s =
    let e = going (S.augmented m S.unit3) in
    is_true (finite (at d 3)) (go (iter S.column e 4) (stays e (on (start m h)) 4 (lit≤ tt)) s)
  where
    go : (e : Elim) → Stays 4 e → S.last_column e ≡ Some d → T (finite (at d 3))
    go gone t q = absurd (true≢false (ap failed q))
    go (going n) (on w) q = rw (ap fourth q) at (w.last 3 refl)
