-- Pivots, exchanges, skipped factors and failure look at the left side alone, and each entry is made of entries in its own column:
-- so a system that a wider one carries is carried by it after every column, and both fail together. Assumes nothing.
use Rattle.std.specs.Prelude.{◌≡◌, Bool, cond, ℕ, zero, suc, ◌+◌, ◌<◌, get_or, drop, set, eqb, Option, Some, None, Float}
use Rattle.std.proofs.Math.Path.{refl, sym, ap}
use Rattle.std.proofs.Common.{◌∙◌, arith}
use Rattle.std.proofs.Math.Bool.{true, false}
use Rattle.std.proofs.lemmas.Bool.{false≢true}
use mathlib.Core.List.{[], ◌∷◌, zip_with, Forall₂}
use Rattle.std.proofs.Math.ListN.{get_or-map}
use Rattle.std.specs.Float.{nan}
use Rattle.std.specs.Float.Ieee.{binary32, add, sub, mul, div, neg, lt, eq, of_bits, round, size}
use Rattle.floats.specs.Ops.{◌⊖◌, ◌⊗◌, ◌⊘◌, lit, nought, one}
use Rattle.floats.specs.Library.{abs}
use Rattle.loops.specs.Loops.{iter, range}
use Rattle.floats.specs.Rows.{Row, at}
use Rattle.floats.specs.NanLaws.{add_nan, mul_nan}
use Rattle.loops.proofs.IterLaws.{iter_related, range_same}
use Rattle.solver_elimination.specs.Solve as S
use Rattle.solver_elimination.specs.Solve.{Matrix, Elim, gone, going}
use Rattle.solver_elimination.specs.Wide.{RowCarried, Carried, widened_row, widened, right_side, eliminated, failed, sides, first_side}

-- ---- one case by its values: column 0 has its pivot in the last row, which holds the second side's 1, and is exchanged with the first
abbrev turned : Matrix
turned = (nought ∷ nought ∷ nought ∷ one ∷ []) ∷ (nought ∷ one ∷ nought ∷ nought ∷ []) ∷ (nought ∷ nought ∷ one ∷ nought ∷ []) ∷
    (lit 0x4000_0000 ∷ nought ∷ nought ∷ nought ∷ []) ∷ []

pub second_side_case : S.column_of 5 (eliminated (widened turned S.unit2 S.unit3)) ≡ Some (lit 0x3f00_0000 ∷ nought ∷ nought ∷ nought ∷ [])
unfolding widened iter range S.larger S.pivot_row S.unusable S.reduced S.cleared S.clear S.top_row S.columned S.stopped zip_with abs add sub mul div
    neg lt eq of_bits round size
second_side_case = refl

-- ---- entries: outside a row all is NaN, and what is made of a NaN is one
pub at_scaled : (r : Row) (f : Float) (j : ℕ) → at (S.scaled r f) j ≡ at r j ⊗ f
unfolding mul
at_scaled r f j = get_or-map (λ v. v ⊗ f) r j nan

at_zip : (f : Float) (r p : Row) (j : ℕ) → at (zip_with (λ rv pv. rv ⊖ f ⊗ pv) r p) j ≡ at r j ⊖ f ⊗ at p j
unfolding zip_with
at_zip f [] p j = unfold sub add in refl
at_zip f (x ∷ r) [] j = unfold sub neg in sym (rw (mul_nan binary32 f) (add_nan binary32 (at (x ∷ r) j)))
at_zip f (x ∷ r) (y ∷ p) zero = refl
at_zip f (x ∷ r) (y ∷ p) (suc j) = at_zip f r p j

pub at_reduced : (r p : Row) (f : Float) (j : ℕ) → at (S.reduced r p f) j ≡ cond (eq f nought) (at r j) (at r j ⊖ f ⊗ at p j)
unfolding S.reduced
at_reduced r p f j = go (eq f nought)
  where
    go : (b : Bool) → at (cond b r (zip_with (λ rv pv. rv ⊖ f ⊗ pv) r p)) j ≡ cond b (at r j) (at r j ⊖ f ⊗ at p j)
    go true = refl
    go false = at_zip f r p j

module _ (c d : ℕ) where
  -- ---- rows
  scaled_carried : (r s : Row) (f : Float) → RowCarried c d r s → RowCarried c d (S.scaled r f) (S.scaled s f)
  scaled_carried r s f w =
      record {
        left = λ j h. at_scaled r f j ∙ ap (λ x. x ⊗ f) (w.left j h) ∙ sym (at_scaled s f j);
        right = at_scaled r f c ∙ ap (λ x. x ⊗ f) w.right ∙ sym (at_scaled s f d);
      }

  reduced_carried : (r s p q : Row) (f : Float) → RowCarried c d r s → RowCarried c d p q → RowCarried c d (S.reduced r p f) (S.reduced s q f)
  reduced_carried r s p q f w v = record { left = λ j h. same j j (w.left j h) (v.left j h); right = same c d w.right v.right }
    where
      same : (i j : ℕ) → at r i ≡ at s j → at p i ≡ at q j → at (S.reduced r p f) i ≡ at (S.reduced s q f) j
      same i j e h = rw (at_reduced r p f i, at_reduced s q f j, e, h)

  cleared_carried :
      (i k : ℕ) (r s p q : Row) → i < 4 → RowCarried c d p q → RowCarried c d r s → RowCarried c d (S.cleared i p k r) (S.cleared i q k s)
  unfolding S.cleared
  cleared_carried i k r s p q h v w = go (eqb k i)
    where
      go : (b : Bool) → RowCarried c d (cond b r (S.reduced r p (at r i))) (cond b s (S.reduced s q (at s i)))
      go true = w
      go false = rw (w.left i h) (reduced_carried r s p q (at s i) w v)

  -- ---- matrices
  row_carried : (m n : Matrix) (k : ℕ) → Carried c d m n → RowCarried c d (get_or m k []) (get_or n k [])
  row_carried [] [] k w = record { left = λ j h. refl; right = refl }
  row_carried [] (s ∷ n) k w = elim w [ ]
  row_carried (r ∷ m) [] k w = elim w [ ]
  row_carried (r ∷ m) (s ∷ n) zero (Forall₂.cons h w) = h
  row_carried (r ∷ m) (s ∷ n) (suc k) (Forall₂.cons h w) = row_carried m n k w

  set_carried : (m n : Matrix) (k : ℕ) (r s : Row) → Carried c d m n → RowCarried c d r s → Carried c d (set m k r) (set n k s)
  set_carried [] [] k r s w v = Forall₂.nil
  set_carried [] (y ∷ n) k r s w v = elim w [ ]
  set_carried (x ∷ m) [] k r s w v = elim w [ ]
  set_carried (x ∷ m) (y ∷ n) zero r s (Forall₂.cons h w) v = Forall₂.cons v w
  set_carried (x ∷ m) (y ∷ n) (suc k) r s (Forall₂.cons h w) v = Forall₂.cons h (set_carried m n k r s w v)

  clear_carried : (m n : Matrix) (i : ℕ) (p q : Row) → i < 4 → Carried c d m n → RowCarried c d p q → Carried c d (S.clear m i p) (S.clear n i q)
  unfolding S.clear
  clear_carried m n i p q h w v =
      iter_related (Carried c d) _ _ m n 4 w
      (λ k x y l z. set_carried x y k _ _ z (cleared_carried i k (get_or x k []) (get_or y k []) p q h v (row_carried x y k z)))

  -- ---- the pivot
  pivot_carried : (m n : Matrix) (i : ℕ) → i < 4 → Carried c d m n → S.pivot_row m i ≡ S.pivot_row n i
  unfolding S.pivot_row S.larger
  pivot_carried m n i h w = range_same _ _ i (i + 1) 4 (λ k a b best. rw ((row_carried m n best w).left i h, (row_carried m n k w).left i h))

  top_carried : (m n : Matrix) (i : ℕ) → i < 4 → Carried c d m n → RowCarried c d (S.top_row m i) (S.top_row n i)
  unfolding S.top_row
  top_carried m n i h w = rw (pivot_carried m n i h w) (row_carried m n (S.pivot_row n i) w)

  stopped_carried : (m n : Matrix) (i : ℕ) → i < 4 → Carried c d m n → S.stopped m i ≡ S.stopped n i
  unfolding S.stopped
  stopped_carried m n i h w = ap S.unusable ((top_carried m n i h w).left i h)

  columned_carried : (m n : Matrix) (i : ℕ) → i < 4 → Carried c d m n → Carried c d (S.columned m i) (S.columned n i)
  unfolding S.columned
  columned_carried m n i h w =
      let t = top_carried m n i h w in
      let row : RowCarried c d (S.scaled (S.top_row m i) (one ⊘ at (S.top_row m i) i)) (S.scaled (S.top_row n i) (one ⊘ at (S.top_row n i) i)) =
      rw (t.left i h) (scaled_carried (S.top_row m i) (S.top_row n i) (one ⊘ at (S.top_row n i) i) t) in
      rw (pivot_carried m n i h w)
      (clear_carried _ _ i _ _ h
      (set_carried _ _ i _ _ (set_carried _ _ (S.pivot_row n i) _ _ (set_carried m n i _ _ w t) (row_carried m n i w)) row) row)

  -- ---- the elimination: both are gone, or the one is carried by the other
  data Together : Elim → Elim → Type 0 where
    both_gone : Together gone gone
    both_going : {m n : Matrix} → Carried c d m n → Together (going m) (going n)

  column_together : (i : ℕ) (x y : Elim) → i < 4 → Together x y → Together (S.column i x) (S.column i y)
  column_together i gone gone h t = both_gone
  column_together i gone (going n) h t = elim t [ ]
  column_together i (going m) gone h t = elim t [ ]
  column_together i (going m) (going n) h (both_going w) = rw (stopped_carried m n i h w) (go (S.stopped n i))
    where
      go : (b : Bool) → Together (cond b gone (going (S.columned m i))) (cond b gone (going (S.columned n i)))
      go true = both_gone
      go false = both_going (columned_carried m n i h w)

  column_of_lem : (x y : Elim) → Together x y → S.column_of c x ≡ S.column_of d y
  column_of_lem gone gone t = refl
  column_of_lem gone (going n) t = elim t [ ]
  column_of_lem (going m) gone t = elim t [ ]
  column_of_lem (going m) (going n) (both_going w) =
      rw ((row_carried m n 0 w).right, (row_carried m n 1 w).right, (row_carried m n 2 w).right, (row_carried m n 3 w).right)

  -- The solution for a right side is what any system gives that has it as a column: of pivots, exchanges and failure both have the same.
  pub eliminated_carried : (m n : Matrix) → Carried c d m n → S.column_of c (eliminated m) ≡ S.column_of d (eliminated n)
  eliminated_carried m n w =
      column_of_lem _ _ (iter_related Together S.column S.column (going m) (going n) 4 (both_going w) (λ i x y h t. column_together i x y h t))

-- ---- both right sides of the code's system
left_same : (r u v : Row) (j : ℕ) → j < 4 → at (at r 0 ∷ at r 1 ∷ at r 2 ∷ at r 3 ∷ u) j ≡ at (at r 0 ∷ at r 1 ∷ at r 2 ∷ at r 3 ∷ v) j
left_same r u v zero h = refl
left_same r u v (suc zero) h = refl
left_same r u v (suc (suc zero)) h = refl
left_same r u v (suc (suc (suc zero))) h = refl
left_same r u v (suc (suc (suc (suc j)))) h = absurd (omega arith)

first_row : (r : Row) (b c : Float) → RowCarried 4 4 (S.augmented_row r b) (widened_row r b c)
first_row r b c = record { left = left_same r (drop 4 (S.augmented_row r b)) (drop 4 (widened_row r b c)); right = refl }

second_row : (r : Row) (b c : Float) → RowCarried 4 5 (S.augmented_row r c) (widened_row r b c)
second_row r b c = record { left = left_same r (drop 4 (S.augmented_row r c)) (drop 4 (widened_row r b c)); right = refl }

four : (R : Row → Row → Type 0) (f g : ℕ → Row) → ((k : ℕ) → R (f k) (g k)) → Forall₂ R (f 0 ∷ f 1 ∷ f 2 ∷ f 3 ∷ []) (g 0 ∷ g 1 ∷ g 2 ∷ g 3 ∷ [])
four R f g h = Forall₂.cons (h 0) (Forall₂.cons (h 1) (Forall₂.cons (h 2) (Forall₂.cons (h 3) Forall₂.nil)))

pub solved_first : (a : Matrix) (b c : Row) → S.solve4x4 a b ≡ S.column_of 4 (eliminated (widened a b c))
unfolding S.solve4x4 S.augmented widened
solved_first a b c =
    eliminated_carried 4 4 (S.augmented a b) (widened a b c)
    (four _ (λ k. S.augmented_row (get_or a k []) (at b k)) (λ k. widened_row (get_or a k []) (at b k) (at c k))
    (λ k. first_row (get_or a k []) (at b k) (at c k)))

pub solved_second : (a : Matrix) (b c : Row) → S.solve4x4 a c ≡ S.column_of 5 (eliminated (widened a b c))
unfolding S.solve4x4 S.augmented widened
solved_second a b c =
    eliminated_carried 4 5 (S.augmented a c) (widened a b c)
    (four _ (λ k. S.augmented_row (get_or a k []) (at c k)) (λ k. widened_row (get_or a k []) (at b k) (at c k))
    (λ k. second_row (get_or a k []) (at b k) (at c k)))

-- whether there is a solution does not depend on the right side
pub fail_together : (a : Matrix) (b c : Row) → failed (S.solve4x4 a b) ≡ failed (S.solve4x4 a c)
fail_together a b c = rw (solved_first a b c, solved_second a b c) (go (eliminated (widened a b c)))
  where
    go : (e : Elim) → failed (S.column_of 4 e) ≡ failed (S.column_of 5 e)
    go gone = refl
    go (going m) = refl

-- ---- what one elimination gives for both
pub sides_by : (a : Matrix) (b c : Row) →
    sides (S.column_of 4 (eliminated (widened a b c))) (S.column_of 5 (eliminated (widened a b c))) ≡ sides (S.solve4x4 a b) (S.solve4x4 a c)
sides_by a b c = rw (solved_first a b c, solved_second a b c)

pub right_listed : (a : Matrix) (b : Row) → S.solve4x4 a (right_side (at b 0) (at b 1) (at b 2) (at b 3)) ≡ S.solve4x4 a b
unfolding S.solve4x4 S.augmented
right_listed a b = refl

pub first_by : (a : Matrix) (b c : Row) → S.solve4x4 a b ≡ first_side (sides (S.solve4x4 a b) (S.solve4x4 a c))
unfolding sides
first_by a b c = go (S.solve4x4 a b) (S.solve4x4 a c) (fail_together a b c)
  where
    go : (s t : Option Row) → failed s ≡ failed t → s ≡ first_side (sides s t)
    go None t e = refl
    go (Some x) None e = absurd (false≢true e)
    go (Some x) (Some y) e = refl
