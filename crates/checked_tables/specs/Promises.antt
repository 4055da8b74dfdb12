-- What storing a table and fitting with tables promise, for all words that a caller's memory may hold. That a ring's answer keeps to the bill, the axes, the
-- errors, known, the mean and the residual is promised in crates/checked/specs/Promises.antt for all tables: `words_held` of seed_models says that whatever
-- the words are, the tables that are read from them are such as is asked there; `fresh_tables` that words made fresh hold none. Assumes nothing.
use Rattle.std.specs.Prelude.{Option, Some, None, Ok, Err}
use Rattle.std.specs.Prelude.{◌≡◌, Bool, cond, ◌&&◌, List, [], ◌∷◌, ◌++◌, ◌⊎◌, length}
use Rattle.std.proofs.Math.Path.{refl}
use Rattle.std.proofs.Common.{sym, ap, ◌∙◌, inl, inr, eq-or-lt_of_le, le_of_suc-le-suc, eqb-true, ltb-true, ltb-false}
use Rattle.std.proofs.Math.Bool.{true, false, true≢false}
use Prim.Native.Nat.{ℕ, zero, suc, ◌+◌, ◌≤◌, ◌<◌}
use native.Mathlib.Omega.{arith}
use Rattle.std.proofs.Math.Dec.{eqb, ltb}
use Rattle.floats.specs.Rows.{Row, at}
use Rattle.loops.specs.Loops.{iter}
use Rattle.seed_models.specs.Models.{Table, table_of, table_at, angle_near, is_ring_phi, first_from, first_table}
use Rattle.seed_models.specs.Words.{ring_samples, state_size, most_tables, held_in, table_part, tables_in}
use Rattle.seed_models.specs.WordLaws.{stored_keeps, stored_tables}
use Rattle.robust.specs.Robust.{robust_grid_fit, grid_seed, ring}
use Rattle.robust.specs.Record.{record_ring}
use Rattle.checked.specs.declared.Refusal.TheVariants.{WrongLength, NotFinite, TablesFull}
use Rattle.checked.specs.Checked.{RingAnswer, first_wild, ring_inputs, ring_sized, ring_looked, checked_ring}
use Rattle.checked_tables.specs.Tables.{TableAnswer, table_looked, table_refusal, words_after, words_with, refusal_code}
use Rattle.checked.specs.CheckedLaws.{IsFirstWild, wild_first, clean_finite}
use Rattle.checked.specs.Promises.{AllFinite}
use Rattle.std.proofs.lemmas.Bool.{eqb-false}

-- ---- storing
module _ (words angles : Row) where
  abbrev refusal : TableAnswer
  refusal = table_refusal words angles

  -- exactly when each answer is given: 1 for another length than 16; 3 with 16 angles for one that is not finite, at the first such place; 6 with 16 finite
  -- angles where three tables are held; and nothing where they are not
  pub data TableCase (r : TableAnswer) : Type 0 where
    wrong_angles : (length angles ≡ ring_samples → ⊥) → r ≡ Err WrongLength → TableCase r
    wild_angle : (p : ℕ) → length angles ≡ ring_samples → IsFirstWild angles p → r ≡ Err (NotFinite p) → TableCase r
    no_room : length angles ≡ ring_samples → AllFinite angles → most_tables ≤ held_in words → r ≡ Err TablesFull → TableCase r
    stored : length angles ≡ ring_samples → AllFinite angles → held_in words < most_tables → r ≡ Ok tt → TableCase r

  -- by a look at the angles that gives number 3 for a place and else asks for room
  cases_of :
      (look : Option ℕ → TableAnswer) → ((i : ℕ) → look (Some i) ≡ Err (NotFinite i)) →
      look None ≡ cond (ltb (held_in words) most_tables) (Ok tt) (Err TablesFull) →
      TableCase (cond (eqb (length angles) ring_samples) (look (first_wild angles)) (Err WrongLength))
  cases_of look at clean = go (eqb (length angles) ring_samples) refl (first_wild angles) refl (ltb (held_in words) most_tables) refl
    where
      go : (x : Bool) → eqb (length angles) ring_samples ≡ x → (w : Option ℕ) → first_wild angles ≡ w → (y : Bool) → ltb (held_in words) most_tables ≡ y
          → TableCase (cond x (look w) (Err WrongLength))
      go false p w e y q = wrong_angles (eqb-false _ _ p) refl
      go true p (Some i) e y q = wild_angle i (eqb-true _ _ p) (wild_first angles i e) (at i)
      go true p None e true q = stored (eqb-true _ _ p) (clean_finite angles e) (ltb-true _ _ q) (rw (clean, q) refl)
      go true p None e false q = no_room (eqb-true _ _ p) (clean_finite angles e) (ltb-false _ _ q) (rw (clean, q) refl)

  pub table_cases : TableCase refusal
  unfolding table_refusal table_looked
  table_cases = cases_of (table_looked words) (λ i. refl) refl

  -- a refused table changes no word
  pub refused_changes_nothing : (refusal_code refusal ≡ 0 → ⊥) → words_with words angles ≡ words
  refused_changes_nothing h = go refusal h
    where
      go : (r : TableAnswer) → (refusal_code r ≡ 0 → ⊥) → words_after r words angles ≡ words
      go (Err e) h = unfold words_after in refl
      go (Ok u) h = absurd (h refl)

  module _ (sized : length words ≡ state_size) where
    -- tables that are held stay word for word, refused or not
    pub tables_kept : (i : ℕ) → i < held_in words → table_part (words_with words angles) i ≡ table_part words i
    unfolding words_after table_refusal table_looked
    tables_kept i h = go (cases_of (table_looked words) (λ j. refl) refl)
      where
        go : TableCase refusal → table_part (words_with words angles) i ≡ table_part words i
        go (wrong_angles l e) = rw e refl
        go (wild_angle p l f e) = rw e refl
        go (no_room l f k e) = rw e refl
        go (stored l f k e) = rw e (stored_keeps words angles sized l k i h)

    -- a table that is not refused stands behind those that are held
    pub table_stored : refusal_code refusal ≡ 0 → tables_in (words_with words angles) ≡ tables_in words ++ (table_of ring_samples angles ∷ [])
    unfolding words_after table_refusal table_looked
    table_stored z = go (cases_of (table_looked words) (λ i. refl) refl)
      where
        no : {A : Type 0} (m : ℕ) → refusal_code refusal ≡ suc m → A
        no m e = absurd (never (sym e ∙ z))
          where
            never : suc m ≡ 0 → ⊥
            never e = omega arith

        go : TableCase refusal → tables_in (words_with words angles) ≡ tables_in words ++ (table_of ring_samples angles ∷ [])
        go (stored l f k e) = rw e (stored_tables words angles sized l k)
        go (wrong_angles l e) = no 65535 (rw e refl)
        go (wild_angle p l f e) = no (196607 + p) (rw e (omega arith))
        go (no_room l f k e) = no 393215 (rw e refl)

-- ---- fitting
-- all angles are near those of a table, or one is not
all_near : (n : ℕ) (ring_phi expected : Row) → is_ring_phi n ring_phi expected ≡ true → (i : ℕ) → i < n → angle_near (at ring_phi i) (at expected i) ≡ true
unfolding is_ring_phi iter
all_near zero ring_phi expected e i h = absurd (none h)
  where
    none : i < 0 → ⊥
    none h = omega arith
all_near (suc n) ring_phi expected e i h =
    go (is_ring_phi n ring_phi expected) (angle_near (at ring_phi n) (at expected n)) refl refl e
    (all_near n ring_phi expected) (eq-or-lt_of_le (le_of_suc-le-suc h))
  where
    go : (a b : Bool) → is_ring_phi n ring_phi expected ≡ a → angle_near (at ring_phi n) (at expected n) ≡ b → a && b ≡ true
        → (is_ring_phi n ring_phi expected ≡ true → (i : ℕ) → i < n → angle_near (at ring_phi i) (at expected i) ≡ true) → (i ≡ n) ⊎ (i < n)
        → angle_near (at ring_phi i) (at expected i) ≡ true
    go true true p q r before (inl s) = rw s q
    go true true p q r before (inr l) = before p i l
    go true false p q r before s = absurd (true≢false (sym r))
    go false b p q r before s = absurd (true≢false (sym r))

near_all : (n : ℕ) (ring_phi expected : Row) → ((i : ℕ) → i < n → angle_near (at ring_phi i) (at expected i) ≡ true) → is_ring_phi n ring_phi expected ≡ true
unfolding is_ring_phi iter
near_all zero ring_phi expected h = refl
near_all (suc n) ring_phi expected h = rw (near_all n ring_phi expected (λ i l. h i (omega arith)), h n (omega arith)) refl

-- of a search from i up to k: the first that passes
abbrev FirstOf : (ℕ → Bool) → ℕ → ℕ → Option ℕ → Type 0
FirstOf p i k (Some t) = (p t ≡ true) × (t < k) × ((s : ℕ) → i ≤ s → s < t → p s ≡ false)
FirstOf p i k None = (s : ℕ) → i ≤ s → s < k → p s ≡ false

first_says : (p : ℕ → Bool) (left i : ℕ) → FirstOf p i (i + left) (first_from p left i)
unfolding first_from
first_says p zero i = λ s h l. absurd (none s h l)
  where
    none : (s : ℕ) → i ≤ s → s < i + 0 → ⊥
    none s h l = omega arith
first_says p (suc left) i = go (p i) refl (first_from p left (i + 1)) (first_says p left (i + 1))
  where
    here : (s : ℕ) → p i ≡ false → (i + 1 ≤ s → p s ≡ false) → i ≤ s → p s ≡ false
    here s e later h = split (eq-or-lt_of_le h)
      where
        split : (i ≡ s) ⊎ (i < s) → p s ≡ false
        split (inl q) = rw (← q) e
        split (inr l) = later (omega arith)

    go : (b : Bool) → p i ≡ b → (w : Option ℕ) → FirstOf p (i + 1) (i + 1 + left) w → FirstOf p i (i + suc left) (cond b (Some i) w)
    go true e w h = (e, omega arith, λ s l m. absurd (never s l m))
      where
        never : (s : ℕ) → i ≤ s → s < i → ⊥
        never s l m = omega arith
    go false e (Some t) h = (h.0, omega (arith, h.1), λ s l m. here s e (λ k. h.2 s k m) l)
    go false e None h = λ s l m. here s e (λ k. h s k (omega arith)) l

-- the table that is used is the first of those that are held whose angles are all within 1e-6 of the ring's; where none is used each has an angle that is not
module _ (tables : List Table) (angles : Row) where
  abbrev is_near_to : ℕ → Bool
  is_near_to t = is_ring_phi ring_samples angles (table_at tables t).angles

  abbrev NearTo : ℕ → Type 0
  NearTo t = (i : ℕ) → i < ring_samples → angle_near (at angles i) (at (table_at tables t).angles i) ≡ true

  abbrev pub Used : Option ℕ → Type 0
  Used (Some t) = (t < length tables) × NearTo t × ((s : ℕ) → s < t → NearTo s → ⊥)
  Used None = (s : ℕ) → s < length tables → NearTo s → ⊥

  pub table_used : Used (first_table ring_samples tables angles)
  unfolding first_table
  table_used = go (first_from is_near_to (length tables) 0) (first_says is_near_to (length tables) 0)
    where
      far : (s : ℕ) → is_near_to s ≡ false → NearTo s → ⊥
      far s e h = true≢false (sym (near_all ring_samples angles _ h) ∙ e)

      go : (w : Option ℕ) → FirstOf is_near_to 0 (0 + length tables) w → Used w
      go (Some t) h = (omega (arith, h.1), all_near ring_samples angles _ h.0, λ s l. far s (h.2 s (omega arith) l))
      go None h = λ s l. far s (h s (omega arith) (omega arith))

record_direct : (tables : List Table) (n : ℕ) (samples angles : Row) → first_table n tables angles ≡ None
    → record_ring tables n samples angles ≡ record_ring [] n samples angles
unfolding record_ring ring robust_grid_fit grid_seed first_table first_from
record_direct tables n samples angles e = rw e refl

-- where no table is near, and so where none is held, the answer is that of the direct way
pub direct_without : (tables : List Table) (n : ℕ) (samples angles : Row) → first_table n tables angles ≡ None
    → checked_ring tables n samples angles ≡ checked_ring [] n samples angles
unfolding checked_ring ring_looked
direct_without tables n samples angles e =
    ap (λ (a : RingAnswer). cond (ring_sized n samples angles) a (Err WrongLength)) (go (first_wild (ring_inputs samples angles)))
  where
    go : (w : Option ℕ) → ring_looked tables n samples angles w ≡ ring_looked [] n samples angles w
    go None = ap Ok (record_direct tables n samples angles e)
    go (Some i) = refl
