-- The ways of a table: another number of angles, one that is not finite, no room, or room. Assumes nothing.
use Rattle.std.specs.Prelude.{◌≡◌, ◌<◌, ℕ, length, Option, Some, None, Ok, Err}
use Rattle.std.proofs.Math.Path.{refl}
use Rattle.std.proofs.Common.{◌∙◌, eq-eqb, ne_eqb, lt-ltb}
use Rattle.floats.specs.Rows.{Row}
use Rattle.seed_models.specs.Words.{ring_samples, most_tables, held_in}
use Rattle.checked.specs.Checked.{first_wild}
use Rattle.checked.specs.Parts.{values_test}
use Rattle.checked.specs.declared.Refusal.{Refusal}
use Rattle.checked.specs.declared.Refusal.TheVariants.{WrongLength, TablesFull}
use Rattle.checked_tables.specs.Tables.{table_looked, table_refusal}

module _ (words angles : Row) where
  pub table_unsized : (length angles ≡ ring_samples → ⊥) → Err WrongLength ≡ table_refusal words angles
  unfolding table_refusal
  table_unsized e = rw (ne_eqb _ _ e)

  pub table_looked_lem : (w : Option ℕ) → length angles ≡ ring_samples → w ≡ first_wild angles → table_looked words w ≡ table_refusal words angles
  unfolding table_refusal
  table_looked_lem w l f = rw (eq-eqb _ _ l, ← f)

  -- what the test of its angles says
  pub table_refused : (w : Option ℕ) (e : Refusal) → Err e ≡ values_test w → length angles ≡ ring_samples → w ≡ first_wild angles
      → Err e ≡ table_refusal words angles
  unfolding table_looked
  table_refused (Some i) e h l f = h ∙ table_looked_lem (Some i) l f
  table_refused None e h l f = cc

pub passed_clean : (w : Option ℕ) (u : Unit {0}) → Ok u ≡ values_test w → None ≡ w
passed_clean (Some i) u h = cc
passed_clean None u h = refl

module _ (words : Row) where
  pub table_full : held_in words ≡ most_tables → Err TablesFull ≡ table_looked words None
  unfolding table_looked
  table_full e = rw e refl

  pub table_room : held_in words < most_tables → Ok tt ≡ table_looked words None
  unfolding table_looked
  table_room h = rw (lt-ltb _ _ h)
