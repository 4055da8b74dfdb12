-- The three ways of a table. Assumes nothing.
use Rattle.std.proofs.Common.{◌≡◌, ℕ, ◌≤◌, ◌<◌, refl, sym, ◌∙◌, arith}
use Rattle.std.proofs.lemmas.Result.{err_from_is_err_and}
use Rattle.checked.specs.CheckedLaws.{unmoved_test}
use Rattle.checked_tables.specs.TableLaws.{table_unsized, table_looked_lem, table_refused, passed_clean, table_full, table_room}
use Rattle.checked_tables.proofs.check_table.Goals as goal

less_of : {m k : ℕ} → m ≤ k → (m ≡ k → ⊥) → m < k
less_of h other = omega (arith, h, other)

pub returns-then-angles-ne-RING_SAMPLES : goal.returns-then-angles-ne-RING_SAMPLES
returns-then-angles-ne-RING_SAMPLES c = table_unsized _ _ c.if-angles-ne-RING_SAMPLES.true

pub returns-in_err-check_values : goal.returns-in_err-check_values
returns-in_err-check_values c =
    let p = err_from_is_err_and c.from_residual.result c.from_residual.ensures.1 in
    rw (p.1, p.2) (table_refused _ _ _ _ (c.in_err-check_values.ensures ∙ sym (unmoved_test _)) c.if-angles-ne-RING_SAMPLES.false refl)

pub returns-then-held-eq-MOST_TABLES : goal.returns-then-held-eq-MOST_TABLES
returns-then-held-eq-MOST_TABLES c =
    let clean = passed_clean _ _ (c.in_ok-check_values.ensures ∙ sym (unmoved_test _)) in
    table_full _ (sym c.held.ensures.0 ∙ c.if-held-eq-MOST_TABLES.true) ∙ table_looked_lem _ _ _ c.if-angles-ne-RING_SAMPLES.false clean

pub returns : goal.returns
returns c =
    let clean = passed_clean _ _ (c.in_ok-check_values.ensures ∙ sym (unmoved_test _)) in
    let sized = c.if-angles-ne-RING_SAMPLES.false in
    let held = c.held.ensures in
    let few = rw held.0 at (less_of held.1 c.if-held-eq-MOST_TABLES.false) in
    (sized, few, table_room _ few ∙ table_looked_lem _ _ _ sized clean)
