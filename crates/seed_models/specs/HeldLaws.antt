-- Whatever a caller's words are, the angles of the models that are read from them are the grid's, which f32 holds. Assumes nothing.
use Rattle.std.specs.Prelude.{Bool, true, false, cond, List, [], ◌∷◌, ◌++◌, T, leb, get_or, Float}
use Prim.Native.Nat.{ℕ, zero, suc, ◌+◌, ◌≤◌}
use native.Mathlib.Omega.{arith}
use Rattle.std.proofs.Common.{lit≤}
use Rattle.std.specs.Float.{binary32}
use Rattle.std.specs.Float.Ieee.{eq, fits}
use Rattle.std.specs.Float.Ieee.Fits.{mul-fits}
use Rattle.floats.specs.Rows.{Row, count}
use Rattle.floats.specs.Library.{to_radians}
use Rattle.loops.specs.Loops.{tab}
use Rattle.loops.proofs.IterLaws.{iter_keeps}
use Rattle.seed.specs.Seed.{flat, robust_grid_step_deg}
use Rattle.robust_grid.specs.Places.{last_of, block_pair, blocks}
use Rattle.robust_grid.specs.declared.Pair.{Pair}
use Rattle.seed_models.specs.Models.{SeedModel, model_pushed, Table, table_at}
use Rattle.seed_models.specs.Words.{most_tables, held_by, model_in, block_models, block_part, models_in, table_part, table_in, held_in, tables_in}

-- ---- what all elements of a list have
module _ {A : Type 0} (P : A → Type 0) where
  abbrev pub All : List A → Type 0
  All [] = 0 ≤ 0
  All (x ∷ xs) = P x × All xs

  all_more : (xs : List A) (y : A) → All xs → P y → All (xs ++ (y ∷ []))
  all_more [] y h p = (p, omega arith)
  all_more (x ∷ xs) y h p = (h.0, all_more xs y h.1 p)

  all_tab : (f : ℕ → A) (n : ℕ) → ((i : ℕ) → P (f i)) → All (tab f n)
  unfolding tab
  all_tab f zero h = omega arith
  all_tab f (suc n) h = all_more (tab f n) (f n) (all_tab f n h) (h n)

  all_at : (xs : List A) (d : A) (i : ℕ) → All xs → P d → P (get_or xs i d)
  all_at [] d i h p = p
  all_at (x ∷ xs) d zero h p = h.0
  all_at (x ∷ xs) d (suc i) h p = all_at xs d i h.1 p

-- ---- models whose angles f32 holds
abbrev pub AnglesHeld : SeedModel → Type 0
AnglesHeld m = T (fits binary32 m.theta1) × T (fits binary32 m.theta2)

abbrev pub TablesHeld : List Table → Type 0
TablesHeld tables = All (λ t. All AnglesHeld t.models) tables

pub no_tables : TablesHeld []
no_tables = omega arith

pub table_held : (tables : List Table) (t : ℕ) → TablesHeld tables → All AnglesHeld (table_at tables t).models
table_held tables t h = all_at (λ t. All AnglesHeld t.models) tables _ t h (omega arith)

pushed_held : (block : Row) (p : Pair) (k : ℕ) (models : List SeedModel) → All AnglesHeld models
    → All AnglesHeld (cond (leb (p.b + k) (last_of p.a)) (model_pushed models (model_in block p k)) models)
pushed_held block p k models h = go (leb (p.b + k) (last_of p.a)) (flat (model_in block p k).denom)
  where
    step : Float
    step = to_radians robust_grid_step_deg

    go : (t f : Bool) → All AnglesHeld (cond t (cond f models (models ++ (model_in block p k ∷ []))) models)
    go false f = h
    go true true = h
    go true false = all_more AnglesHeld models _ h (mul-fits binary32 (count p.a) step, mul-fits binary32 (count (p.b + k)) step)

models_held : (table : Row) → All AnglesHeld (models_in table)
unfolding models_in block_models
models_held table =
    iter_keeps (All AnglesHeld) _ [] blocks (omega arith)
    (λ j x h. iter_keeps (All AnglesHeld) _ x 4 h (λ k y g. pushed_held (block_part table j) (block_pair j) k y g))

pub words_held : (words : Row) → TablesHeld (tables_in words)
unfolding tables_in
words_held words = all_tab (λ t. All AnglesHeld t.models) (table_in words) (held_in words) (λ t. models_held (table_part words t))

-- ---- at most three tables
pub held_most : (x : Float) → held_by x ≤ most_tables
unfolding held_by
held_most x = go (eq x (count 1)) (eq x (count 2)) (eq x (count 3))
  where
    go : (a b c : Bool) → cond a 1 (cond b 2 (cond c 3 0)) ≤ most_tables
    go true b c = lit≤ tt
    go false true c = lit≤ tt
    go false false true = lit≤ tt
    go false false false = lit≤ tt
