-- Tables in a caller's memory: f32 words, of which the first tells how many tables are held, and whatever they are they are read as tables. Definitions
-- only. A table is its 16 angles and the 65 blocks of the grid's pairs; a block has four models side by side, lane k of each four words being model k: four
-- times q_mean, four times denom, and four times q_centered of each sample. Lanes past the last pair of an angle are 0 and are not read.
use Rattle.std.specs.Prelude.{cond, List, [], ◌++◌, ℕ, ◌+◌, ◌-◌, ◌*◌, ◌/◌, ◌%◌, eqb, leb, take, drop, set, Float}
use Rattle.std.specs.Float.Ieee.{eq}
use Rattle.floats.specs.Ops.{nought}
use Rattle.floats.specs.Rows.{Row, at, count}
use Rattle.loops.specs.Loops.{iter, tab}
use Rattle.robust_grid.specs.Grid.{grid_angle}
use Rattle.robust_grid.specs.Places.{last_of, block_pair, blocks}
use Rattle.robust_grid.specs.declared.Pair.{Pair}
use Rattle.seed_models.specs.Models.{SeedModel, model_at, model_pushed, Table}

-- a table is of 16 samples
abbrev pub ring_samples : ℕ
ring_samples = 16

abbrev pub block_size : ℕ
block_size = 72

-- the angles and 65 blocks
abbrev pub table_size : ℕ
table_size = 4696

abbrev pub most_tables : ℕ
most_tables = 3

-- the count and three tables
abbrev pub state_size : ℕ
state_size = 14089

-- ---- reading: the count is 1, 2 or 3, and anything else is none
unfoldable pub held_by : Float → ℕ
held_by x = cond (eq x (count 1)) 1 (cond (eq x (count 2)) 2 (cond (eq x (count 3)) 3 0))

abbrev pub held_in : Row → ℕ
held_in words = held_by (at words 0)

abbrev pub table_part : Row → ℕ → Row
table_part words t = take table_size (drop (1 + t * table_size) words)

abbrev pub block_part : Row → ℕ → Row
block_part table j = take block_size (drop (ring_samples + j * block_size) table)

-- the model in lane k of a block; its angles are the pair's, whatever the words are
abbrev pub model_in : Row → Pair → ℕ → SeedModel
model_in block p k =
    record {
      theta1 = grid_angle p.a;
      theta2 = grid_angle (p.b + k);
      q_mean = at block k;
      q_centered = tab (λ i. at block (8 + 4 * i + k)) ring_samples;
      denom = at block (4 + k);
    }

unfoldable pub block_models : Row → Pair → List SeedModel → List SeedModel
block_models block p models = iter (λ k models. cond (leb (p.b + k) (last_of p.a)) (model_pushed models (model_in block p k)) models) models 4

unfoldable pub models_in : Row → List SeedModel
models_in table = iter (λ j. block_models (block_part table j) (block_pair j)) [] blocks

abbrev pub table_in : Row → ℕ → Table
table_in words t = let table = table_part words t in record { angles = take ring_samples table; models = models_in table }

unfoldable pub tables_in : Row → List Table
tables_in words = tab (table_in words) (held_in words)

-- ---- writing: the row r of a block has q_mean, denom, or q_centered of sample r - 2
unfoldable pub lane_word : SeedModel → ℕ → Float
lane_word m r = cond (eqb r 0) m.q_mean (cond (eqb r 1) m.denom (at m.q_centered (r - 2)))

abbrev pub block_word : (ℕ → ℕ → SeedModel) → Pair → ℕ → Float
block_word model p w = let k = w % 4 in cond (leb (p.b + k) (last_of p.a)) (lane_word (model p.a (p.b + k)) (w / 4)) nought

unfoldable pub block_of : (ℕ → ℕ → SeedModel) → Pair → Row
block_of model p = tab (block_word model p) block_size

unfoldable pub table_words : Row → (ℕ → ℕ → SeedModel) → Row
table_words angles model = iter (λ j words. words ++ block_of model (block_pair j)) angles blocks

-- a table more, behind those that are held, and the count
unfoldable pub stored_in : Row → Row → Row
stored_in words angles =
    let t = held_in words in
    let b = 1 + t * table_size in
    set (take b words ++ (table_words angles (model_at ring_samples angles) ++ drop table_size (drop b words))) 0 (count (t + 1))

-- no table
abbrev pub fresh_in : Row → Row
fresh_in words = set words 0 nought
