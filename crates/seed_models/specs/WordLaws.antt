-- What is stored is read again: a block's lanes are its pairs' models, a table's blocks are all pairs in the grid's order, and a table that is written behind
-- those that are held leaves them word for word. Assumes nothing.
use Rattle.std.specs.Prelude.{◌≡◌, Bool, ℕ, zero, suc, ◌+◌, ◌-◌, ◌*◌, ◌/◌, ◌%◌, ◌≤◌, ◌<◌, length, set, Float}
use Rattle.std.proofs.Math.Path.{refl, sym, ap}
use Rattle.std.proofs.Common.{◌∙◌, length-append, get_or-set_same, drop_at, drop-set-lt}
use Rattle.std.proofs.Math.Bool.{true, false, cond}
use mathlib.Core.List.{List, [], ◌∷◌, ◌++◌}
use native.Mathlib.Omega.{arith}
use Rattle.std.proofs.Math.Numerals.{add-one}
use borrow.Author.Tests.{leb-true, ne_eqb}
use Rattle.std.proofs.Math.Dec.{leb}
use Rattle.std.proofs.Math.ListN.{take, drop}
use Rattle.std.specs.Float.Ieee.{nan, eq, of_int, of_bits, round}
use Rattle.std.proofs.Math.Seq.{take_at, take-length}
use Rattle.std.proofs.lemmas.List.{take-append-le}
use Rattle.floats.specs.Ops.{◌⊖◌, ◌⊘◌, nought}
use Rattle.floats.specs.Rows.{Row, at, count}
use Rattle.loops.specs.Loops.{iter, tab}
use Rattle.loops.proofs.IterLaws.{iter_zero, iter_same, iter_keeps}
use Rattle.loops.proofs.TabLaws.{tab_length, tab_at, tab_same, tab_self, part_kept, part_same, part_length, parts_length, part_of, parts_more}
use Rattle.solver.specs.Solver.{sines, cosines}
use Rattle.solver.specs.Buffers.{Prepared}
use Rattle.robust_lanes.specs.Lanes.{GridRows, factor_at}
use Rattle.robust_grid.specs.Grid.{grid_angle, grid_row, all_pairs}
use Rattle.robust_grid.specs.Places.{Grid, last_of, block_pair, blocks, step_at, block_steps}
use Rattle.robust_grid.specs.PlaceLaws.{grid_at}
use Rattle.robust_grid.specs.PairLaws.{blocks_all, block_inside}
use Rattle.robust_grid.specs.BlockLaws.{last_most}
use Rattle.robust_grid.specs.declared.Pair.{Pair}
use Rattle.seed_models.specs.Models.{SeedModel, no_qSums, q_summed, model_of, model_at, model_pushed, seed_models, Table, table_of}
use Rattle.seed_models.specs.Words.{ring_samples, block_size, table_size, most_tables, state_size, held_by, held_in, table_part, block_part, model_in}
use Rattle.seed_models.specs.Words.{block_models, models_in, lane_word, block_word, block_of, table_words, stored_in, fresh_in, table_in, tables_in}
use Rattle.seed_models.specs.Parts.{model_from}

-- ---- the words of a table, block by block
abbrev pub filled : Row → (ℕ → ℕ → SeedModel) → ℕ → Row
filled angles model j = iter (λ j words. words ++ block_of model (block_pair j)) angles j

module _ (angles : Row) (model : ℕ → ℕ → SeedModel) (l : length angles ≡ ring_samples) where
  block_length : (j : ℕ) → length (block_of model (block_pair j)) ≡ block_size
  unfolding block_of
  block_length j = tab_length _ block_size

  pub fill_none : (t₀ t : Row) → t ≡ angles ++ drop ring_samples t₀ → t ≡ filled angles model 0 ++ drop (ring_samples + 0 * block_size) t
  fill_none t₀ t e =
      let behind : drop ring_samples t ≡ drop ring_samples t₀ = ap (drop ring_samples) e ∙ drop_at angles (drop ring_samples t₀) ring_samples l in
      rw (iter_zero, behind) e

  pub fill_more : (t₀ t r : Row) (j m : ℕ) → m ≡ block_size → t ≡ filled angles model j ++ drop (ring_samples + j * block_size) t₀ →
      r ≡ block_of model (block_pair j)
      → take (ring_samples + j * block_size) t ++ (r ++ drop m (drop (ring_samples + j * block_size) t))
      ≡ filled angles model (j + 1) ++ drop (ring_samples + (j + 1) * block_size) t₀
  fill_more t₀ t r j m s e g =
      rw (s, ← l) (parts_more (λ j. block_of model (block_pair j)) angles block_size block_length t₀ t r j (rw l e) g)

  pub table_length : length (table_words angles model) ≡ table_size
  unfolding table_words
  table_length = parts_length (λ j. block_of model (block_pair j)) angles block_size block_length blocks ∙ ap (λ (k : ℕ). k + blocks * block_size) l

  block_of_lem : (j : ℕ) → j < blocks → block_part (table_words angles model) j ≡ block_of model (block_pair j)
  unfolding table_words
  block_of_lem j h = rw l at (part_of (λ j. block_of model (block_pair j)) angles block_size block_length blocks j h)

  pub fill_all : (t₀ t : Row) → length t ≡ table_size → t ≡ filled angles model blocks ++ drop (ring_samples + blocks * block_size) t₀ →
      t ≡ table_words angles model
  unfolding table_words
  fill_all t₀ t n e =
      let behind = drop (ring_samples + blocks * block_size) t₀ in
      sym (take-length t) ∙ ap (λ (k : ℕ). take k t) n ∙ ap (take table_size) e ∙ take_at (filled angles model blocks) behind table_size table_length

-- ---- models that agree on the grid have the same words
table_same : (f g : ℕ → ℕ → SeedModel) (angles : Row) → ((a b : ℕ) → a < 23 → b < 23 → f a b ≡ g a b) → table_words angles f ≡ table_words angles g
unfolding table_words block_of
table_same f g angles h = iter_same _ _ angles blocks (λ j l words. ap (λ (r : Row). words ++ r) (tab_same _ _ block_size (λ w m. same j l w)))
  where
    same : (j : ℕ) → j < blocks → (w : ℕ) → block_word f (block_pair j) w ≡ block_word g (block_pair j) w
    same j l w = go (leb b (last_of a)) refl
      where
        a : ℕ
        a = (block_pair j).a

        b : ℕ
        b = (block_pair j).b + w % 4

        go : (t : Bool) → leb b (last_of a) ≡ t → cond t (lane_word (f a b) (w / 4)) nought ≡ cond t (lane_word (g a b) (w / 4)) nought
        go false e = refl
        go true e =
            let inside = block_inside j l in
            let last = leb-true b (last_of a) e in
            rw (h a b (omega (arith, inside.0)) (omega (arith, last, last_most a)))

-- the models of the grid's buffer are those of the angles
model_same : (n : ℕ) (q r : ℕ → Float) (theta1 theta2 : Float) → ((i : ℕ) → i < n → q i ≡ r i) → model_of n q theta1 theta2 ≡ model_of n r theta1 theta2
unfolding model_of
model_same n q r theta1 theta2 h =
    let sums : iter (λ i. q_summed (q i)) no_qSums n ≡ iter (λ i. q_summed (r i)) no_qSums n = iter_same _ _ no_qSums n (λ i l s. rw (h i l)) in
    let mean = (iter (λ i. q_summed (r i)) no_qSums n).q_sum ⊘ count n in
    rw (sums, tab_same (λ i. q i ⊖ mean) (λ i. r i ⊖ mean) n (λ i l. rw (h i l)))

pub grid_words : (angles sphi cphi : Row) (h : GridRows) → length angles ≡ ring_samples → Prepared angles sphi cphi → Grid sphi cphi h (length sphi)
    → table_words angles (model_from h) ≡ table_words angles (model_at ring_samples angles)
unfolding model_at
grid_words angles sphi cphi h l p g = table_same _ _ angles (λ a b x y. model_same ring_samples _ _ _ _ (λ i m. rw (at_grid a x i m, at_grid b y i m)))
  where
    s : sphi ≡ sines ring_samples angles
    s = p.s ∙ ap (λ (k : ℕ). sines k angles) l

    c : cphi ≡ cosines ring_samples angles
    c = p.c ∙ ap (λ (k : ℕ). cosines k angles) l

    n : length sphi ≡ ring_samples
    n = ap length s ∙ tab_length _ ring_samples

    at_grid : (a : ℕ) → a < 23 → (i : ℕ) → i < ring_samples
        → factor_at h i a ≡ at (grid_row ring_samples (sines ring_samples angles) (cosines ring_samples angles) a) i
    at_grid a x i m = rw (← s, ← c) (grid_at (rw n at g) a x i m)

-- ---- a block is read again
module _ (q : ℕ → ℕ → ℕ → Float) where
  abbrev model : ℕ → ℕ → SeedModel
  model a b = model_of ring_samples (q a b) (grid_angle a) (grid_angle b)

  module _ (p : Pair) (k : ℕ) (l : k < 4) (t : leb (p.b + k) (last_of p.a) ≡ true) where
    word_at : (w r : ℕ) → w < block_size → w % 4 ≡ k → w / 4 ≡ r → at (block_of model p) w ≡ lane_word (model p.a (p.b + k)) r
    unfolding block_of
    word_at w r m e f = tab_at (block_word model p) nan block_size w m ∙ (rw (e, f, t))

    lane_read : model_in (block_of model p) p k ≡ model p.a (p.b + k)
    unfolding lane_word model_of
    lane_read =
        let m = model p.a (p.b + k) in
        let first : at (block_of model p) k ≡ m.q_mean = word_at k 0 (omega arith) (omega arith) (omega arith) in
        let second : at (block_of model p) (4 + k) ≡ m.denom = word_at (4 + k) 1 (omega arith) (omega arith) (omega arith) in
        let rest : tab (λ i. at (block_of model p) (8 + 4 * i + k)) ring_samples ≡ m.q_centered =
        tab_same _ _ ring_samples (λ i h. third i h) ∙ tab_self m.q_centered nan ring_samples (tab_length _ ring_samples) in
        rw (first, second, rest)
      where
        third : (i : ℕ) → i < ring_samples → at (block_of model p) (8 + 4 * i + k) ≡ at (model p.a (p.b + k)).q_centered i
        third i h =
            let z : 2 + i - 2 ≡ i = omega arith in
            word_at (8 + 4 * i + k) (2 + i) (omega arith) (omega arith) (omega arith)
            ∙ (rw (ne_eqb (2 + i) 0 (λ e. omega arith), ne_eqb (2 + i) 1 (λ e. omega arith), z))

  -- ---- and so is a table
  abbrev pushes : ℕ → ℕ → List SeedModel → List SeedModel
  pushes a b models = model_pushed models (model a b)

  block_read : (p : Pair) (models : List SeedModel) → block_models (block_of model p) p models ≡ block_steps pushes p models
  unfolding block_models block_steps step_at
  block_read p models = iter_same _ _ models 4 (λ k l x. lane k l x (leb (p.b + k) (last_of p.a)) refl)
    where
      lane : (k : ℕ) → k < 4 → (x : List SeedModel) (t : Bool) → leb (p.b + k) (last_of p.a) ≡ t
          → cond t (model_pushed x (model_in (block_of model p) p k)) x ≡ cond t (pushes p.a (p.b + k) x) x
      lane k l x false e = refl
      lane k l x true e = ap (model_pushed x) (lane_read p k l e)

  table_read : (angles : Row) → length angles ≡ ring_samples → models_in (table_words angles model) ≡ all_pairs pushes []
  unfolding models_in
  table_read angles l = iter_same _ _ [] blocks (λ j h x. part j h x) ∙ blocks_all pushes []
    where
      part : (j : ℕ) → j < blocks → (x : List SeedModel) →
          block_models (block_part (table_words angles model) j) (block_pair j) x ≡ block_steps pushes (block_pair j) x
      part j h x = rw (block_of_lem angles model l j h) (block_read (block_pair j) x)

pub models_read : (angles : Row) → length angles ≡ ring_samples →
    models_in (table_words angles (model_at ring_samples angles)) ≡ seed_models ring_samples angles
unfolding seed_models model_at
models_read angles l = table_read _ angles l

angles_read : (angles : Row) (model : ℕ → ℕ → SeedModel) → length angles ≡ ring_samples → take ring_samples (table_words angles model) ≡ angles
unfolding table_words
angles_read angles model l = (iter_keeps Front _ angles blocks front (λ j words h. more words (block_of model (block_pair j)) h)).0
  where
    Front : Row → Type 0
    Front words = (take ring_samples words ≡ angles) × (ring_samples ≤ length words)

    front : Front angles
    front = (ap (λ (k : ℕ). take k angles) (sym l) ∙ take-length angles, omega (arith, l))

    more : (words r : Row) → Front words → Front (words ++ r)
    more words r h = (take-append-le ring_samples words r h.1 ∙ h.0, rw length-append (omega (arith, h.1)))

-- ---- the state: the count, and a table more
held_count : (t : ℕ) → t < most_tables → held_by (count (t + 1)) ≡ t + 1
unfolding held_by eq of_int round
held_count zero h = refl
held_count (suc zero) h = refl
held_count (suc (suc zero)) h = refl
held_count (suc (suc (suc t))) h = absurd (none t h)
  where
    none : (t : ℕ) → suc (suc (suc t)) < most_tables → ⊥
    none t h = omega arith

held_none : held_by nought ≡ 0
unfolding held_by eq of_int of_bits round
held_none = refl

pub stored_is : (words angles r : Row) (t m : ℕ) (x : Float) → t ≡ held_in words → m ≡ table_size → r ≡ table_words angles (model_at ring_samples angles)
    → x ≡ count (t + 1) → set (take (1 + t * table_size) words ++ (r ++ drop m (drop (1 + t * table_size) words))) 0 x ≡ stored_in words angles
unfolding stored_in
stored_is words angles r t m x et em er ex = rw (ex, em, er, et)

module _ (words angles : Row) (n : length words ≡ state_size) (l : length angles ≡ ring_samples) (few : held_in words < most_tables) where
  abbrev t : ℕ
  t = held_in words

  abbrev b : ℕ
  b = 1 + t * table_size

  abbrev table : Row
  table = table_words angles (model_at ring_samples angles)

  abbrev behind : Row
  behind = drop table_size (drop b words)

  -- behind the first word the count is not seen
  uncounted : (i : ℕ) → table_part (stored_in words angles) i ≡ table_part (take b words ++ (table ++ behind)) i
  unfolding stored_in
  uncounted i = ap (take table_size) (drop-set-lt (1 + i * table_size) (take b words ++ (table ++ behind)) 0 (count (t + 1)) (omega arith))

  -- tables that are held stay word for word
  pub stored_keeps : (i : ℕ) → i < t → table_part (stored_in words angles) i ≡ table_part words i
  stored_keeps i h =
      uncounted i ∙ part_kept words (table ++ behind) b (1 + i * table_size) table_size (omega (arith, n, few)) (omega (arith, h))

  pub stored_table : table_part (stored_in words angles) t ≡ table
  stored_table = uncounted t ∙ part_same words table behind b table_size (omega (arith, n, few)) (table_length angles _ l)

  pub stored_held : held_in (stored_in words angles) ≡ t + 1
  unfolding stored_in
  stored_held =
      let whole = part_length words table b table_size (omega (arith, n, few)) (table_length angles _ l) in
      ap held_by (get_or-set_same (take b words ++ (table ++ behind)) 0 (count (t + 1)) nan (omega (arith, whole, n))) ∙ held_count t few

  -- the tables of the state are those that were held and the new one
  pub stored_tables : tables_in (stored_in words angles) ≡ tables_in words ++ (table_of ring_samples angles ∷ [])
  unfolding tables_in tab
  stored_tables =
      let stored = stored_in words angles in
      let read : Row → Table = λ part. record { angles = take ring_samples part; models = models_in part } in
      let new : table_in stored t ≡ table_of ring_samples angles = ap read stored_table ∙
      (rw (angles_read angles (model_at ring_samples angles) l, models_read angles l)) in
      let old = tab_same (table_in stored) (table_in words) t (λ i h. ap read (stored_keeps i h)) in
      rw (stored_held, add-one, new, old)

pub fresh_tables : (words : Row) → length words ≡ state_size → tables_in (fresh_in words) ≡ []
unfolding tables_in tab
fresh_tables words n = rw (get_or-set_same words 0 nought nan (omega (arith, n)), held_none)
