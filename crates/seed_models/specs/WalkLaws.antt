-- A walk over the blocks of a table scores its models in their order: a lane that has no pair, or whose denominator is flat, is no model and changes
-- nothing. A walk over those of the grid tries all allowed pairs. Assumes nothing.
use Rattle.std.specs.Prelude.{◌≡◌, Bool, cond, leb, length, Option, None, Float}
use Rattle.std.proofs.Math.Path.{refl, sym}
use Rattle.std.proofs.Common.{◌∙◌}
use Rattle.std.proofs.Math.Bool.{true, false}
use mathlib.Core.List.{List, [], ◌∷◌, ◌++◌}
use Prim.Native.Nat.{ℕ, ◌+◌, ◌*◌, ◌<◌}
use Rattle.std.specs.Float.Ieee.{nan}
use Rattle.floats.specs.Ops.{nought}
use Rattle.floats.specs.Rows.{Row, at, count}
use Rattle.loops.specs.Loops.{iter}
use Rattle.loops.proofs.IterLaws.{iter_same, iter_through, iter_related}
use Rattle.loops.proofs.TabLaws.{tab_at}
use Rattle.seed.specs.Seed.{flat, scored_from}
use Rattle.seed.specs.declared.SeedCandidate.{SeedCandidate}
use Rattle.robust_lanes.specs.Lanes.{GridRows, inserted}
use Rattle.robust_lanes.specs.LaneLaws.{four_at}
use Rattle.robust_grid.specs.Grid.{tries, best_of}
use Rattle.robust_grid.specs.Places.{last_of, block_pair, blocks, lane_score, lanes_tried, score_at}
use Rattle.robust_grid.specs.PairLaws.{blocks_all}
use Rattle.robust_grid.specs.BlockLaws.{grid_lanes}
use Rattle.robust_grid.specs.declared.Pair.{Pair}
use Rattle.seed_models.specs.Models.{SeedModel, model_pushed, num_of, score_cached_seed_model, best_from, best_cached}
use Rattle.seed_models.specs.Words.{ring_samples, block_part, model_in, block_models, models_in}
use Rattle.seed_models.specs.Parts.{num_in, lanes_in, grid_models, walk}

-- ---- the models behind one another
best_append : (score : SeedModel → Option SeedCandidate) (top : Option SeedCandidate) (models : List SeedModel) (m : SeedModel)
    → best_from score top (models ++ (m ∷ [])) ≡ inserted (best_from score top models) (score m)
unfolding best_from
best_append score top [] m = refl
best_append score top (x ∷ models) m = best_append score (inserted top (score x)) models m

module _ (centered : Row) (centered_ss mean : Float) where
  abbrev best : List SeedModel → Option SeedCandidate
  best = best_cached ring_samples centered centered_ss mean

  abbrev n : Float
  n = count ring_samples

  module _ (block : Row) (p : Pair) where
    abbrev step : ℕ → Option SeedCandidate → Option SeedCandidate
    step k top = cond (leb (p.b + k) (last_of p.a)) (inserted top (lane_score n centered_ss mean (lanes_in ring_samples block centered) p k)) top

    num_is : (k : ℕ) → num_of ring_samples centered (at (model_in block p k).q_centered) ≡ num_in ring_samples block centered k
    num_is k = iter_same _ _ nought ring_samples (λ i l x. rw (tab_at (λ i. at block (8 + 4 * i + k)) nan ring_samples i l))

    -- a lane without a model has no seed
    lane_pushed : (k : ℕ) → k < 4 → (models : List SeedModel)
        → best (model_pushed models (model_in block p k)) ≡ inserted (best models) (lane_score n centered_ss mean (lanes_in ring_samples block centered) p k)
    unfolding best_cached score_cached_seed_model scored_from inserted
    lane_pushed k l models =
        rw (
          four_at (λ k. num_in ring_samples block centered k) k l,
          four_at (λ k. at block k) k l,
          four_at (λ k. at block (4 + k)) k l,
          ← num_is k,
        ) (go (flat (at block (4 + k))))
      where
        score : SeedModel → Option SeedCandidate
        score = score_cached_seed_model ring_samples centered centered_ss mean

        go : (f : Bool) → best_from score None (cond f models (models ++ (model_in block p k ∷ [])))
            ≡ inserted (best_from score None models) (cond f None (score (model_in block p k)))
        go true = refl
        go false = best_append score None models (model_in block p k)

    lane_same : (k : ℕ) → k < 4 → (models : List SeedModel) (top : Option SeedCandidate) → best models ≡ top
        → best (cond (leb (p.b + k) (last_of p.a)) (model_pushed models (model_in block p k)) models) ≡ step k top
    lane_same k l models top e = go (leb (p.b + k) (last_of p.a))
      where
        go : (b : Bool) → best (cond b (model_pushed models (model_in block p k)) models)
            ≡ cond b (inserted top (lane_score n centered_ss mean (lanes_in ring_samples block centered) p k)) top
        go true = rw (← e) (lane_pushed k l models)
        go false = e

    pub block_best : (models : List SeedModel) →
        best (block_models block p models) ≡ lanes_tried n centered_ss mean (lanes_in ring_samples block centered) p (best models)
    unfolding block_models lanes_tried
    block_best models = iter_related (λ ms top. best ms ≡ top) _ step models (best models) 4 refl (λ k ms top l e. lane_same k l ms top e)

  pub models_best : (table : Row)
      → iter (λ j. lanes_tried n centered_ss mean (lanes_in ring_samples (block_part table j) centered) (block_pair j)) None blocks ≡ best (models_in table)
  unfolding models_in best_cached best_from
  models_best table = sym (iter_through best _ _ [] blocks (λ j models. block_best (block_part table j) (block_pair j) models))

-- ---- both walks
pub table_walked : (table centered : Row) (centered_ss mean : Float)
    → walk (count ring_samples) centered_ss mean (λ j. lanes_in ring_samples (block_part table j) centered)
    ≡ best_cached ring_samples centered centered_ss mean (models_in table)
unfolding walk
table_walked table centered centered_ss mean = models_best centered centered_ss mean table

-- of as many centred samples as a table is for
pub table_fits : (table centered : Row) (centered_ss mean : Float) → length centered ≡ ring_samples
    → walk (count (length centered)) centered_ss mean (λ j. lanes_in ring_samples (block_part table j) centered)
    ≡ best_cached ring_samples centered centered_ss mean (models_in table)
table_fits table centered centered_ss mean l = rw l (table_walked table centered centered_ss mean)

pub grid_walked : (n : ℕ) (rows : GridRows) (centered : Row) (centered_ss mean : Float) → length centered ≡ n
    → walk (count n) centered_ss mean (grid_models n rows centered) ≡ best_of (score_at n rows centered centered_ss mean)
unfolding walk best_of
grid_walked n rows centered centered_ss mean l =
    rw (← l)
    (iter_same _ _ None blocks (λ j h top. grid_lanes rows centered centered_ss mean (block_pair j) top)
    ∙ blocks_all (tries (score_at (length centered) rows centered centered_ss mean)) None)
