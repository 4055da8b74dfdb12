-- The grid stands sample by sample, a row for each: what is written of one sample leaves the others, and the sums that a lane adds up from its places are
-- those of its pair's rows. Assumes nothing.
use Rattle.std.specs.Prelude.{◌≡◌, [], ℕ, ◌+◌, ◌<◌, take, set, get_or, Option, None, Float}
use Rattle.std.proofs.Math.Path.{sym, ap}
use Rattle.std.proofs.Common.{◌∙◌, arith, get_or-take, get_or-set_same, get_or-set_other}
use borrow.Author.Count.{below_none, below_more}
use Rattle.std.proofs.Math.ListN.{length}
use Rattle.std.specs.Float.Ieee.{nan}
use Rattle.floats.specs.Rows.{Row, at}
use Rattle.elementary.specs.Elementary.{sin_cos}
use Rattle.elementary.specs.declared.SinCos.{SinCos}
use Rattle.loops.proofs.IterLaws.{iter_same, range_same}
use Rattle.loops.proofs.TabLaws.{tab_at, tab_same}
use Rattle.seed.specs.Seed.{zeros, pair_sums, score_seed_pair}
use Rattle.seed.specs.declared.SeedCandidate.{SeedCandidate}
use Rattle.robust_grid.specs.Grid.{grid_angle, factor, grid_row, pair_at, pairs_from, all_pairs, tries, best_of, best_seed}
use Rattle.robust_grid.specs.Places.{Axes, row_from, sample_row, sample_row_at, Grid, score_at}
use Rattle.robust_lanes.specs.Lanes.{grid_places, GridRows, factor_at, sums_at}

-- ---- scores that agree on the grid have the same best
module _ (f g : ℕ → ℕ → Option SeedCandidate) (h : (a b : ℕ) → a < 23 → b < 23 → f a b ≡ g a b) where
  pair_same : (a b : ℕ) → a < 23 → b < 23 → (top : Option SeedCandidate) → pair_at (tries f) a b top ≡ pair_at (tries g) a b top
  unfolding pair_at
  pair_same a b x y top = rw (h a b x y)

  pairs_same : (a : ℕ) → a < 23 → (top : Option SeedCandidate) → pairs_from (tries f) a top ≡ pairs_from (tries g) a top
  unfolding pairs_from
  pairs_same a x top = range_same _ _ top (a + 1) 23 (λ b l y s. pair_same a b x y s)

  best_same : best_of f ≡ best_of g
  unfolding best_of all_pairs
  best_same = iter_same _ _ None 23 (λ a l top. pairs_same a l top)

-- ---- a sample's row
pub row_is : (s c : Float) (sines cosines : Row) → Axes sines cosines → row_from s c sines cosines ≡ sample_row s c
unfolding row_from sample_row
row_is s c sines cosines x = tab_same _ _ grid_places (λ a l. ap (factor s c) (both a l))
  where
    both : (a : ℕ) → a < grid_places → ◌≡◌ {A = SinCos} (record { s = at sines a; c = at cosines a }) (sin_cos (grid_angle a))
    both a l = rw (x.s, x.c, tab_at (λ a. (sin_cos (grid_angle a)).s) nan grid_places a l, tab_at (λ a. (sin_cos (grid_angle a)).c) nan grid_places a l)

-- ---- the rows, sample by sample
module _ {sphi cphi : Row} where
  pub grid_none : {h : GridRows} → Grid sphi cphi h 0
  grid_none = record { row = below_none _ }

  -- the row of sample k came back as r
  pub grid_more : {h : GridRows} (r : Row) {k : ℕ} → Grid sphi cphi h k → k < length h → take grid_places r ≡ sample_row (at sphi k) (at cphi k)
      → Grid sphi cphi (set h k r) (k + 1)
  grid_more {h} r {k} g l e = record {
    row = below_more (λ i. sample_row_at (set h k r) i ≡ sample_row (at sphi i) (at cphi i)) k
        (λ i b. ap (take grid_places) (get_or-set_other h k i r [] (λ q. omega (arith, b))) ∙ g.row i b)
        (ap (take grid_places) (get_or-set_same h k r [] l) ∙ e);
  }

  -- what stands at a place
  place_is : {h : GridRows} {n : ℕ} → Grid sphi cphi h n → (i : ℕ) → i < n → (a : ℕ) → a < grid_places
      → factor_at h i a ≡ factor (at sphi i) (at cphi i) (sin_cos (grid_angle a))
  unfolding sample_row
  place_is {h} g i l a b =
      sym (get_or-take grid_places (get_or h i []) a nan b) ∙ ap (λ (r : Row). at r a) (g.row i l)
      ∙ tab_at (λ a. factor (at sphi i) (at cphi i) (sin_cos (grid_angle a))) nan grid_places a b

  pub grid_at : {h : GridRows} {n : ℕ} → Grid sphi cphi h n → (a : ℕ) → a < 23 → (i : ℕ) → i < n → factor_at h i a ≡ at (grid_row n sphi cphi a) i
  unfolding grid_row
  grid_at {h} {n} g a x i l = place_is g i l a (omega arith) ∙ sym (tab_at (λ i. factor (at sphi i) (at cphi i) (sin_cos (grid_angle a))) nan n i l)

  module _ {h : GridRows} {n : ℕ} (g : Grid sphi cphi h n) (centered : Row) where
    sums_same : (a b : ℕ) → a < 23 → b < 23 → sums_at n centered h a b ≡ pair_sums n centered (grid_row n sphi cphi a) (grid_row n sphi cphi b)
    unfolding sums_at pair_sums
    sums_same a b x y = iter_same _ _ zeros n (λ i l s. rw (grid_at g a x i l, grid_at g b y i l))

    pub grid_best : (centered_ss mean : Float) → best_of (score_at n h centered centered_ss mean) ≡ best_seed n sphi cphi centered centered_ss mean
    unfolding best_seed score_at score_seed_pair
    grid_best centered_ss mean = best_same _ _ (λ a b x y. rw (sums_same a b x y))
