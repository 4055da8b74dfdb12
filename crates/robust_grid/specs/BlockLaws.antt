-- A turn over four pairs: a lane's mean square is that of its pair, so a skipped lane changes nothing, and past the last allowed pair the turns are idle.
-- From the grid's sums the lanes are those of the definition. Assumes nothing.
use Rattle.std.specs.Prelude.{◌≡◌, true, cond, length, Option, Float}
use Rattle.std.proofs.Math.Path.{refl, sym}
use Rattle.std.proofs.Common.{ap, ◌∙◌, subst, lit≤}
use Rattle.std.proofs.Math.Bool.{false}
use Prim.Native.Nat.{ℕ, zero, suc, ◌+◌, ◌-◌, ◌≤◌, ◌<◌}
use native.Mathlib.Omega.{arith}
use borrow.Author.Tests.{lt-leb, leb-false}
use Rattle.std.proofs.Math.Dec.{leb, eqb-suc-zero}
use Rattle.std.specs.Float.Ieee.{le}
use Rattle.floats.specs.Rows.{Row, at, count}
use Rattle.loops.specs.Loops.{iter}
use Rattle.loops.proofs.IterLaws.{iter_same, iter_idle}
use Rattle.seed.specs.Seed.{scored}
use Rattle.seed.specs.declared.SeedCandidate.{SeedCandidate}
use Rattle.robust_lanes.specs.declared.Models.{Models}
use Rattle.robust_lanes.specs.Lanes.{GridRows, inserted, lane_sums, models_of, mean_square, mean_squares, Squared, BestBound}
use Rattle.robust_lanes.specs.LaneLaws.{four_at}
use Rattle.robust_lanes.specs.SkipLaws.{scored_squared, skipped}
use Rattle.robust_grid.specs.declared.Pair.{Pair}
use Rattle.robust_grid.specs.Grid.{tries}
use Rattle.robust_grid.specs.Places.{last_of, lane_score, lanes_tried, step_at, block_steps, score_at}

pub last_most : (a : ℕ) → last_of a ≤ 22
last_most zero = lit≤ tt
last_most (suc a) = rw (eqb-suc-zero a) (lit≤ tt)

-- ---- the lanes of four pairs
module _ (n centered_ss mean : Float) (m : Models) (p : Pair) where
  abbrev pub lane_step : ℕ → Option SeedCandidate → Option SeedCandidate
  lane_step k top = cond (leb (p.b + k) (last_of p.a)) (inserted top (lane_score n centered_ss mean m p k)) top

  -- past the last pair nothing is left
  pub lanes_end : (k : ℕ) (top₀ top : Option SeedCandidate) → k ≤ 4 → leb (p.b + k) (last_of p.a) ≡ false → top ≡ iter lane_step top₀ k
      → top ≡ lanes_tried n centered_ss mean m p top₀
  unfolding lanes_tried
  lanes_end k top₀ top l t e =
      let z : k + (4 - k) ≡ 4 = omega arith in
      let past = leb-false (p.b + k) (last_of p.a) t in
      let idle = iter_idle lane_step top₀ k (4 - k) (λ i h x. off i x (lt-leb (p.b + i) (last_of p.a) (omega (arith, past)))) in
      e ∙ sym (rw z at idle)
    where
      off : (i : ℕ) (x : Option SeedCandidate) → leb (p.b + i) (last_of p.a) ≡ false → lane_step i x ≡ x
      off i x t = rw t

  module _ (xs : Row) (ex : xs ≡ mean_squares m n centered_ss) (k : ℕ) (l : k < 4) where
    pub lane_squared : Squared (at xs k) (lane_score n centered_ss mean m p k)
    lane_squared =
        let is = ap (λ (r : Row). at r k) ex ∙ four_at (λ k. mean_square n centered_ss (at m.num k) (at m.denom k)) k l in
        subst (λ (x : Float). Squared x (lane_score n centered_ss mean m p k)) (sym is) (scored_squared n centered_ss mean _ _ _ _ _)

    pub lane_skipped : (top : Option SeedCandidate) (bound : Float) → leb (p.b + k) (last_of p.a) ≡ true → BestBound top bound → le bound (at xs k) ≡ true
        → top ≡ lane_step k top
    lane_skipped top bound t q h = rw t (sym (skipped top (lane_score n centered_ss mean m p k) bound (at xs k) q lane_squared h))

  pub lane_tried : (k : ℕ) (top next c : Option SeedCandidate) → leb (p.b + k) (last_of p.a) ≡ true → c ≡ lane_score n centered_ss mean m p k
      → next ≡ inserted top c → next ≡ lane_step k top
  lane_tried k top next c t e d = rw t (d ∙ ap (inserted top) e)

-- ---- the lanes that the grid's sums bring
module _ (h : GridRows) (centered : Row) (centered_ss mean : Float) (p : Pair) where
  abbrev n : ℕ
  n = length centered

  abbrev lanes : Models
  lanes = models_of (lane_sums n centered h p.a p.b) (count n)

  lane_is : (k : ℕ) → k < 4 → lane_score (count n) centered_ss mean lanes p k ≡ score_at n h centered centered_ss mean p.a (p.b + k)
  unfolding score_at scored lane_sums
  lane_is zero l = refl
  lane_is (suc zero) l = refl
  lane_is (suc (suc zero)) l = refl
  lane_is (suc (suc (suc zero))) l = refl
  lane_is (suc (suc (suc (suc k)))) l = absurd (none k l)
    where
      none : (k : ℕ) → suc (suc (suc (suc k))) < 4 → ⊥
      none k l = omega arith

  pub grid_lanes : (top : Option SeedCandidate)
      → lanes_tried (count n) centered_ss mean lanes p top ≡ block_steps (tries (score_at n h centered centered_ss mean)) p top
  unfolding lanes_tried block_steps step_at
  grid_lanes top = iter_same _ _ top 4 (λ k l x. rw (lane_is k l))
