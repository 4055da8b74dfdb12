-- The sums that a lane adds up, sample by sample, are those of its own pair. Assumes nothing.
use Rattle.std.specs.Prelude.{◌≡◌, refl, [], ◌∷◌, ℕ, zero, suc, ◌+◌, ◌<◌, Float}
use Rattle.std.proofs.Common.{◌∙◌}
use native.Mathlib.Omega.{arith}
use Rattle.std.specs.Float.Ieee.{of_int, of_bits, round}
use Rattle.floats.specs.Ops.{lit, nought}
use Rattle.floats.specs.Rows.{Row, at, count}
use Rattle.loops.proofs.IterLaws.{iter_zero, iter_next}
use Rattle.seed.specs.Seed.{summed_by}
use Rattle.robust_lanes.specs.declared.Lanes.{Lanes}
use Rattle.robust_lanes.specs.Lanes.{GridRows, factor_at, sums_at, four, lane_sums, lanes_added}

-- the usual number of samples
pub sixteen : count 16 ≡ lit 0x4180_0000
unfolding of_int of_bits round
sixteen = refl

pub four_at : (f : ℕ → Float) (k : ℕ) → k < 4 → at (four f) k ≡ f k
four_at f zero l = refl
four_at f (suc zero) l = refl
four_at f (suc (suc zero)) l = refl
four_at f (suc (suc (suc zero))) l = refl
four_at f (suc (suc (suc (suc k)))) l = absurd (none k l)
  where
    none : (k : ℕ) → suc (suc (suc (suc k))) < 4 → ⊥
    none k l = omega arith

-- the places as the code names them
pub lane_places : (h : Row) (p : ℕ) → ◌≡◌ {A = Row} (at h p ∷ at h (p + 1) ∷ at h (p + 2) ∷ at h (p + 3) ∷ []) (four (λ k. at h (p + k)))
lane_places h p = let z : p + 0 ≡ p = omega arith in rw z

module _ (centered : Row) (h : GridRows) (a b : ℕ) where
  pub lanes_none : record { q_sum = four (λ k. nought); q2_sum = four (λ k. nought); num = four (λ k. nought) } ≡ lane_sums 0 centered h a b
  unfolding lane_sums sums_at
  lanes_none = simp iter_zero

  next : (i k : ℕ) → sums_at (i + 1) centered h a (b + k) ≡
      summed_by (at centered i) (factor_at h i a) (factor_at h i (b + k)) (sums_at i centered h a (b + k))
  unfolding sums_at
  next i k = rw iter_next

  pub lanes_more : (i : ℕ) (s t : Lanes) (y : Row) → s ≡ lane_sums i centered h a b → y ≡ four (λ k. factor_at h i (b + k))
      → t ≡ lanes_added s (at centered i) (factor_at h i a) y → t ≡ lane_sums (i + 1) centered h a b
  unfolding lane_sums summed_by
  lanes_more i s t y e g d = d ∙ (rw (e, g, next i 0, next i 1, next i 2, next i 3))
