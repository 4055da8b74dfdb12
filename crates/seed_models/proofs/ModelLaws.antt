-- A block's lanes add their samples in their order; a word of a model is made of the grid's rows; and the first table is found by looking at one after
-- the other. Assumes nothing.
use Rattle.std.specs.Prelude.{◌≡◌, Bool, length, take, drop, Some, None, Float}
use Rattle.std.proofs.Math.Path.{refl}
use Rattle.std.proofs.Common.{◌∙◌, lit≤, take-take}
use Rattle.std.proofs.Math.Bool.{true, false}
use Prim.Native.Nat.{ℕ, zero, suc, ◌+◌, ◌-◌, ◌*◌, ◌≤◌, ◌<◌}
use native.Mathlib.Omega.{arith}
use borrow.Author.Tests.{ne_eqb}
use Rattle.std.specs.Float.Ieee.{nan}
use Rattle.floats.specs.Ops.{◌⊕◌, ◌⊖◌, ◌⊗◌, ◌⊘◌, lit, nought}
use Rattle.floats.specs.Rows.{Row, at, count}
use Rattle.loops.specs.Loops.{iter, tab}
use Rattle.loops.proofs.IterLaws.{iter_zero, iter_next}
use Rattle.loops.proofs.TabLaws.{tab_at, tab_length}
use Rattle.robust_lanes.specs.Lanes.{GridRows, four}
use Rattle.robust_lanes.specs.LaneLaws.{sixteen}
use Rattle.robust_lanes.specs.declared.Models.{Models}
use Rattle.seed_models.specs.declared.QSums.{QSums}
use Rattle.seed_models.specs.Models.{Table, table_at, is_ring_phi, first_from, first_table, no_qSums, q_summed, model_of}
use Rattle.seed_models.specs.Words.{table_size, held_in, table_in, tables_in, lane_word}
use Rattle.seed_models.specs.Words.{ring_samples}
use Rattle.seed_models.specs.Parts.{q_at, q_sums_at, model_from, num_in, lanes_in, num_added}

-- ---- the sums of a block's lanes
module _ (block centered : Row) where
  pub sums_none : record { q_mean = four (λ k. at block k); denom = four (λ k. at block (4 + k)); num = four (λ k. nought) } ≡ lanes_in 0 block centered
  sums_none = simp iter_zero

  pub sums_next : (i : ℕ) (m next : Models) (q : Row) → m ≡ lanes_in i block centered → q ≡ four (λ k. at block (8 + 4 * i + k))
      → next ≡ num_added m (at centered i) q → next ≡ lanes_in (i + 1) block centered
  sums_next i m next q e g d = d ∙ (rw (e, g, sum 0, sum 1, sum 2, sum 3))
    where
      sum : (k : ℕ) → num_in (i + 1) block centered k ≡ num_in i block centered k ⊕ at centered i ⊗ at block (8 + 4 * i + k)
      sum k = iter_next _ nought i

-- ---- the words of a model from the grid's buffer; 16 as a float is the literal
module _ (h : GridRows) (a b : ℕ) (s : QSums) (e : s ≡ q_sums_at ring_samples h a b) where
  abbrev mean16 : Float
  mean16 = s.q_sum ⊘ lit 0x4180_0000

  pub word_mean : (r : ℕ) → r ≡ 0 → mean16 ≡ lane_word (model_from h a b) r
  unfolding lane_word model_of q_sums_at
  word_mean r z = rw (z, e, sixteen)

  pub word_denom : (r : ℕ) → r ≡ 1 → s.q2_sum ⊖ s.q_sum ⊗ mean16 ≡ lane_word (model_from h a b) r
  unfolding lane_word model_of q_sums_at
  word_denom r z = rw (z, e, sixteen)

  pub word_centered : (r : ℕ) (x : Float) → (r ≡ 0 → ⊥) → (r ≡ 1 → ⊥) → r < 18 → x ≡ q_at h a b (r - 2) → x ⊖ mean16 ≡ lane_word (model_from h a b) r
  unfolding lane_word model_of q_sums_at
  word_centered r x no0 no1 l d =
      let i : r - 2 < ring_samples = omega arith in
      rw (
        ne_eqb r 0 no0,
        ne_eqb r 1 no1,
        d,
        e,
        tab_at (λ i. q_at h a b i ⊖ (iter (λ i. q_summed (q_at h a b i)) no_qSums ring_samples).q_sum ⊘ count ring_samples) nan ring_samples (r - 2) i,
        sixteen,
      )

-- ---- the first that passes
module _ (p : ℕ → Bool) (k t : ℕ) where
  pub first_here : t < k → p t ≡ true → Some t ≡ first_from p (k - t) t
  unfolding first_from
  first_here l e = let z : k - t ≡ suc (k - (t + 1)) = omega arith in rw (z, e)

  pub first_skip : t < k → p t ≡ false → first_from p (k - (t + 1)) (t + 1) ≡ first_from p (k - t) t
  unfolding first_from
  first_skip l e = let z : k - t ≡ suc (k - (t + 1)) = omega arith in rw (z, e)

  pub first_none : k ≤ t → None ≡ first_from p (k - t) t
  unfolding first_from
  first_none l = let z : k - t ≡ 0 = omega arith in rw z

first_same : (p q : ℕ → Bool) (left i k : ℕ) → i + left ≤ k → ((t : ℕ) → t < k → p t ≡ q t) → first_from p left i ≡ first_from q left i
unfolding first_from
first_same p q zero i k l h = refl
first_same p q (suc left) i k l h = rw (h i (omega arith), first_same p q left (i + 1) k (omega arith) h)

abbrev pub is_at : Row → Row → ℕ → Bool
is_at words ring_phi t = is_ring_phi ring_samples ring_phi (take ring_samples (drop (1 + t * table_size) words))

pub near_is : (near : Bool) (words ring_phi : Row) (t : ℕ) → length ring_phi ≡ ring_samples
    → near ≡ is_ring_phi (length ring_phi) ring_phi (take (1 + t * table_size + ring_samples - (1 + t * table_size)) (drop (1 + t * table_size) words))
    → near ≡ is_at words ring_phi t
near_is near words ring_phi t l e =
    let d : 1 + t * table_size + ring_samples - (1 + t * table_size) ≡ ring_samples = omega arith in
    rw (l, d) at e

pub first_is : (words ring_phi : Row) → first_from (is_at words ring_phi) (held_in words) 0 ≡ first_table ring_samples (tables_in words) ring_phi
unfolding first_table tables_in
first_is words ring_phi =
    let k = held_in words in
    let inside = first_same (is_at words ring_phi) (λ t. is_ring_phi ring_samples ring_phi (table_at (tab (table_in words) k) t).angles) k 0 k (omega arith) in
    rw (tab_length (table_in words) k) (inside (λ t l. same t (tab_at (table_in words) _ k t l)))
  where
    same : (t : ℕ) {x : Table} → x ≡ table_in words t → is_at words ring_phi t ≡ is_ring_phi ring_samples ring_phi x.angles
    same t e = rw (e, take-take ring_samples table_size (drop (1 + t * table_size) words) (lit≤ tt))
