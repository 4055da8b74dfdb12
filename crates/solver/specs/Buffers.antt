-- What the lent buffers of a start hold, and the sums in which a pass leaves its normal matrix. Definitions only.
use Rattle.std.specs.Prelude.{◌≡◌, List, [], ◌∷◌, ℕ, ◌≤◌, ◌<◌, length, get_or}
use Rattle.std.specs.Float.{nan}
use Rattle.floats.specs.Ops.{◌⊕◌, ◌⊗◌, nought, one}
use Rattle.elementary.specs.Elementary.{sin_cos_near, turn}
use Rattle.elementary.specs.declared.SinCos.{SinCos}
use Rattle.loops.specs.Loops.{iter, tab}
use Rattle.floats.specs.Rows.{Row, at}
use Rattle.solver_record.specs.declared.Params.{Params}
use Rattle.solver.specs.declared.Sample.{Sample}
use Rattle.solver.specs.declared.Sums.{Sums}
use Rattle.solver.specs.Solver.{sample_at, Normal, empty, added, sines, cosines, Final}

-- ---- the angles
-- the first n angles are so near that turning leaves them
pub record RingNear (n : ℕ) (ring_phi : Row) : Type 0 where
  pub is : (i : ℕ) → i < n → turn (at ring_phi i) ≡ at ring_phi i

pub record TurnedTo (ring_phi turned : Row) : Type 0 where
  pub is : turned ≡ tab (λ i. turn (at ring_phi i)) (length ring_phi)

pub record Sines (turned sphi cphi : Row) : Type 0 where
  pub s : sphi ≡ tab (λ i. (sin_cos_near (at turned i)).s) (length turned)
  pub c : cphi ≡ tab (λ i. (sin_cos_near (at turned i)).c) (length turned)

-- the sines and cosines of the samples' angles
pub record Prepared (ring_phi sphi cphi : Row) : Type 0 where
  pub s : sphi ≡ sines (length ring_phi) ring_phi
  pub c : cphi ≡ cosines (length ring_phi) ring_phi

-- ---- a pass
-- the most samples that the buffers have room for
abbrev pub max_samples : ℕ
max_samples = 24

-- every buffer of a start has a place for each sample
pub record StartRoom (samples ring_phi sphi cphi : Row) (js : List Sample) : Type 0 where
  pub few : length samples ≤ max_samples
  pub phi : length ring_phi ≡ length samples
  pub s : length sphi ≡ length samples
  pub c : length cphi ≡ length samples
  pub j : length js ≡ length samples

-- sample i as it stands in js
abbrev pub sample_from : List Sample → ℕ → Sample
sample_from js i = get_or js i (record { r = nan; q = nan; d1 = nan; d2 = nan })

-- all samples at the parameters p, whose angles have the sines and cosines t1 and t2
unfoldable pub samples_at : Params → SinCos → SinCos → Row → Row → Row → List Sample
samples_at p t1 t2 samples sphi cphi = tab (λ i. sample_at p t1 t2 (at samples i) (at sphi i) (at cphi i)) (length samples)

-- the normal matrix, the right-hand side and the sum of squares of the samples in js
abbrev pub summed : List Sample → Normal
summed js = iter (λ i. added (sample_from js i)) empty (length js)

-- ---- the same, each entry of the symmetric matrix summed once
abbrev pub no_sums : Sums
no_sums =
    record {
      r = nought;
      q = nought;
      d1 = nought;
      d2 = nought;
      rr = nought;
      rq = nought;
      rd1 = nought;
      rd2 = nought;
      qq = nought;
      qd1 = nought;
      qd2 = nought;
      d1d1 = nought;
      d1d2 = nought;
      d2d2 = nought;
      n = nought;
    }

-- one sample more
abbrev pub packed : Sample → Sums → Sums
packed t s =
    record {
      r = s.r ⊕ one ⊗ t.r;
      q = s.q ⊕ one ⊗ t.q;
      d1 = s.d1 ⊕ one ⊗ t.d1;
      d2 = s.d2 ⊕ one ⊗ t.d2;
      rr = s.rr ⊕ t.r ⊗ t.r;
      rq = s.rq ⊕ t.r ⊗ t.q;
      rd1 = s.rd1 ⊕ t.r ⊗ t.d1;
      rd2 = s.rd2 ⊕ t.r ⊗ t.d2;
      qq = s.qq ⊕ t.q ⊗ t.q;
      qd1 = s.qd1 ⊕ t.q ⊗ t.d1;
      qd2 = s.qd2 ⊕ t.q ⊗ t.d2;
      d1d1 = s.d1d1 ⊕ t.d1 ⊗ t.d1;
      d1d2 = s.d1d2 ⊕ t.d1 ⊗ t.d2;
      d2d2 = s.d2d2 ⊕ t.d2 ⊗ t.d2;
      n = s.n ⊕ one ⊗ one;
    }

-- what the sums say: a mirrored entry of the matrix is the same sum
abbrev pub spread : Sums → Normal
spread s =
    record {
      m =
          (s.n ∷ s.q ∷ s.d1 ∷ s.d2 ∷ []) ∷ (s.q ∷ s.qq ∷ s.qd1 ∷ s.qd2 ∷ []) ∷ (s.d1 ∷ s.qd1 ∷ s.d1d1 ∷ s.d1d2 ∷ []) ∷
          (s.d2 ∷ s.qd2 ∷ s.d1d2 ∷ s.d2d2 ∷ []) ∷ [];
      v = s.r ∷ s.rq ∷ s.rd1 ∷ s.rd2 ∷ [];
      ssr = s.rr;
    }

-- ---- where the updates stopped, with the sums of the last pass
abbrev pub final : Params → Sums → ℕ → Final
final p s k = record { p = p; last = spread s; updates = k }
