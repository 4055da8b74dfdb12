-- The sums of the second harmonic from rows of sines are those of the definition: an angle up to 64 in size is not reduced, and a row's element is
-- its sample's own. Assumes nothing.
use Rattle.std.specs.Prelude.{◌≡◌, ℕ, ◌<◌, length, Float}
use Rattle.std.proofs.Common.{◌∙◌}
use Rattle.std.proofs.Math.Path.{ap}
use Rattle.std.specs.Float.{nan}
use Rattle.floats.specs.Rows.{Row, at}
use Rattle.elementary.specs.Elementary.{sin_cos, sin_cos_near, turn}
use Rattle.elementary.specs.declared.SinCos.{SinCos}
use Rattle.loops.specs.Loops.{tab}
use Rattle.loops.proofs.IterLaws.{iter_same}
use Rattle.loops.proofs.TabLaws.{tab_at, tab_length, tab_same}
use Rattle.seed.specs.declared.Waves.{Waves}
use Rattle.seed.specs.Seed.{waved_by, waves}
use Rattle.solver.specs.Buffers.{TurnedTo, Sines}
use Rattle.seed.specs.Buffers.{twice, doubled_near, doubled, waves_from}

-- doubled first, and turned after
pub turned_doubled : (n : ℕ) (ring_phi near turned : Row) → near ≡ doubled_near n ring_phi → TurnedTo near turned → turned ≡ doubled n ring_phi
unfolding doubled_near doubled
turned_doubled n ring_phi near turned e h =
    h.is ∙ ap (tab (λ i. turn (at near i))) (ap length e ∙ tab_length _ n)
    ∙ tab_same _ _ n (λ i l. ap turn (ap (λ (r : Row). at r i) e ∙ tab_at (λ i. twice (at ring_phi i)) nan n i l))

-- ---- rows first, sums after
module _ (samples ring_phi turned sphi cphi : Row) (mean : Float) (w : Waves) (same : length ring_phi ≡ length samples) where
  abbrev n : ℕ
  n = length samples

  pub waves_split : turned ≡ doubled (length ring_phi) ring_phi → Sines turned sphi cphi → w ≡ waves_from n samples mean sphi cphi
      → w ≡ waves n samples ring_phi mean
  unfolding waves_from waves waved_by doubled sin_cos
  waves_split t h e = e ∙ iter_same _ _ _ n (λ i l x. rw (place i l (λ u. u.s) sphi h.s, place i l (λ u. u.c) cphi h.c))
    where
      t' : turned ≡ tab (λ i. turn (twice (at ring_phi i))) n
      t' = t ∙ ap (tab (λ i. turn (twice (at ring_phi i)))) same

      len : length turned ≡ n
      len = ap length t' ∙ tab_length _ n

      place : (i : ℕ) → i < n → (f : SinCos → Float) (row : Row) → row ≡ tab (λ i. f (sin_cos_near (at turned i))) (length turned)
          → at row i ≡ f (sin_cos_near (turn (twice (at ring_phi i))))
      place i l f row e =
          ap (λ (r : Row). at r i) (e ∙ ap (tab (λ i. f (sin_cos_near (at turned i)))) len) ∙ tab_at (λ i. f (sin_cos_near (at turned i))) nan n i l
          ∙ ap (λ (x : Float). f (sin_cos_near x)) (ap (λ (r : Row). at r i) t' ∙ tab_at (λ i. turn (twice (at ring_phi i))) nan n i l)
