-- What the contracts of crates/seed say of the lent buffers of the second harmonic. Definitions only.
use Rattle.std.specs.Prelude.{◌≡◌, ℕ, ◌≤◌, length, Float}
use Rattle.floats.specs.Ops.{◌⊕◌, ◌⊖◌, ◌⊗◌, lit}
use Rattle.floats.specs.Rows.{Row, at}
use Rattle.elementary.specs.Elementary.{turn}
use Rattle.solver.specs.Buffers.{max_samples}
use Rattle.loops.specs.Loops.{iter, tab}
use Rattle.seed.specs.declared.Waves.{Waves}
use Rattle.seed.specs.Seed.{calm}

-- every buffer is as long as the samples, of which there are not too many
pub record HarmonicRoom (samples ring_phi turned sphi cphi : Row) : Type 0 where
  pub few : length samples ≤ max_samples
  pub phi : length ring_phi ≡ length samples
  pub t : length turned ≡ length samples
  pub s : length sphi ≡ length samples
  pub c : length cphi ≡ length samples

-- twice each angle, as it is and brought to at most 64 in size
abbrev pub twice : Float → Float
twice phi = lit 0x4000_0000 ⊗ phi

unfoldable pub doubled_near : ℕ → Row → Row
doubled_near n ring_phi = tab (λ i. twice (at ring_phi i)) n

unfoldable pub doubled : ℕ → Row → Row
doubled n ring_phi = tab (λ i. turn (twice (at ring_phi i))) n

-- the sums of the second harmonic, from the sines and cosines of the doubled angles
abbrev pub waved_from : Float → Float → Float → Float → Waves → Waves
waved_from v mean s c w = let d = v ⊖ mean in record { c2 = w.c2 ⊕ d ⊗ c; s2 = w.s2 ⊕ d ⊗ s }

unfoldable pub waves_from : ℕ → Row → Float → Row → Row → Waves
waves_from n samples mean sphi cphi = iter (λ i. waved_from (at samples i) mean (at sphi i) (at cphi i)) calm n
