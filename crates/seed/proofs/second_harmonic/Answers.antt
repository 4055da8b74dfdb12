-- The sums are those of the doubled angles, and the rest is straight steps. Assumes nothing.
use Rattle.seed.specs.Seed as S
use Rattle.seed.specs.BufferLaws.{waves_split}
use Rattle.seed.proofs.second_harmonic.Goals as goal

pub returns : goal.returns
unfolding S.second_harmonic S.harmonic
returns c =
    let doubled = c.double_all.ensures in
    let sines = c.sin_cos_all.ensures in
    let waves = c.wave_sums-w.ensures in
    let split = waves_split c.args.samples.now c.args.ring_phi.now _ _ _ c.args.mean _ c.requires.phi in
    let angle = c.settled-theta.ensures in
    rw (← split doubled sines waves, angle, c.atan2.ensures, c.sqrt-root.ensures, c.count_f32.ensures)
