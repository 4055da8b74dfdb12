-- The rows are the definition's, and so is the best seed of them, in full arrays and in parts. Assumes nothing.
use Rattle.std.proofs.Common.{◌∙◌, ◌≡◌, sym, subst, take, length, length-take-le, arith}
use Rattle.std.proofs.Math.Seq.{take-length}
use Rattle.robust_grid.specs.Places.{Grid}
use Rattle.robust_grid.specs.PlaceLaws.{grid_best}
use Rattle.robust.proofs.grid_seed.Goals as goal

pub returns-then-n : goal.returns-then-n
returns-then-n g c =
    let a = c.args in
    let r = a.ring.now in
    let full : length r.samples.now ≡ length a.centered.now = omega (arith, c.if-n.true, c.told-centered) in
    let rows = subst (Grid r.sphi.now r.cphi.now _) (r.sines ∙ full) c.fill_grid.ensures in
    rw (full, take-length) (c.best_seed_of_slice.ensures ∙ grid_best rows a.centered.now a.centered_ss a.mean)

pub returns : goal.returns
returns g c =
    let a = c.args in
    let r = a.ring.now in
    let n = length r.samples.now in
    let part = take n a.centered.now in
    let size : length part ≡ n = length-take-le n a.centered.now (omega (arith, c.requires.0, c.told-centered)) in
    let rows = subst (Grid r.sphi.now r.cphi.now _) (r.sines ∙ sym size) c.fill_grid-2.ensures in
    rw size at (c.best_seed_of_slice-2.ensures ∙ grid_best rows part a.centered_ss a.mean)
