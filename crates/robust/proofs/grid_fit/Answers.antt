-- Without a sum there is no grid; with one the best seed's start is made. Assumes nothing.
use Rattle.std.proofs.Common.{◌∙◌, ap, length, take_at}
use Rattle.loops.proofs.TabLaws.{tab_length}
use Rattle.robust.proofs.RobustLaws.{none_centered, sum_centered, grid_missing, grid_made, direct_is, direct_seed_lem}
use Rattle.robust.proofs.grid_fit.Goals as goal

pub returns-in_err-centered_ss : goal.returns-in_err-centered_ss
returns-in_err-centered_ss g c =
    let a = c.args in
    let r = a.ready.now in
    let s = r.ring.samples.now in
    let none = none_centered _ _ _ _ _ _ c.in_err-centered_ss.was c.centered_sum.ensures in
    rw (direct_is (length s) s r.ring_phi.now a.mean a.centered_var) (c.from_residual.ensures ∙ grid_missing _ _ _ _ _ _ none)

pub returns : goal.returns
returns g c =
    let a = c.args in
    let r = a.ready.now in
    let s = r.ring.samples.now in
    let n = length s in
    let sum = sum_centered _ _ _ _ _ _ _ c.in_ok-centered_ss.was c.centered_sum.ensures in
    let seed = direct_seed_lem n s r.ring_phi.now a.mean a.centered_var r.ring.sphi.now r.ring.cphi.now _ _ _ r.phi r.sines r.cosines in
    let front = take_at _ _ n (ap length sum.1 ∙ tab_length _ n) in
    let best = seed (front ∙ sum.1) sum.2 c.grid_seed-top.ensures in
    let made = grid_made _ n s r.ring_phi.now a.mean a.centered_var _ sum.0 best c.refined.ensures in
    rw (direct_is n s r.ring_phi.now a.mean a.centered_var) made
