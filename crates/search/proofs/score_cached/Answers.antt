-- Two parts of the cache are lent, and a + n - a is n. Assumes nothing.
use mathlib.Core.Path.{◌≡◌, sym}
use Prim.Native.Nat.{◌+◌, ◌-◌, ◌*◌}
use native.Mathlib.Omega.{arith}
use lib.ListN.{length}
use Rattle.search.specs.Cache.{cached_score}
use Rattle.search.proofs.score_cached.Goals as goal

pub returns : goal.returns
unfolding cached_score
returns c =
    let d = c.args.d in
    let n = length d.xs.now in
    let i = c.args.p.i in
    let j = c.args.p.j in
    let x : i * 320 + n - i * 320 ≡ n = omega arith in
    let y : j * 320 + n - j * 320 ≡ n = omega arith in
    rw (x, y) at (c.score_pair_cached.ensures d.xs.now d.ys.now d.grad_angles.now d.grad_weights.now (sym d.sized.v))
