-- Two parts of the buffer are lent, and a + n - a is n. Assumes nothing.
use mathlib.Core.Path.{◌≡◌}
use Prim.Native.Nat.{◌+◌, ◌-◌, ◌*◌}
use native.Mathlib.Omega.{arith}
use lib.ListN.{length}
use Rattle.search_rows.specs.Rows.{held_score}
use Rattle.search_rows.proofs.score_held.Goals as goal

pub returns : goal.returns
unfolding held_score
returns c = λ xs ys angles weights l.
    let n = length c.args.vals_centered.now in
    let i = c.args.i in
    let j = c.args.j in
    let p : i * 320 + n - i * 320 ≡ n = omega arith in
    let z : j * 320 + n - j * 320 ≡ n = omega arith in
    rw (l, ← c.combine_edge_pair.ensures) (rw (p, z, l) at (c.score_pair_cached.ensures xs ys angles weights l))
