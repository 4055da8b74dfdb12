-- The table comes back in its place, and then the count is set. Assumes nothing.
use mathlib.Core.Path.{◌≡◌}
use Prim.Native.Nat.{◌+◌, ◌-◌, ◌*◌}
use native.Mathlib.Omega.{arith}
use Rattle.seed_models.specs.WordLaws.{stored_is}
use Rattle.seed_models.proofs.store.Goals as goal

pub returns : goal.returns
returns c =
    let t = c.held-t.result in
    let d : 1 + t * 4696 + 4696 - (1 + t * 4696) ≡ 4696 = omega arith in
    stored_is c.args.words.now c.args.angles.now _ t _ _ c.held-t.ensures.0 d c.build_table.ensures c.count_f32.ensures
