-- A row that stands is kept, and one that does not is made and marked. Assumes nothing.
use mathlib.Core.Path.{◌≡◌}
use Prim.Native.Nat.{◌+◌, ◌-◌, ◌*◌}
use native.Mathlib.Omega.{arith}
use lib.ListN.{length}
use Rattle.data.specs.Disk.{the_disk}
use Rattle.search.specs.CacheLaws.{cached_more, keeps_marked}
use Rattle.search.proofs.ensure_row.Goals as goal

pub returns : goal.returns
returns c =
    let d = c.args.d in
    let n = length d.xs.now in
    let k = c.args.c in
    let p : k * 320 + n - k * 320 ≡ n = omega arith in (
      rw p (cached_more (the_disk d) _ _ _ k c.requires.1 c.requires.0 d.sized.most c.axis_row.ensures),
      keeps_marked _ _ (omega (arith, c.requires.0, c.requires.1.marks)),
    )
