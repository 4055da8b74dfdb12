-- Two stores side by side are one write. Assumes nothing.
use mathlib.Core.List.{[], ◌∷◌}
use mathlib.Core.Path.{◌≡◌}
use Prim.Native.Nat.{◌+◌, ◌/◌, ◌%◌}
use native.Mathlib.Omega.{arith}
use lib.ListN.{length}
use Rattle.hexadecimal.specs.Hex.{hex_of, byte_text, put}
use Rattle.hexadecimal.specs.HexLaws.{put_one, put_put, put_length}
use Rattle.hexadecimal.proofs.put_byte.Goals as goal

pub returns : goal.returns
unfolding byte_text
returns c =
    let l = c.args.out.now in
    let at = c.args.at in
    let a = hex_of (c.args.b / 16) in
    let b = hex_of (c.args.b % 16) in
    let n : length (put l at (a ∷ [])) ≡ length l = put_length l at (a ∷ []) (omega arith) in
    rw (
      c.hex-h.ensures,
      c.hex-l.ensures,
      put_one l at a (omega arith),
      put_one (put l at (a ∷ [])) (at + 1) b (omega arith),
      put_put l at (a ∷ []) (b ∷ []) (at + 1) (omega arith) (omega arith),
    )
