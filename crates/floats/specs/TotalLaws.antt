-- The key of the total order by its three cases: the NaN, a clear sign, a set sign. Assumes nothing.
use Rattle.std.specs.Prelude.{◌≡◌, ◌+◌, ◌-◌, ◌<◌, ◌≤◌, Bool, true, false, cond, not, T, nat_le, refl, Float}
use Rattle.std.proofs.Common.{sym, ap, not-le_of_lt, leb→le}
use Rattle.std.proofs.Math.Dec.{nleb→lt}
use Rattle.std.specs.Float.{nan, binary32}
use Rattle.std.specs.Float.Ieee.{to_bits}
use Rattle.floats.specs.Library.{total_key}

pub key_of_nan : (x : Float) → x ≡ nan → 0xffc00000 ≡ total_key x
unfolding total_key to_bits
key_of_nan x e = sym (ap total_key e)

pub key_clear : (x : Float) → to_bits binary32 x < 0x80000000 → to_bits binary32 x + 0x80000000 ≡ total_key x
unfolding total_key
key_clear x h = go (nat_le 0x80000000 (to_bits binary32 x)) (leb→le 0x80000000 (to_bits binary32 x))
  where
    go : (b : Bool) → (T b → 0x80000000 ≤ to_bits binary32 x) →
        to_bits binary32 x + 0x80000000 ≡ cond b (0xffffffff - to_bits binary32 x) (to_bits binary32 x + 0x80000000)
    go true l = absurd (not-le_of_lt h (l tt))
    go false l = refl

pub key_set : (x : Float) → 0x80000000 ≤ to_bits binary32 x → 0xffffffff - to_bits binary32 x ≡ total_key x
unfolding total_key
key_set x h = go (nat_le 0x80000000 (to_bits binary32 x)) (nleb→lt 0x80000000 (to_bits binary32 x))
  where
    go : (b : Bool) → (T (not b) → to_bits binary32 x < 0x80000000) →
        0xffffffff - to_bits binary32 x ≡ cond b (0xffffffff - to_bits binary32 x) (to_bits binary32 x + 0x80000000)
    go true l = refl
    go false l = absurd (not-le_of_lt (l tt) h)
