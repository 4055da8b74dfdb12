-- Angles of undirected lines, modulo PI: disk_sector/geometry.rs, and its twin in ring_fit/seed.rs. Definitions only.
use Rattle.std.specs.Prelude.{◌≡◌, Bool, not, ◌&&◌, T, Float}
use Rattle.std.specs.Float.{nan, binary32}
use Rattle.std.specs.Float.Ieee.{le}
use Rattle.std.specs.Float.Ieee.Scale.{finite}
use Rattle.floats.specs.Ops.{◌⊕◌, ◌⊖◌, lit, pi, half_pi}
use Rattle.floats.specs.Library.{abs, max, min, rem_euclid, to_radians}

-- geometry.rs: wrap_pi
unfoldable pub wrap_pi : Float → Float
wrap_pi a = rem_euclid binary32 a pi

-- geometry.rs: signed_line_delta. PI * 0.5 is exact.
unfoldable pub signed_line_delta : Float → Float → Float
signed_line_delta a b = rem_euclid binary32 (a ⊖ b ⊕ half_pi) pi ⊖ half_pi

-- geometry.rs: line_delta
unfoldable pub line_delta : Float → Float → Float
unfolding signed_line_delta
line_delta a b = abs (signed_line_delta a b)

-- geometry.rs and seed.rs: line_separation
unfoldable pub line_separation : Float → Float → Float
unfolding line_delta
line_separation a0 a1 = line_delta a0 a1

-- geometry.rs: pair_disagreement
unfoldable pub pair_disagreement : Float → Float → Float → Float → Float
unfolding line_delta
pair_disagreement a0 a1 b0 b1 =
    let direct = max (line_delta a0 b0) (line_delta a1 b1) in
    let swapped = max (line_delta a0 b1) (line_delta a1 b0) in
    min direct swapped

-- 12 and 89.5 degrees
abbrev pub min_separation : Float
min_separation = to_radians (lit 0x4140_0000)

abbrev pub max_separation : Float
max_separation = to_radians (lit 0x42b3_0000)

-- geometry.rs: valid_pair; seed.rs: valid_seed_pair
unfoldable pub valid_pair : Float → Float → Bool
unfolding line_separation
valid_pair a0 a1 = let sep = line_separation a0 a1 in le min_separation sep && le sep max_separation

-- What the contracts say of ranges, beside their equations: r, made of x, lies from low to high, both included, where x is a number that is finite,
-- and is NaN where x is NaN or an infinity.
pub record WrappedBetween (from to x r : Float) : Type 0 where
  pub low : T (finite x) → T (le from r)
  pub high : T (finite x) → T (le r to)
  pub wild : T (not (finite x)) → r ≡ nan
