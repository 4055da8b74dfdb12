-- What Rust's library does on f32 and f64, for every value: NaN, infinities, both zeros and subnormals. Definitions only.
-- What Rust leaves open docs/RULES.md, Floats, decides: a NaN counts as 7fc00000, and `max` and `min` take +0 as greater than -0.
use Rattle.std.specs.Prelude.{ℕ, zero, suc, ◌+◌, ◌-◌, ◌*◌, ◌/◌, ◌%◌, ◌^◌, Bool, true, false, cond, not, ◌&&◌, ◌||◌, pos, negsuc, is_nan, nat_le, nat_lt}
use Rattle.std.specs.Prelude.{to_bits, Float}
use Rattle.std.specs.Float.{nan, inf, fin, Format, binary32}
use Rattle.std.specs.Float.Ieee.{prec, emax, low, up, down, size, units, round, add, rem, neg, lt, eq, to_unsigned}
use Rattle.floats.specs.Ops.{◌⊗◌, ◌⊘◌, lit, nought, one, pi}
use Rattle.floats.specs.Rows.{count}

-- whether the sign is set, that of a zero or an infinity too
unfoldable pub negative : Float → Bool
negative nan = false
negative (inf s) = s
negative (fin s m e) = s

-- f32::abs
unfoldable pub abs : Float → Float
abs nan = nan
abs (inf s) = inf false
abs (fin s m e) = fin false m e

-- f32::signum: 1 with the sign of x, of a zero too
unfoldable pub signum : Float → Float
signum x = cond (is_nan x) nan (cond (negative x) (neg one) one)

-- x is below y, or is -0 where y is +0
unfoldable pub before : Float → Float → Bool
before x y = lt x y || (eq x y && (negative x && not (negative y)))

-- f32::max, f64::max
unfoldable pub max : Float → Float → Float
max x y = cond (is_nan x) y (cond (is_nan y) x (cond (before x y) y x))

-- f32::min
unfoldable pub min : Float → Float → Float
min x y = cond (is_nan x) y (cond (is_nan y) x (cond (before y x) y x))

-- f32::to_radians: times the f32 quotient PI/180
unfoldable pub to_radians : Float → Float
to_radians x = x ⊗ lit 0x3c8e_fa35

-- f32::rem_euclid: `%`, and the divisor added where that is below zero. The sum is rounded, so the divisor itself can come out.
unfoldable pub rem_euclid : Format → Float → Float → Float
rem_euclid f x d = let r = rem f x d in cond (lt r nought) (add f r d) r

-- The square root. `whole_root d n` is the whole root of an n below 4 ^ d: its square is at most n, and the next number's is above n.
abbrev pub stepped : ℕ → ℕ → ℕ
stepped r n = cond (nat_le (suc r * suc r) n) (suc r) r

unfoldable pub whole_root : ℕ → ℕ → ℕ
whole_root zero n = 0
whole_root (suc d) n = stepped (2 * whole_root d (n / 4)) n

-- the middle between q * 2 ^ k and the next number of that many digits, twice
abbrev pub middle : ℕ → ℕ → ℕ
middle q k = (2 * q + 1) * 2 ^ k

-- The root of N, in units of the format's smallest value, rounded to the nearest: the square of the middle is compared with N.
unfoldable pub root_units : Format → ℕ → Float
unfolding whole_root size units
root_units f N =
    let w = whole_root (2 * (low f + suc (emax f))) N in
    let k = size w - prec f in
    let q = w / 2 ^ k in
    units f false (cond (nat_lt (middle q k * middle q k) (4 * N)) (suc q) q) k

-- f32::sqrt, as IEEE 754 has it: correctly rounded
unfoldable pub sqrt : Format → Float → Float
unfolding root_units
sqrt f nan = nan
sqrt f (inf s) = cond s nan (inf false)
sqrt f (fin s zero e) = fin s zero e
sqrt f (fin true (suc m) e) = nan
sqrt f (fin false (suc m) e) = root_units f (suc m * up e * 2 ^ low f / down e * 2 ^ low f)

-- f64 `as f32`: to nearest, ties to even
unfoldable pub narrow : Float → Float
unfolding round
narrow nan = nan
narrow (inf s) = inf s
narrow (fin s m e) = round binary32 s (m * up e) (down e)

-- f32::total_cmp as the order of whole numbers: the patterns with the sign's bit backwards, and then the others
abbrev pub key_of : ℕ → ℕ
key_of b = cond (nat_le 0x8000_0000 b) (0xffff_ffff - b) (b + 0x8000_0000)

unfoldable pub total_key : Float → ℕ
total_key x = key_of (to_bits binary32 x)

-- f32::floor: the greatest whole number that is no greater
unfoldable pub floor : Format → Float → Float
unfolding round
floor f nan = nan
floor f (inf s) = inf s
floor f (fin s m (pos k)) = fin s m (pos k)
floor f (fin false m (negsuc k)) = round f false (m / 2 ^ suc k) 1
floor f (fin true m (negsuc k)) = round f true ((m + (2 ^ suc k - 1)) / 2 ^ suc k) 1

-- f32 `as usize`: toward zero, brought into range, 0 for a NaN
abbrev pub to_index : Float → ℕ
to_index x = to_unsigned 64 x

-- candidates.rs: HIST_BINS, and ((angle / PI) * HIST_BINS as f32).floor() as usize % HIST_BINS
abbrev pub hist_bins : ℕ
hist_bins = 72

unfoldable pub bin : Float → ℕ
bin a = to_index (floor binary32 (a ⊘ pi ⊗ count hist_bins)) % hist_bins
