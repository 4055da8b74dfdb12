-- Rust's operators on f32 and f64 under short signs, and the constants that the Rust text names. Definitions only.
-- Each sign is one operation of IEEE 754, rounded once: `mu ⊕ amp ⊗ h` is Rust's `mu + amp * h` in f32, and the boxed signs are f64's.
use Rattle.std.specs.Prelude.{ℕ, from_bits, Float}
use Rattle.std.specs.Float.{binary32, binary64}
use Rattle.std.specs.Float.Ieee.{add, sub, mul, div, neg}

infixl 71 ◌⊕◌ ◌⊖◌ ◌⊞◌ ◌⊟◌
infixl 72 ◌⊗◌ ◌⊘◌ ◌⊠◌ ◌⧄◌
abbrev pub ◌⊕◌ : Float → Float → Float
x ⊕ y = add binary32 x y

abbrev pub ◌⊖◌ : Float → Float → Float
x ⊖ y = sub binary32 x y

abbrev pub ◌⊗◌ : Float → Float → Float
x ⊗ y = mul binary32 x y

abbrev pub ◌⊘◌ : Float → Float → Float
x ⊘ y = div binary32 x y

abbrev pub ◌⊞◌ : Float → Float → Float
x ⊞ y = add binary64 x y

abbrev pub ◌⊟◌ : Float → Float → Float
x ⊟ y = sub binary64 x y

abbrev pub ◌⊠◌ : Float → Float → Float
x ⊠ y = mul binary64 x y

abbrev pub ◌⧄◌ : Float → Float → Float
x ⧄ y = div binary64 x y

-- the f32 with this bit pattern, and its negative: how a literal of the code stands here
abbrev pub lit : ℕ → Float
lit b = from_bits binary32 b

abbrev pub minus : ℕ → Float
minus b = neg (from_bits binary32 b)

abbrev pub nought : Float
nought = lit 0

abbrev pub one : Float
one = lit 0x3f80_0000

-- core::f32::consts
abbrev pub pi : Float
pi = lit 0x4049_0fdb

abbrev pub tau : Float
tau = lit 0x40c9_0fdb

abbrev pub half_pi : Float
half_pi = lit 0x3fc9_0fdb

abbrev pub quarter_pi : Float
quarter_pi = lit 0x3f49_0fdb
