-- How an answered rms is made, and what an rms of 0 says of the sum of squares behind it. Definitions only.
use Rattle.std.specs.Prelude.{◌≡◌, false, true, not, ℕ, ◌+◌, ◌*◌, ◌/◌, ◌^◌, ◌<◌, negsuc, T, Float}
use Rattle.std.specs.Float.{fin, binary32}
use Rattle.std.specs.Float.Ieee.{le, eq, round, is_nan}
use Rattle.floats.specs.Ops.{◌⊘◌, lit, nought}
use Rattle.floats.specs.Rows.{count}
use Rattle.floats.specs.UnitLaws.{Val}
use Rattle.floats.specs.Library.{max, sqrt}
use Rattle.robust_choice.specs.Choice.{Source, of_pass, of_seed}

-- the root of the mean square of a pass, or of the variance, one below zero taken as 0
abbrev pub MadeOf : ℕ → Float → Float → Source → Type 0
MadeOf n centered_var rms (of_pass end) = rms ≡ sqrt binary32 (end.last.ssr ⊘ count n)
MadeOf n centered_var rms (of_seed seed) = rms ≡ sqrt binary32 (max centered_var nought)

-- half of n units of 2 ^ -149, the smallest f32 above 0: 2 ^ -146 of 16 samples
abbrev pub half : ℕ → Float
half n = lit (n / 2)

-- a number, not below 0, and at most half of n units: the largest sum whose n-th part rounds to 0
pub record Tiny (n : ℕ) (s : Float) : Type 0 where
  pub number : T (not (is_nan s))
  pub above : T (le nought s)
  pub small : T (le s (half n))

-- one unit
abbrev pub one_unit : Float
one_unit = fin false 1 (negsuc 148)

-- what makes half of n units the bound: n and its half are floats as they are, an n-th part of half of n units has the root 0, and an n-th part of
-- one unit more rounds to one unit
pub record Share (n : ℕ) : Type 0 where
  pub some : 0 < n
  pub whole : Val binary32 (count n) false (n * 2 ^ 149)
  pub halves : Val binary32 (half n) false (n / 2)
  pub met : eq (sqrt binary32 (half n ⊘ count n)) nought ≡ true
  pub over : round binary32 false (n / 2 + 1) (n * 2 ^ 149) ≡ one_unit
