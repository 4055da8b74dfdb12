-- Which pairs of the grid are allowed, told by computing all 253: those that the 65 blocks of four hold, in the same order. Assumes nothing.
use Rattle.std.specs.Prelude.{◌≡◌, Bool, not, ◌&&◌, ◌||◌, ℕ, zero, suc, ◌<◌, ◌⊎◌, ltb}
use Rattle.std.proofs.Math.Path.{refl}
use Rattle.std.proofs.Common.{ap, arith, eq-or-lt_of_le, le_of_suc-le-suc, inl, inr, ltb→lt}
use Rattle.std.proofs.Math.Bool.{true, false, cond}
use Rattle.std.proofs.Math.Dec.{T}
use Rattle.std.specs.Float.Ieee.{binary32, lt, le, eq, add, sub, mul, rem, neg, of_bits, of_int, round, size}
use Rattle.std.specs.Float.Ieee.Fits.{and_l, and_r}
use Rattle.floats.specs.Ops.{lit, minus}
use Rattle.floats.specs.Library.{abs, rem_euclid, to_radians}
use Rattle.elementary.specs.Elementary.{sin_cos, sin_cos_near, turn}
use Rattle.geometry.specs.Geometry.{signed_line_delta, line_delta, line_separation, valid_pair}
use Rattle.loops.specs.Loops.{iter, range}
use Rattle.seed.specs.Seed.{robust_grid_step_deg}
use Rattle.robust_lanes.specs.Lanes.{grid_places}
use Rattle.robust_grid.specs.Grid.{grid_angle, pair_at, pairs_from, all_pairs}
use Rattle.robust_grid.specs.Places.{step_at, block_steps, block_pair, blocks}

-- the literal of the code: 8 degrees
pub step_is : to_radians robust_grid_step_deg ≡ lit 0x3e0e_fa35
unfolding to_radians mul of_bits
step_is = refl

-- ---- a test that passes at each number below n
every : (ℕ → Bool) → ℕ → Bool
every p zero = true
every p (suc n) = every p n && p n

every_at : (p : ℕ → Bool) (n : ℕ) → T (every p n) → (i : ℕ) → i < n → T (p i)
unfolding every
every_at p zero t i l = absurd (none l)
  where
    none : i < 0 → ⊥
    none l = omega arith
every_at p (suc n) t i l = go (and_r (every p n) (p n) t) (every_at p n (and_l (every p n) (p n) t) i) (eq-or-lt_of_le (le_of_suc-le-suc l))
  where
    go : T (p n) → (i < n → T (p i)) → (i ≡ n) ⊎ (i < n) → T (p i)
    go here earlier (inl e) = rw e here
    go here earlier (inr k) = earlier k

-- ---- no angle of the grid is reduced
near : ℕ → Bool
near a = not (lt (lit 0x4280_0000) (grid_angle a) || lt (grid_angle a) (minus 0x4280_0000))

all_near : T (every near grid_places)
unfolding every near to_radians lt mul neg of_bits of_int round size
all_near = tt

pub grid_near : (a : ℕ) → a < grid_places → sin_cos_near (grid_angle a) ≡ sin_cos (grid_angle a)
unfolding sin_cos turn
grid_near a l =
    let far = lt (lit 0x4280_0000) (grid_angle a) || lt (grid_angle a) (minus 0x4280_0000) in
    ap sin_cos_near (go far (unfold near in every_at near grid_places all_near a l))
  where
    go : (b : Bool) → T (not b) → grid_angle a ≡ cond b (rem binary32 (grid_angle a) (lit 0x40c9_0fdb)) (grid_angle a)
    go true t = absurd t
    go false t = refl

-- ---- the blocks
pub blocks_all : {A : Type 0} (step : ℕ → ℕ → A → A) (x : A) → iter (λ j. block_steps step (block_pair j)) x blocks ≡ all_pairs step x
unfolding iter range block_steps block_pair step_at all_pairs pairs_from pair_at
    valid_pair line_separation line_delta signed_line_delta rem_euclid abs to_radians add sub mul rem neg lt le eq of_bits of_int round size
blocks_all step x = refl

inside : ℕ → Bool
inside j = let p = block_pair j in ltb p.a 21 && ltb p.b 23

all_inside : T (every inside blocks)
unfolding every inside block_pair iter
all_inside = tt

pub block_inside : (j : ℕ) → j < blocks → ((block_pair j).a < 21) × ((block_pair j).b < 23)
unfolding inside
block_inside j l =
    let p = block_pair j in
    let t = every_at inside blocks all_inside j l in
    (ltb→lt p.a 21 (and_l (ltb p.a 21) (ltb p.b 23) t), ltb→lt p.b 23 (and_r (ltb p.a 21) (ltb p.b 23) t))
