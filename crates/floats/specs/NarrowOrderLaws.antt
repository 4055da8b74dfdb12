-- A fraction rounded is a signed size, or an infinity where that is too large, and rounding keeps the order of sizes. Assumes nothing.
use Rattle.std.specs.Prelude.{◌≡◌, ℕ, suc, ◌+◌, ◌*◌, ◌^◌, ◌<◌, ◌≤◌, min, Bool, true, false, cond, not, T, is_nan, nat_lt, refl, Float}
use Rattle.std.proofs.Common.{sym, subst, inl, inr, le_trans, le_of_eq, lt_of_le_of_lt, not-le_of_lt, mul-le-mul_right, arith, ltb→lt, nltb→le}
use Rattle.std.specs.Float.{inf, Format}
use Rattle.std.specs.Float.Ieee.{prec, low, units, odd, round}
use Rattle.std.specs.Float.Ieee.Fits.{round_is, round-fits}
use Rattle.std.specs.Float.Ieee.Exact.{units_val}
use Rattle.std.specs.Float.Ieee.Order.{kept, drop, round_mono}
use Rattle.std.specs.Float.Ieee.Scale.{overflow, grid}
use Rattle.floats.specs.UnitLaws.{Val}
use Rattle.floats.specs.RankLaws.{rank_is, Sized, le→rank, sized_no_nan}

-- a fraction n / c rounded, as a size
abbrev pub G : Format → ℕ → ℕ → ℕ
G f c n = min (grid f n c) (overflow f)

units_over : (f : Format) (s : Bool) (q k : ℕ) → overflow f ≤ q * 2 ^ k → units f s q k ≡ inf s
unfolding units
units_over f s q k h = go (nat_lt (q * 2 ^ k) (overflow f)) (λ t. not-le_of_lt (ltb→lt (q * 2 ^ k) (overflow f) t) h)
  where
    go : (b : Bool) → (T b → ⊥) → cond b (odd (suc (prec f)) s q k (low f)) (inf s) ≡ inf s
    go true t = absurd (t tt)
    go false t = refl

pub fraction_sized : (f : Format) (s : Bool) (n c : ℕ) → Sized f (round f s n c) s (G f c n)
fraction_sized f s n c =
    subst (λ (z : Float). Sized f z s (G f c n)) (sym (round_is f s n c))
    (go (nat_lt (grid f n c) (overflow f)) (ltb→lt (grid f n c) (overflow f)) (nltb→le (grid f n c) (overflow f)))
  where
    q : ℕ
    q = kept (prec f) (n * 2 ^ low f) c

    k : ℕ
    k = drop (prec f) (n * 2 ^ low f) c

    less : (a b : ℕ) → a < b → min a b ≡ a
    less a b h = omega arith

    more : (a b : ℕ) → b ≤ a → min a b ≡ b
    more a b h = omega arith

    go : (b : Bool) → (T b → grid f n c < overflow f) → (T (not b) → overflow f ≤ grid f n c) → Sized f (units f s q k) s (G f c n)
    go true u v =
        let e : G f c n ≡ grid f n c = less (grid f n c) (overflow f) (u tt) in
        inl (subst (λ (z : ℕ). Val f (units f s q k) s z) (sym e) (units_val f s q k (u tt)), lt_of_le_of_lt (le_of_eq e) (u tt))
    go false u v = inr (units_over f s q k (v tt), more (grid f n c) (overflow f) (v tt))

no_nan : (f : Format) (s : Bool) (n c : ℕ) → T (not (is_nan (round f s n c)))
no_nan f s n c = sized_no_nan f (round f s n c) s (G f c n) (fraction_sized f s n c)

pub G-mono : (f : Format) (c a b : ℕ) → 0 < c → a ≤ b → G f c a ≤ G f c b
G-mono f c a b C h =
    strip (overflow f) (G f c a) (G f c b)
    (le_trans (le_of_eq (sym (rank_is f (round f false a c) false (G f c a) (fraction_sized f false a c))))
    (le_trans (le→rank f (round f false a c) (round f false b c) (round-fits f false a c) (round-fits f false b c) (no_nan f false a c)
    (no_nan f false b c) (round_mono f a c b c C C (mul-le-mul_right c h)))
    (le_of_eq (rank_is f (round f false b c) false (G f c b) (fraction_sized f false b c)))))
  where
    strip : (o x y : ℕ) → o + x ≤ o + y → x ≤ y
    strip o x y h = omega arith
