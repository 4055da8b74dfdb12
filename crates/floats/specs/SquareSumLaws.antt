-- A square is a NaN or not below zero, and so is a sum of squares, whatever is squared; a sum of what is finite is no NaN. Over the format. Assumes nothing.
use Rattle.std.specs.Prelude.{◌≡◌, ℕ, zero, suc, ◌+◌, ◌-◌, ◌*◌, ◌^◌, ◌≤◌, Bool, true, false, cond, not, ◌&&◌, T, ◌⊎◌, ℤ, pos, nat_lt, Float}
use Rattle.std.proofs.Math.Path.{refl, ap, subst}
use Rattle.std.proofs.Common.{sym, ◌∙◌, inl, true≢false}
use Rattle.std.proofs.Math.Logic.{inr}
use Rattle.std.specs.Bool.{beq}
use Rattle.std.proofs.lemmas.Bool.{false≢true}
use Prim.Native.Nat.{zero-le}
use Rattle.std.proofs.Math.Nat.{zero-mul}
use native.Mathlib.Omega.{arith}
use Rattle.std.proofs.Math.Dec.{ltb→lt}
use Rattle.std.specs.Float.Ieee.{nan, prec, emax, low, up, down, odd, units, round, sum, add, sub, mul, neg, lt, le, fits, is_nan, of_bits}
use Rattle.std.specs.Float.{inf, fin, Format, binary32}
use Rattle.std.specs.Float.Ieee.Scale.{finite}
use Rattle.std.specs.Float.Ieee.Order.{drop, kept}
use Rattle.std.specs.Float.Ieee.Fits.{round_is}
use Rattle.floats.specs.Ops.{nought}
use Rattle.floats.specs.UnitLaws.{Val, le_val, zero_val}
use Rattle.floats.specs.RoundingLaws.{Rep, counted}
use Rattle.floats.specs.NonNegLaws.{plus_nn, zero_nn, le_of}
use Rattle.floats.specs.NanLaws.{add_nan}

-- ---- numbers: infinities or finite
abbrev pub Number : Float → Type 0
Number x = T (not (is_nan x))

-- not below zero, and not -0
abbrev pub Clear : Float → Type 0
Clear nan = ⊥
Clear (inf s) = s ≡ false
Clear (fin s m e) = s ≡ false

-- the same, or -0
abbrev pub Upright : Float → Type 0
Upright nan = ⊥
Upright (inf s) = s ≡ false
Upright (fin s m e) = T s → m ≡ 0

-- the same, or a NaN: what a sum of squares is, whatever is squared
abbrev pub Level : Float → Type 0
Level nan = 0 ≤ 0
Level (inf s) = s ≡ false
Level (fin s m e) = T s → m ≡ 0

pub clear_upright : (x : Float) → Clear x → Upright x
clear_upright nan h = h
clear_upright (inf s) h = h
clear_upright (fin true m e) h = absurd (true≢false h)
clear_upright (fin false m e) h = λ t. absurd t

pub upright_number : (x : Float) → Upright x → Number x
unfolding is_nan
upright_number nan h = absurd h
upright_number (inf s) h = tt
upright_number (fin s m e) h = tt

upright_level : (x : Float) → Upright x → Level x
upright_level nan h = absurd h
upright_level (inf s) h = h
upright_level (fin s m e) h = h

pub level_upright : (x : Float) → Number x → Level x → Upright x
level_upright nan n h = absurd (unfold is_nan in n)
level_upright (inf s) n h = h
level_upright (fin s m e) n h = h

pub nought_level : Level nought
unfolding of_bits
nought_level = λ t. absurd t

zero_above : (e : ℤ) → le nought (fin true zero e) ≡ true
unfolding of_bits
zero_above e = le_val binary32 nought (fin true zero e) false 0 true 0 (zero_val binary32 false (pos 0)) (zero_val binary32 true e)

signed : (P : Float → Type 0) (f : Format) (s : Bool) → P (inf s) → ((m : ℕ) (e : ℤ) → P (fin s m e)) → (q k : ℕ) → P (units f s q k)
unfolding units
signed P f s i h q k = go (nat_lt (q * 2 ^ k) (2 ^ (low f + suc (emax f))))
  where
    digits : (q : ℕ) → P (odd (suc (prec f)) s q k (low f))
    digits zero = unfold odd in h zero (pos zero)
    digits (suc q) = unfold odd in h _ _

    go : (b : Bool) → P (cond b (odd (suc (prec f)) s q k (low f)) (inf s))
    go true = digits q
    go false = i

-- ---- rounded, added and multiplied
module _ (f : Format) where
  rounded_signed : (P : Float → Type 0) (s : Bool) (a c : ℕ) → P (inf s) → ((m : ℕ) (e : ℤ) → P (fin s m e)) → P (round f s a c)
  rounded_signed P s a c i h = subst P (sym (round_is f s a c)) (signed P f s i h (kept (prec f) (a * 2 ^ low f) c) (drop (prec f) (a * 2 ^ low f) c))

  pub round_number : (s : Bool) (a c : ℕ) → Number (round f s a c)
  unfolding is_nan
  round_number s a c = rounded_signed Number s a c tt (λ m e. tt)

  pub round_clear : (a c : ℕ) → Clear (round f false a c)
  round_clear a c = rounded_signed Clear false a c refl (λ m e. refl)

  sum_number : (s : Bool) (a : ℕ) (t : Bool) (b c : ℕ) → Number (sum f s a t b c)
  unfolding sum
  sum_number s a t b c = go (beq s t) (nat_lt a b) _ _ _ (round_number s (a + b) c) (round_number t (b - a) c) (round_number (s && nat_lt b a) (a - b) c)
    where
      go : (u v : Bool) (x y z : Float) → Number x → Number y → Number z → Number (cond u x (cond v y z))
      go true v x y z h k l = h
      go false true x y z h k l = k
      go false false x y z h k l = l

  -- the second sign is clear, and the first too or its number 0
  sum_clear : (s : Bool) (a b c : ℕ) → (T s → a ≡ 0) → Clear (sum f s a false b c)
  unfolding sum
  sum_clear false a b c h = round_clear (a + b) c
  sum_clear true a b c h = go (nat_lt a b) (nat_lt b a) (never (h tt))
    where
      never : a ≡ 0 → T (nat_lt b a) → ⊥
      never e t = let l = ltb→lt b a t in omega arith

      go : (u v : Bool) → (T v → ⊥) → Clear (cond u (round f false (b - a) c) (round f v (a - b) c))
      go true v n = round_clear (b - a) c
      go false true n = absurd (n tt)
      go false false n = round_clear (a - b) c

  pub add_number : (x y : Float) → Number x → T (finite y) → Number (add f x y)
  unfolding add
  add_number nan y h k = absurd (unfold is_nan in h)
  add_number (inf s) nan h k = absurd k
  add_number (inf s) (inf t) h k = absurd k
  add_number (inf s) (fin t n d) h k = unfold is_nan in tt
  add_number (fin s m e) nan h k = absurd k
  add_number (fin s m e) (inf t) h k = absurd k
  add_number (fin s m e) (fin t n d) h k = sum_number s (m * up e * down d) t (n * up d * down e) (down e * down d)

  pub sub_number : (x y : Float) → T (finite x) → Number y → Number (sub f x y)
  unfolding sub add neg
  sub_number nan y h k = absurd h
  sub_number (inf s) y h k = absurd h
  sub_number (fin s m e) nan h k = absurd (unfold is_nan in k)
  sub_number (fin s m e) (inf t) h k = unfold is_nan in tt
  sub_number (fin s m e) (fin t n d) h k = sum_number s (m * up e * down d) (not t) (n * up d * down e) (down e * down d)

  pub square_clear : (x : Float) → Number x → Clear (mul f x x)
  unfolding mul
  square_clear nan h = absurd (unfold is_nan in h)
  square_clear (inf true) h = refl
  square_clear (inf false) h = refl
  square_clear (fin true m e) h = round_clear (m * up e * (m * up e)) (down e * down e)
  square_clear (fin false m e) h = round_clear (m * up e * (m * up e)) (down e * down e)

  pub add_upright : (x y : Float) → Upright x → Clear y → Clear (add f x y)
  unfolding add
  add_upright nan y h k = absurd h
  add_upright (inf s) nan h k = absurd k
  add_upright (inf true) (inf t) h k = absurd (true≢false h)
  add_upright (inf false) (inf true) h k = absurd (true≢false k)
  add_upright (inf false) (inf false) h k = refl
  add_upright (inf s) (fin t n d) h k = h
  add_upright (fin s m e) nan h k = absurd k
  add_upright (fin s m e) (inf t) h k = k
  add_upright (fin s m e) (fin true n d) h k = absurd (true≢false k)
  add_upright (fin s m e) (fin false n d) h k = sum_clear s (m * up e * down d) (n * up d * down e) (down e * down d) (λ t. none (h t))
    where
      none : m ≡ 0 → m * up e * down d ≡ 0
      none z = ap (λ (w : ℕ). w * up e * down d) z ∙ ap (λ (w : ℕ). w * down d) (zero-mul (up e)) ∙ zero-mul (down d)

  square_is : (r : Float) → (mul f r r ≡ nan) ⊎ Clear (mul f r r)
  square_is nan = inl (unfold mul in refl)
  square_is (inf s) = inr (square_clear (inf s) (unfold is_nan in tt))
  square_is (fin s m e) = inr (square_clear (fin s m e) (unfold is_nan in tt))

  sum_level : (x y : Float) → Level x → Clear y → Level (add f x y)
  sum_level nan y h k = unfold add in omega arith
  sum_level (inf s) y h k = upright_level (add f (inf s) y) (clear_upright (add f (inf s) y) (add_upright (inf s) y h k))
  sum_level (fin s m e) y h k = upright_level (add f (fin s m e) y) (clear_upright (add f (fin s m e) y) (add_upright (fin s m e) y h k))

  pub add_level : (x r : Float) → Level x → Level (add f x (mul f r r))
  add_level x r h = go (square_is r)
    where
      go : (mul f r r ≡ nan) ⊎ Clear (mul f r r) → Level (add f x (mul f r r))
      go (inl e) = subst (λ (y : Float). Level (add f x y)) (sym e) (subst Level (sym (add_nan f x)) (omega arith))
      go (inr c) = sum_level x (mul f r r) h c

  -- a number that is a sum of squares is not below 0
  pub upright_above : (x : Float) → T (fits f x) → Upright x → T (le nought x)
  upright_above nan p h = absurd h
  upright_above (inf true) p h = absurd (true≢false h)
  upright_above (inf false) p h = unfold le lt of_bits in tt
  upright_above (fin true m e) p h = subst (λ (k : ℕ). T (le nought (fin true k e))) (sym (h tt)) (subst T (sym (zero_above e)) tt)
  upright_above (fin false m e) p h = let c = counted f (fin false m e) p tt in go c.sign c.count c.val c.rep
    where
      go : (s : Bool) (n : ℕ) → Val f (fin false m e) s n → Rep f n → T (le nought (fin false m e))
      go true n v r = absurd (false≢true v.0)
      go false n v r = unfold of_bits in le_of f nought (fin false m e) 0 n (zero_nn f) (plus_nn f (fin false m e) n v r) zero-le
