-- A residual of 0 of n samples is made of a sum that is a number, not below 0 and at most half of n units of 2 ^ -149: only a zero has the root 0, an
-- n-th part rounds to 0, or below, only from half of n units down, and a sum of squares is a NaN or not below 0. Of finite samples the deviations are
-- no NaN: what is added is never below zero, so no infinity meets one of the other sign. Assumes nothing.
use Rattle.std.specs.Prelude.{◌≡◌, Bool, true, cond, ◌&&◌, ◌||◌, List, ℕ, zero, suc, ◌+◌, ◌*◌, ◌/◌, ◌^◌, ◌≤◌, ◌<◌, leb, ltb, eqb}
use Rattle.std.proofs.Math.Path.{refl, subst}
use Rattle.std.proofs.Common.{sym, ap, ◌∙◌, true≢false, inl, inr, lt_of_lt_of_le, lt_irrefl, mul-pos, mul-le-mul_right, zero-lt-suc, zero-mul, arith}
use Rattle.std.proofs.Common.{leb→le, eqb→eq, lt→ltb, lit<, pow_pos}
use Rattle.std.proofs.Math.Bool.{false, not}
use Rattle.std.proofs.lemmas.Bool.{false≢true}
use Rattle.std.proofs.Math.Dec.{T, nleb→lt}
use Rattle.std.specs.Float.Ieee.{Float, fin, binary32, up, down, unlike, below, level, round, div, neg, lt, le, eq, fits, is_nan, of_int, of_bits}
use Rattle.std.specs.Float.{nan, inf}
use Rattle.std.specs.Float.Ieee.Scale.{finite}
use Rattle.std.specs.Float.Ieee.Order.{round_mono}
use Rattle.std.specs.Float.Ieee.Exact.{HasValue}
use Rattle.std.specs.Float.Ieee.Fits.{and_l, up_pos, add-fits, div-fits, neg-fits, cond-fits, round-fits}
use Rattle.std.specs.Float.Ieee.Bits.{of_bits-fits}
use Rattle.floats.specs.Ops.{◌⊕◌, ◌⊖◌, ◌⊗◌, ◌⊘◌, nought}
use Rattle.floats.specs.Rows.{Row, at, count}
use Rattle.floats.specs.Library.{negative, before, max, sqrt}
use Rattle.floats.specs.UnitLaws.{Val, eq_val, le_val}
use Rattle.floats.specs.RoundingLaws.{Rep, counted, rep_of}
use Rattle.floats.specs.NonNegLaws.{plus_nn, le_of, or_r, or_l}
use Rattle.floats.specs.RankLaws.{le_le}
use Rattle.floats.specs.SquareSumLaws.{Number, Upright, Level, clear_upright, upright_number, level_upright, nought_level, round_number}
use Rattle.floats.specs.SquareSumLaws.{add_number, sub_number, square_clear, add_upright, add_level, upright_above}
use Rattle.floats.specs.ProductLaws.{div_val}
use Rattle.floats.specs.NearestRootLaws.{root_nearest}
use Rattle.floats.specs.FiniteLaws.{of_true, finite_number}
use Rattle.floats.specs.PartsLaws.{add_parts, sub_parts, mul_parts, div_part, sqrt_part}
use Rattle.loops.specs.Loops.{iter}
use Rattle.loops.proofs.IterLaws.{iter_keeps}
use Rattle.solver.proofs.SoundLaws.{updates_own}
use Rattle.solver.specs.Solver.{sample_at, Normal, empty, added, pass, Final, updates, sines, cosines, finished_at}
use Rattle.solver.specs.Solver.{fit_with_seed}
use Rattle.solver_record.specs.Fit.{degenerate, degenerate_fit, finished, assembled}
use Rattle.solver_record.specs.declared.Params.{Params}
use Rattle.seed_models.specs.Models.{Table}
use Rattle.seed_models.specs.HeldLaws.{TablesHeld}
use Rattle.robust_choice.specs.Choice.{Source, of_pass, of_seed}
use Rattle.robust.specs.Robust.{negative_zero, total, deviations, mean_of, variance_of, start, ring, sum_of, ring_sum}
use Rattle.robust.specs.Record.{record_ring}
use Rattle.robust_choice.specs.Record.{mean_from}
use Rattle.robust.proofs.SoundLaws.{MeanHeld, ring_each}
use Rattle.robust.proofs.RecordLaws.{OwnPass, ring_own, ring_dropped}
use Rattle.robust.specs.Residual.{MadeOf, half, Tiny, one_unit, Share}

-- ---- a root is 0 only of a zero
nought_val : Val binary32 nought false 0
unfolding of_bits
nought_val = (refl, refl)

some_not_zero : (y : Float) (n : ℕ) → 0 < n → Val binary32 y false n → eq y nought ≡ true → ⊥
some_not_zero y n p v e =
    let t : T (eqb n 0 && (true || eqb n 0)) = of_true (sym (eq_val binary32 y nought false n false 0 v nought_val) ∙ e) in
    let z : n ≡ 0 = eqb→eq n 0 (and_l (eqb n 0) (true || eqb n 0) t) in
    lt_irrefl 0 (subst (λ (w : ℕ). 0 < w) z p)

le_of_eq_test : (x y : Float) → eq x y ≡ true → T (le x y)
unfolding le
le_of_eq_test x y e = or_r (lt x y) (eq x y) (of_true e)

zero_root : (x : Float) → T (fits binary32 x) → eq (sqrt binary32 x) nought ≡ true → T (le x nought)
zero_root nan p e = absurd (false≢true (unfold sqrt eq in e))
zero_root (inf true) p e = absurd (false≢true (unfold sqrt eq in e))
zero_root (inf false) p e = absurd (false≢true (unfold sqrt eq of_bits in e))
zero_root (fin s zero k) p e = le_of_eq_test (fin s zero k) nought (unfold sqrt in e)
zero_root (fin true (suc m) k) p e = absurd (false≢true (unfold sqrt eq in e))
zero_root (fin false (suc m) k) p e = let c = counted binary32 (fin false (suc m) k) p tt in absurd (go c.sign c.count c.val c.rep)
  where
    some : (n : ℕ) → suc m * up k * 2 ^ 149 ≡ n * down k → 0 < n
    some zero h = absurd (lt_irrefl 0 (subst (λ (w : ℕ). 0 < w) (h ∙ zero-mul (down k)) (mul-pos (mul-pos (zero-lt-suc m) (up_pos k)) (pow_pos 149))))
    some (suc n) h = zero-lt-suc n

    go : (s : Bool) (n : ℕ) → Val binary32 (fin false (suc m) k) s n → Rep binary32 n → ⊥
    go true n v r = false≢true v.0
    go false n v r =
        let t = root_nearest n r (some n v.1) (fin false (suc m) k) v in
        some_not_zero (sqrt binary32 (fin false (suc m) k)) _ (mul-pos (lt_of_lt_of_le (lit< tt) t.2.digits.0) (pow_pos _)) t.1 e

-- ---- an n-th part is 0 or below only of half of n units or fewer
pub share_16 : Share 16
unfolding of_int of_bits round sqrt eq div
share_16 = record { some = omega arith; whole = (refl, refl); halves = (refl, refl); met = refl; over = refl }

pub share_24 : Share 24
unfolding of_int of_bits round sqrt eq div
share_24 = record { some = omega arith; whole = (refl, refl); halves = (refl, refl); met = refl; over = refl }

unit_above : T (le one_unit nought) → ⊥
unfolding le lt eq of_bits
unit_above t = t

-- an infinity beside a finite number, and over it
inf_below : (t : Bool) (y : Float) (b c : ℕ) → HasValue y t b c → T (le (inf true) y)
unfolding le lt
inf_below t nan b c v = absurd v
inf_below t (inf u) b c v = absurd v
inf_below t (fin u m e) b c v = tt

inf_over : (s t : Bool) (y : Float) (b c : ℕ) → HasValue y t b c → div binary32 (inf s) y ≡ inf (unlike s t)
unfolding div
inf_over s t nan b c v = absurd v
inf_over s t (inf u) b c v = absurd v
inf_over s t (fin u m e) b c v = ap (λ (z : Bool). inf (unlike s z)) v.0

-- what is below zero is below what is not
signs : (a b : ℕ) → T (below true a false b || level true a false b)
signs zero zero = tt
signs zero (suc b) = or_l (ltb 0 (0 + suc b)) _ (lt→ltb 0 (0 + suc b) (omega arith))
signs (suc a) b = or_l (ltb 0 (suc a + b)) _ (lt→ltb 0 (suc a + b) (omega arith))

record Low (n : ℕ) (s : Float) : Type 0 where
  number : T (not (is_nan s))
  small : T (le s (half n))

module _ (n : ℕ) (share : Share n) where
  abbrev parts : ℕ
  parts = n * 2 ^ 149

  positive : 0 < parts
  positive = mul-pos share.some (pow_pos 149)

  nth_low : (x : Float) → T (fits binary32 x) → T (le (x ⊘ count n) nought) → Low n x
  nth_low nan p h = absurd (unfold div le lt eq in h)
  nth_low (inf true) p h = record { number = unfold is_nan in tt; small = inf_below false (half n) (n / 2) (2 ^ 149) share.halves }
  nth_low (inf false) p h =
      absurd (unfold le lt eq of_bits in subst (λ (z : Float). T (le z nought)) (inf_over false false (count n) parts (2 ^ 149) share.whole) h)
  nth_low (fin s m e) p h =
      let c = counted binary32 (fin s m e) p tt in record { number = unfold is_nan in tt; small = go c.sign c.count c.val c.rep }
    where
      x : Float
      x = fin s m e

      go : (t : Bool) (a : ℕ) → Val binary32 x t a → Rep binary32 a → T (le x (half n))
      go true a v r = subst T (sym (le_val binary32 x (half n) true a false (n / 2) v share.halves)) (signs a (n / 2))
      go false a v r = pick (leb a (n / 2)) (leb→le a (n / 2)) (nleb→lt a (n / 2))
        where
          quotient : x ⊘ count n ≡ round binary32 false a parts
          quotient = div_val binary32 x (count n) false a false parts positive v share.whole

          large : n / 2 + 1 ≤ a → T (le one_unit (x ⊘ count n))
          large l =
              subst (λ (z : Float). T (le z (x ⊘ count n))) share.over
              (subst (λ (z : Float). T (le (round binary32 false (n / 2 + 1) parts) z)) (sym quotient)
              (round_mono binary32 (n / 2 + 1) parts a parts positive positive (mul-le-mul_right parts l)))

          pick : (b : Bool) → (T b → a ≤ n / 2) → (T (not b) → n / 2 < a) → T (le x (half n))
          pick true u w =
              le_of binary32 x (half n) a (n / 2) (plus_nn binary32 x a v r)
              (plus_nn binary32 (half n) (n / 2) share.halves
              (rep_of binary32 (half n) false (n / 2) (of_bits-fits binary32 (n / 2)) share.halves)) (u tt)
          pick false u w =
              absurd (unit_above (le_le binary32 one_unit (x ⊘ count n) nought
              (subst (λ (z : Float). T (fits binary32 z)) share.over (round-fits binary32 false (n / 2 + 1) parts)) (div-fits binary32 x (count n))
              (of_bits-fits binary32 0) (large (omega (arith, w tt))) h))

  nth_number : (x : Float) → T (fits binary32 x) → Number x → Number (x ⊘ count n)
  nth_number nan p h = absurd (unfold is_nan in h)
  nth_number (inf s) p h = subst Number (sym (inf_over s false (count n) parts (2 ^ 149) share.whole)) (unfold is_nan in tt)
  nth_number (fin s m e) p h =
      let x = fin s m e in
      let c = counted binary32 x p tt in
      subst Number (sym (div_val binary32 x (count n) c.sign c.count false parts positive c.val share.whole))
      (round_number binary32 (unlike c.sign false) c.count parts)

-- ---- the greater of a number and 0
max_low : (x : Float) → T (not (is_nan x)) → T (le (max x nought) nought) → T (le x nought)
unfolding max
max_low x n h = go (is_nan x) (is_nan nought) (before x nought) n earlier h
  where
    or_and : (a b c : Bool) → T (a || (b && c)) → T (a || b)
    or_and true b c t = tt
    or_and false true c t = tt
    or_and false false c t = t

    earlier : T (before x nought) → T (le x nought)
    earlier t = unfold before le in or_and (lt x nought) (eq x nought) (negative x && not (negative nought)) t

    go : (a b c : Bool) → T (not a) → (T c → T (le x nought)) → T (le (cond a nought (cond b x (cond c nought x))) nought) → T (le x nought)
    go true b c t k h = absurd t
    go false true c t k h = h
    go false false true t k h = k tt
    go false false false t k h = h

max_fits : (x : Float) → T (fits binary32 x) → T (fits binary32 (max x nought))
unfolding max
max_fits x p =
    let z = of_bits-fits binary32 0 in
    cond-fits binary32 (is_nan x) nought _ z (cond-fits binary32 (is_nan nought) x _ p (cond-fits binary32 (before x nought) nought x z p))

-- ---- the sums over finite samples
-- what every turn below n keeps, n turns keep
turns_keep : (P : Float → Type 0) (f : ℕ → Float → Float) (s : Float) (n : ℕ) → P s → ((i : ℕ) → i < n → (x : Float) → P x → P (f i x)) → P (iter f s n)
unfolding iter
turns_keep P f s zero p h = p
turns_keep P f s (suc n) p h = h n (omega arith) (iter f s n) (turns_keep P f s n p (λ i l. h i (omega arith)))

minus_zero : Number negative_zero × Upright negative_zero
unfolding neg of_bits is_nan
minus_zero = (tt, λ t. refl)

abbrev pub Finite : ℕ → Row → Type 0
Finite n vs = (i : ℕ) → i < n → T (finite (at vs i))

total_number : (n : ℕ) (vs : Row) → Finite n vs → Number (total n vs)
unfolding total
total_number n vs h = turns_keep Number (λ i s. s ⊕ at vs i) negative_zero n minus_zero.0 (λ i l x k. add_number binary32 x (at vs i) k (h i l))

total_fits : (n : ℕ) (vs : Row) → T (fits binary32 (total n vs))
unfolding total
total_fits n vs =
    iter_keeps (λ (s : Float). T (fits binary32 s)) (λ i s. s ⊕ at vs i) negative_zero n (neg-fits binary32 nought (of_bits-fits binary32 0))
    (λ i s h. add-fits binary32 s _)

deviations_upright : (n : ℕ) (vs : Row) (mean : Float) → Finite n vs → Number mean → Upright (deviations n vs mean)
unfolding deviations
deviations_upright n vs mean h k =
    (turns_keep Upright (λ i s. s ⊕ (at vs i ⊖ mean) ⊗ (at vs i ⊖ mean)) negative_zero n minus_zero.1
    (λ i l x u. let d = at vs i ⊖ mean in
    clear_upright (x ⊕ d ⊗ d) (add_upright binary32 x (d ⊗ d) u (square_clear binary32 d (sub_number binary32 (at vs i) mean (h i l) k)))))

deviations_fit : (n : ℕ) (vs : Row) (mean : Float) → T (fits binary32 (deviations n vs mean))
unfolding deviations
deviations_fit n vs mean =
    iter_keeps (λ (s : Float). T (fits binary32 s)) (λ i s. s ⊕ (at vs i ⊖ mean) ⊗ (at vs i ⊖ mean)) negative_zero n
    (neg-fits binary32 nought (of_bits-fits binary32 0)) (λ i s h. add-fits binary32 s _)

-- ---- an f32 holds the sum of a pass
abbrev Fit : Float → Type 0
Fit x = T (fits binary32 x)

abbrev Good : Float → Type 0
Good x = Fit x × Level x

pass_good : (n : ℕ) (p : Params) (vs ss cs : Row) → Good (pass n p vs ss cs).ssr
unfolding pass added
pass_good n p vs ss cs =
    iter_keeps (λ (l : Normal). Good l.ssr) _ empty n (unfold empty in
    (of_bits-fits binary32 0, nought_level)) (λ i l h. (add-fits binary32 l.ssr _, add_level binary32 l.ssr _ h.1))

-- the last pass of the updates is one
updates_good : (n : ℕ) (vs ss cs : Row) (p : Params) → Good (updates n vs ss cs p).last.ssr
updates_good n vs ss cs p =
    subst (λ (l : Normal). Good l.ssr) (sym (updates_own n vs ss cs p)) (pass_good n (updates n vs ss cs p).p vs ss cs)

-- ---- how each rms is made
start_made : (n : ℕ) (samples ring_phi : Row) (seed : Params) (centered_var : Float)
    → MadeOf n centered_var (start n samples ring_phi seed centered_var).fit.rms (start n samples ring_phi seed centered_var).source
unfolding start fit_with_seed
start_made n samples ring_phi seed centered_var = go (degenerate seed.amp centered_var)
  where
    end : Final
    end = updates n samples (sines n ring_phi) (cosines n ring_phi) seed

    go : (b : Bool) → MadeOf n centered_var (cond b (degenerate_fit centered_var) (finished_at n end)).rms
        (cond b (of_seed seed) (of_pass end))
    go true = unfold degenerate_fit in refl
    go false = unfold finished assembled in refl

-- a pass's sum fits f32, and is a NaN or not below zero
abbrev Summed : Source → Type 0
Summed (of_pass end) = Good end.last.ssr
Summed (of_seed seed) = 0 ≤ 0

start_summed : (n : ℕ) (samples ring_phi : Row) (seed : Params) (centered_var : Float) → Summed (start n samples ring_phi seed centered_var).source
unfolding start
start_summed n samples ring_phi seed centered_var = go (degenerate seed.amp centered_var)
  where
    go : (b : Bool) → Summed (cond b (of_seed seed) (of_pass (updates n samples (sines n ring_phi) (cosines n ring_phi) seed)))
    go true = omega arith
    go false = updates_good n samples (sines n ring_phi) (cosines n ring_phi) seed

module _ (tables : List Table) (held : TablesHeld tables) where
  -- of the answered start too, for every number of samples and all values
  ring_summed : (n : ℕ) (samples ring_phi : Row) → Summed (ring tables n samples ring_phi).answered.source
  ring_summed n samples ring_phi =
      ring_each (λ s. Summed s.source) tables held n samples ring_phi
      (λ seed h m. start_summed n samples ring_phi seed (variance_of n samples (mean_of n samples)))

  pub ring_sum_upright : (n : ℕ) (samples ring_phi : Row) (end : Final) → (ring tables n samples ring_phi).answered.source ≡ of_pass end →
      T (finite end.last.ssr) → T (fits binary32 end.last.ssr) × Upright end.last.ssr
  ring_sum_upright n samples ring_phi end e p =
      let ssr = end.last.ssr in
      let good = subst Summed e (ring_summed n samples ring_phi) in (good.0, level_upright ssr (finite_number ssr p) good.1)

  -- for every number of samples and all values: what the answered rms was made of
  pub ring_made : (n : ℕ) (samples ring_phi : Row)
      → MadeOf n (variance_of n samples (mean_of n samples)) (record_ring tables n samples ring_phi).fit.rms (ring tables n samples ring_phi).answered.source
  unfolding record_ring
  ring_made n samples ring_phi =
      let centered_var = variance_of n samples (mean_of n samples) in
      ring_each (λ s. MadeOf n centered_var s.fit.rms s.source) tables held n samples ring_phi (λ seed h m. start_made n samples ring_phi seed centered_var)

-- ---- n finite samples: an rms of 0
module _ (n : ℕ) (share : Share n) where
  made_tiny : (dev rms : Float) (s : Source) → Fit dev → Upright dev → Summed s → MadeOf n (dev ⊘ count n) rms s → eq rms nought ≡ true
      → Tiny n (sum_of dev s)
  made_tiny dev rms (of_pass end) p u q e z =
      let ssr = end.last.ssr in
      let root = zero_root (ssr ⊘ count n) (div-fits binary32 ssr (count n)) (subst (λ (r : Float). eq r nought ≡ true) e z) in
      let low = nth_low n share ssr q.0 root in
      record { number = low.number; above = upright_above binary32 ssr q.0 (level_upright ssr low.number q.1); small = low.small }
  made_tiny dev rms (of_seed seed) p u q e z =
      let v = dev ⊘ count n in
      let root = zero_root (max v nought) (max_fits v (div-fits binary32 dev (count n))) (subst (λ (r : Float). eq r nought ≡ true) e z) in
      let low = nth_low n share dev p (max_low v (nth_number n share dev p (upright_number dev u)) root) in
      record { number = low.number; above = upright_above binary32 dev p u; small = low.small }

  pub ring_tiny : (tables : List Table) → TablesHeld tables → (samples ring_phi : Row) → Finite n samples →
      eq (record_ring tables n samples ring_phi).fit.rms nought ≡ true
      → Tiny n (ring_sum tables n samples ring_phi)
  unfolding ring_sum
  ring_tiny tables held samples ring_phi h z =
      let mean = mean_of n samples in
      let upright = deviations_upright n samples mean h (nth_number n share (total n samples) (total_fits n samples) (total_number n samples h)) in
      made_tiny (deviations n samples mean) _ (ring tables n samples ring_phi).answered.source (deviations_fit n samples mean) upright
      (ring_summed tables held n samples ring_phi) (ring_made tables held n samples ring_phi) z

-- ---- an rms that is finite has a finite mean
-- the last sample's residual is in the sum
pass_mean : (n : ℕ) (p : Params) (vs ss cs : Row) → 0 < n → T (finite (pass n p vs ss cs).ssr) → T (finite p.mu)
unfolding pass added iter sample_at
pass_mean zero p vs ss cs h t = absurd (lt_irrefl 0 h)
pass_mean (suc n) p vs ss cs h t =
    let r = (mul_parts binary32 _ _ (add_parts binary32 _ _ t).1).0 in
    (add_parts binary32 p.mu _ (sub_parts binary32 _ _ r).1).0

deviations_mean : (n : ℕ) (vs : Row) (mean : Float) → 0 < n → T (finite (deviations n vs mean)) → T (finite mean)
unfolding deviations iter
deviations_mean zero vs mean h t = absurd (lt_irrefl 0 h)
deviations_mean (suc n) vs mean h t = (sub_parts binary32 (at vs n) mean (mul_parts binary32 _ _ (add_parts binary32 _ _ t).1).0).1

-- the seed of a degenerate start
abbrev Seeded : Float → Source → Type 0
Seeded mean (of_pass end) = 0 ≤ 0
Seeded mean (of_seed seed) = MeanHeld mean seed

start_seeded : (n : ℕ) (samples ring_phi : Row) (mean : Float) (seed : Params) (centered_var : Float) → MeanHeld mean seed
    → Seeded mean (start n samples ring_phi seed centered_var).source
unfolding start
start_seeded n samples ring_phi mean seed centered_var m = go (degenerate seed.amp centered_var)
  where
    go : (b : Bool) → Seeded mean (cond b (of_seed seed) (of_pass (updates n samples (sines n ring_phi) (cosines n ring_phi) seed)))
    go true = m
    go false = omega arith

module _ (n : ℕ) (share : Share n) where
  root_finite : (dev : Float) → Upright dev → T (finite (sqrt binary32 (max (dev ⊘ count n) nought))) → T (finite dev)
  root_finite nan u t = absurd u
  root_finite (inf true) u t = absurd (true≢false u)
  root_finite (inf false) u t =
      let over = inf_over false false (count n) (n * 2 ^ 149) (2 ^ 149) share.whole in
      unfold max before negative sqrt is_nan lt eq of_bits in subst (λ (z : Float). T (finite (sqrt binary32 (max z nought)))) over t
  root_finite (fin s m e) u t = tt

  made_finite : (samples ring_phi : Row) (rms : Float) (s : Source) →
      let mean = mean_of n samples in
      let dev = deviations n samples mean in
      Upright dev → OwnPass n samples ring_phi s → Seeded mean s → MadeOf n (dev ⊘ count n) rms s → T (finite rms) → T (finite (mean_from s))
  made_finite samples ring_phi rms (of_pass end) u own held e t =
      let ssr = div_part binary32 _ (count n) (sqrt_part binary32 _ (subst (λ (x : Float). T (finite x)) e t)) in
      pass_mean n end.p samples (sines n ring_phi) (cosines n ring_phi) share.some (subst (λ (l : Normal). T (finite l.ssr)) own ssr)
  made_finite samples ring_phi rms (of_seed seed) u own (inl same) e t =
      let mean = mean_of n samples in
      let dev = root_finite (deviations n samples mean) u (subst (λ (x : Float). T (finite x)) e t) in
      subst (λ (x : Float). T (finite x)) (sym same) (deviations_mean n samples mean share.some dev)
  made_finite samples ring_phi rms (of_seed seed) u own (inr held) e t = held

  pub finite_mean : (tables : List Table) → TablesHeld tables → (samples ring_phi : Row) → Finite n samples →
      let f = (record_ring tables n samples ring_phi).fit in T (finite f.rms) → T (finite f.mean)
  finite_mean tables held samples ring_phi h t =
      let mean = mean_of n samples in
      let upright = deviations_upright n samples mean h (nth_number n share (total n samples) (total_fits n samples) (total_number n samples h)) in
      let seeded = ring_each (λ s. Seeded mean s.source) tables held n samples ring_phi (λ seed p m. start_seeded n samples ring_phi mean seed _ m) in
      let own = ring_own n samples ring_phi tables held in
      subst (λ (x : Float). T (finite x)) (sym (ring_dropped tables n samples ring_phi))
      (made_finite samples ring_phi _ (ring tables n samples ring_phi).answered.source upright own seeded (ring_made tables held n samples ring_phi) t)
