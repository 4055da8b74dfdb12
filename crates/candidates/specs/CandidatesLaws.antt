-- How many candidates and pairs there can be, and what an early exit leaves. Assumes nothing.
use Rattle.std.specs.Prelude.{◌≡◌, refl, Bool, cond, List, ◌∷◌, ℕ, zero, suc, ◌+◌, ◌-◌, ◌≤◌, ◌<◌, length, drop, get_or, set, replicate, leb, Float, Option}
use Rattle.std.specs.Prelude.{Some, None}
use Rattle.std.proofs.Math.Path.{sym}
use Rattle.std.proofs.Common.{ap, ◌∙◌, length-drop, get_or-drop, drop-drop}
use Rattle.std.proofs.Math.Bool.{true, false}
use native.Mathlib.Omega.{arith}
use Rattle.std.specs.Float.Ieee.{nan, lt, le}
use Rattle.floats.specs.Ops.{nought}
use Rattle.floats.specs.Rows.{Row, at}
use Rattle.floats.specs.Library.{hist_bins}
use Rattle.data.specs.Data.{DiskData}
use Rattle.geometry.specs.Geometry.{wrap_pi, line_delta}
use Rattle.loops.specs.Loops.{iter}
use Rattle.loops.proofs.IterLaws.{iter_zero, iter_next, iter_stuck}
use Rattle.candidates.specs.declared.CandidateSet.{CandidateSet}
use Rattle.candidates.specs.declared.Nearby.{Nearby}
use Rattle.candidates.specs.Candidates.{max_candidates, max_paired, max_pairs, near_at, is_near, appended, push_unique}
use Rattle.candidates.specs.Candidates.{Picking, best_bin, pick_bin, bin_angle, too_low, degrees4, picked, picking_over, pick, unpicked, max_picks, peaks}
use Rattle.candidates.specs.Candidates.{histogram, smoothed, greatest, histogram_peaks, offset, around, gridded, coarse}
use Rattle.candidates.specs.Candidates.{gradient_candidates, histogram_candidates, nearer_of}

-- ---- the search for a near angle: none among the first i + 1, or one at i and so among all
module _ (angles : Row) (a min_sep : Float) (i : ℕ) (e : is_near angles i a min_sep ≡ false) where
  pub near_not : le (line_delta a (at angles i)) min_sep ≡ false → is_near angles (i + 1) a min_sep ≡ false
  unfolding is_near
  near_not h = rw (iter_next, e, h)

  pub near_found : (n : ℕ) → i < n → le (line_delta a (at angles i)) min_sep ≡ true → true ≡ is_near angles n a min_sep
  unfolding is_near
  near_found n h t =
      let next : iter (near_at angles a min_sep) false (i + 1) ≡ true = rw (iter_next, e, t) in
      let z : n ≡ (i + 1) + (n - (i + 1)) = omega arith in
      rw (z, iter_stuck (near_at angles a min_sep) false true (i + 1) (n - (i + 1)) (λ _. refl) next)

-- ---- the picks: a bin that is high enough is taken; where none is left or it is too low, the picking ends with what was found
module _ (smooth : Row) (max_v : Float) (used : List Bool) (found : CandidateSet) (k : ℕ)
    (e : ◌≡◌ {A = Picking} (record { used = used; found = found; over = false }) (iter (pick smooth max_v) unpicked k)) where
  pub picks_next :
      (b : ℕ) (a d : Float) (s : CandidateSet) →
      Some b ≡ best_bin smooth used → too_low smooth max_v b ≡ false → a ≡ bin_angle b → d ≡ degrees4 → s ≡ push_unique found a d →
      ◌≡◌ {A = Picking} (record { used = set used b true; found = s; over = false }) (iter (pick smooth max_v) unpicked (k + 1))
  unfolding pick pick_bin picked
  picks_next b a d s eb et ea ed es = rw (iter_next, ← e, ← eb, et, es, ea, ed)

  abbrev pub now : Picking
  now = record { used = used; found = found; over = false }

  pub picks_end : k < max_picks → pick_bin smooth max_v (best_bin smooth used) now ≡ picking_over now → found ≡ peaks smooth max_v
  unfolding peaks pick picking_over
  picks_end h t =
      let out : Picking = record { used = used; found = found; over = true } in
      let next : iter (pick smooth max_v) unpicked (k + 1) ≡ out = rw (iter_next, ← e, t) in
      let z : max_picks ≡ (k + 1) + (max_picks - (k + 1)) = omega arith in
      let all : iter (pick smooth max_v) unpicked max_picks ≡ out =
      rw z (iter_stuck (pick smooth max_v) unpicked out (k + 1) (max_picks - (k + 1)) (λ _. refl) next) in
      sym (ap (λ (p : Picking). p.found) all)

  pub picks_none : k < max_picks → best_bin smooth used ≡ None → found ≡ peaks smooth max_v
  unfolding pick_bin
  picks_none h t = picks_end h (rw t)

  pub picks_low : (b : ℕ) → k < max_picks → best_bin smooth used ≡ Some b → too_low smooth max_v b ≡ true → found ≡ peaks smooth max_v
  unfolding pick_bin
  picks_low b h t low = picks_end h (rw (t, low))

-- ---- the nearest place stays within the set
pub nearer_place : (c : ℕ) (d : Float) (s : Nearby) (n : ℕ) → c ≤ n → s.best_i ≤ n → (nearer_of c d s).best_i ≤ n
unfolding nearer_of
nearer_place c d s n h k = either (lt d s.best_d) (record { best_i = c; best_d = d }) s h k
  where
    either : (b : Bool) (x y : Nearby) → x.best_i ≤ n → y.best_i ≤ n → (cond b x y).best_i ≤ n
    either true x y p q = p
    either false x y p q = q

-- ---- at most 24 candidates, whatever the disk and the seeds: each push adds one at most
push_most : (s : CandidateSet) (angle min_sep : Float) → (push_unique s angle min_sep).n ≤ s.n + 1
unfolding push_unique appended
push_most s angle min_sep = go (leb max_candidates s.n) (is_near s.angles s.n (wrap_pi angle) min_sep)
  where
    go : (a b : Bool) → (cond a s (cond b s (appended s (wrap_pi angle)))).n ≤ s.n + 1
    go true b = omega arith
    go false true = omega arith
    go false false = omega arith

turns_most :
    (f : ℕ → CandidateSet → CandidateSet) (s : CandidateSet) (n : ℕ) →
    ((k : ℕ) (x : CandidateSet) → (f k x).n ≤ x.n + 1) → (iter f s n).n ≤ s.n + n
unfolding iter
turns_most f s zero h = omega arith
turns_most f s (suc n) h = let a = h n (iter f s n) in let b = turns_most f s n h in omega arith

picks_most : (smooth : Row) (max_v : Float) (n : ℕ) → (iter (pick smooth max_v) unpicked n).found.n ≤ n
unfolding iter pick pick_bin picked picking_over
picks_most smooth max_v zero = omega arith
picks_most smooth max_v (suc n) = go (iter (pick smooth max_v) unpicked n) (picks_most smooth max_v n)
  where
    go : (s : Picking) → s.found.n ≤ n → (pick smooth max_v n s).found.n ≤ suc n
    go s h = by s.over (best_bin smooth s.used)
      where
        bin : (b : ℕ) (a : Bool) → (cond a (picking_over s) (picked b s)).found.n ≤ suc n
        bin b true = omega arith
        bin b false = let p = push_most s.found (bin_angle b) degrees4 in omega arith

        by : (a : Bool) (b : Option ℕ) → (cond a s (pick_bin smooth max_v b s)).found.n ≤ suc n
        by true b = omega arith
        by false None = omega arith
        by false (Some b) = bin b (too_low smooth max_v b)

peaks_most : (smooth : Row) → (histogram_peaks smooth).n ≤ max_picks
unfolding histogram_peaks peaks
peaks_most smooth = go (lt nought (greatest smooth))
  where
    go : (b : Bool) → (cond b (peaks smooth (greatest smooth)) unpicked.found).n ≤ max_picks
    go true = picks_most smooth (greatest smooth) max_picks
    go false = omega arith

around_most : (s : CandidateSet) (seed : Float) → (around s seed).n ≤ s.n + 5
unfolding around
around_most s seed = turns_most (offset seed) s 5 (λ k x. unfold offset in push_most x _ _)

coarse_most : (s : CandidateSet) → (coarse s).n ≤ s.n + 6
unfolding coarse
coarse_most s = turns_most gridded s 6 (λ k x. unfold gridded in push_most x _ _)

pub candidates_most : (D : DiskData) (base0 base1 : Float) → (histogram_candidates D base0 base1).n ≤ max_paired
unfolding gradient_candidates
candidates_most D base0 base1 =
    let smooth : Row = smoothed (histogram D.n D.grad_angles D.grad_weights (replicate hist_bins nought)) in
    let p = peaks_most smooth in
    let s = histogram_peaks smooth in
    let a = around_most s base0 in
    let b = around_most (around s base0) base1 in
    let c = coarse_most (around (around s base0) base1) in
    omega arith

-- ---- How many pairs there are in the rows before row i, of n: what bounds the count in the code
unfoldable pub rows_before : ℕ → ℕ → ℕ
rows_before n i = iter (λ k s. s + (n - 1 - k)) 0 i

pub rows_zero : (n : ℕ) → rows_before n 0 ≡ 0
unfolding rows_before
rows_zero n = rw iter_zero

pub rows_next : (n i : ℕ) → rows_before n (i + 1) ≡ rows_before n i + (n - 1 - i)
unfolding rows_before
rows_next n i = rw iter_next

-- fewer angles have fewer pairs
rows_mono : (n i : ℕ) → n ≤ max_paired → rows_before n i ≤ rows_before max_paired i
unfolding rows_before iter
rows_mono n zero h = omega arith
rows_mono n (suc i) h = let m = rows_mono n i h in omega arith

rows_more : (i d : ℕ) → rows_before max_paired i ≤ rows_before max_paired (i + d)
rows_more i zero = let z : i + 0 ≡ i = omega arith in rw z (omega arith)
rows_more i (suc d) =
    let m = rows_more i d in
    let z : i + suc d ≡ (i + d) + 1 = omega arith in
    rw (z, rows_next) (omega arith)

all_rows : rows_before max_paired max_paired ≡ max_pairs
unfolding rows_before iter
all_rows = refl

pub rows_most : (n i : ℕ) → n ≤ max_paired → i ≤ n → rows_before n i ≤ max_pairs
rows_most n i h l =
    let a = rows_mono n i h in
    let z : i + (max_paired - i) ≡ max_paired = omega arith in
    let b = rw z at (rows_more i (max_paired - i)) in
    omega (arith, all_rows)

-- those before row i and those of row i are no more than there are places
pub row_room : (n i : ℕ) → n ≤ max_paired → i < n → rows_before n i + (n - 1 - i) ≤ max_pairs
row_room n i h l = let a = rows_most n (i + 1) h (omega arith) in let b = rows_next n i in omega arith

-- ---- what an iterator has left of a list after k items: the next item is the list's own at k
pub left_first : (l r : Row) (k : ℕ) (x : Float) → x ∷ r ≡ drop k l → (x ≡ at l k) × (r ≡ drop (k + 1) l) × (k < length l)
left_first l r k x e =
    let z : k + 0 ≡ k = omega arith in
    let n : suc (length r) ≡ length l - k = ap length e ∙ length-drop k l in
    (rw z at (ap (λ (s : Row). get_or s 0 nan) e ∙ get_or-drop k l 0 nan), ap (drop 1) e ∙ drop-drop 1 k l, omega arith)

pub left_none : (l r : Row) (k : ℕ) → r ≡ drop k l → length r ≡ 0 → length l ≤ k
left_none l r k e z = let n : length r ≡ length l - k = ap length e ∙ length-drop k l in omega arith
