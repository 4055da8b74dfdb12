-- Every candidate's angle is a value that an f32 holds, whatever the disk and the seeds: each is a sum, a product or a quotient, reduced by PI.
-- Assumes nothing.
use Rattle.std.specs.Prelude.{Bool, true, false, cond, [], ◌∷◌, ℕ, zero, suc, ◌*◌, ◌/◌, set, replicate, T, leb, Float, Option, Some, None}
use Rattle.std.specs.Float.{binary32}
use Rattle.std.specs.Float.Ieee.{rem, lt, fits}
use Rattle.std.specs.Float.Ieee.Bits.{of_bits-fits}
use Rattle.std.specs.Float.Ieee.Fits.{nan-fits, cond-fits, add-fits, mul-fits, div-fits, rem-fits}
use Rattle.floats.specs.Ops.{◌⊕◌, lit, nought, pi}
use Rattle.floats.specs.Rows.{Row, at, count}
use Rattle.floats.specs.Library.{rem_euclid, to_radians, hist_bins}
use Rattle.geometry.specs.Geometry.{wrap_pi}
use Rattle.loops.proofs.IterLaws.{iter_keeps}
use Rattle.data.specs.Data.{DiskData}
use Rattle.candidates.specs.Candidates.{max_candidates, new_set, is_near, appended, push_unique, Picking, best_bin, bin_angle, too_low, degrees4, degree1}
use Rattle.candidates.specs.Candidates.{picked, picking_over, pick_bin, pick, unpicked, max_picks, peaks, greatest, histogram_peaks}
use Rattle.candidates.specs.Candidates.{off_degs, offset, around, grid_deg, gridded, coarse, gradient_candidates}
use Rattle.candidates.specs.declared.CandidateSet.{CandidateSet}
use Rattle.search.specs.Search.{candidates_of}

wrapped_fits : (x : Float) → T (fits binary32 x) → T (fits binary32 (wrap_pi x))
unfolding wrap_pi rem_euclid
wrapped_fits x h =
    let r = rem binary32 x pi in
    cond-fits binary32 (lt r nought) (r ⊕ pi) r (add-fits binary32 r pi) (rem-fits binary32 x pi h)

-- ---- lists and sets of such values
abbrev Fits : Row → Type 0
Fits l = (i : ℕ) → T (fits binary32 (at l i))

cons_fits : (x : Float) (l : Row) → T (fits binary32 x) → Fits l → Fits (x ∷ l)
cons_fits x l p h zero = p
cons_fits x l p h (suc i) = h i

replicate_fits : (n : ℕ) (x : Float) → T (fits binary32 x) → Fits (replicate n x)
replicate_fits zero x p i = nan-fits binary32
replicate_fits (suc n) x p i = cons_fits x (replicate n x) p (replicate_fits n x p) i

set_fits : (l : Row) (k : ℕ) (x : Float) → T (fits binary32 x) → Fits l → Fits (set l k x)
set_fits [] k x p h i = h i
set_fits (y ∷ l) zero x p h i = cons_fits x l p (λ j. h (suc j)) i
set_fits (y ∷ l) (suc k) x p h i = cons_fits y (set l k x) (h 0) (set_fits l k x p (λ j. h (suc j))) i

pub record Fitting (s : CandidateSet) : Type 0 where
  pub each : (i : ℕ) → T (fits binary32 (at s.angles i))

push_fits : (s : CandidateSet) (x min_sep : Float) → T (fits binary32 x) → Fitting s → Fitting (push_unique s x min_sep)
unfolding push_unique appended
push_fits s x min_sep p h = go (leb max_candidates s.n) (is_near s.angles s.n (wrap_pi x) min_sep)
  where
    go : (a b : Bool) → Fitting (cond a s (cond b s (appended s (wrap_pi x))))
    go true b = h
    go false true = h
    go false false = record { each = set_fits s.angles s.n (wrap_pi x) (wrapped_fits x p) h.each }

-- ---- the histogram's peaks, the angles around the seeds and the coarse ones
new_fits : Fitting new_set
new_fits = record { each = replicate_fits max_candidates nought (of_bits-fits binary32 0) }

pick_fits : (smooth : Row) (max_v : Float) (k : ℕ) (s : Picking) → Fitting s.found → Fitting (pick smooth max_v k s).found
unfolding pick pick_bin picked picking_over bin_angle
pick_fits smooth max_v k s h = go s.over (best_bin smooth s.used)
  where
    bin : (b : ℕ) (a : Bool) → Fitting (cond a (picking_over s) (picked b s)).found
    bin b true = h
    bin b false = push_fits s.found (bin_angle b) degrees4 (div-fits binary32 _ (count hist_bins)) h

    go : (a : Bool) (b : Option ℕ) → Fitting (cond a s (pick_bin smooth max_v b s)).found
    go true b = h
    go false None = h
    go false (Some b) = bin b (too_low smooth max_v b)

peaks_fit : (smooth : Row) → Fitting (histogram_peaks smooth)
unfolding histogram_peaks peaks
peaks_fit smooth = go (lt nought (greatest smooth))
  where
    go : (b : Bool) → Fitting (cond b (peaks smooth (greatest smooth)) new_set)
    go true =
        iter_keeps (λ (p : Picking). Fitting p.found) (pick smooth (greatest smooth)) unpicked max_picks new_fits
        (λ k s h. pick_fits smooth (greatest smooth) k s h)
    go false = new_fits

around_fits : (s : CandidateSet) (seed : Float) → Fitting s → Fitting (around s seed)
unfolding around offset
around_fits s seed h =
    iter_keeps Fitting _ s 5 h
    (λ k s h. push_fits s (seed ⊕ to_radians (at off_degs k)) degree1 (add-fits binary32 seed (to_radians (at off_degs k))) h)

coarse_fits : (s : CandidateSet) → Fitting s → Fitting (coarse s)
unfolding coarse gridded to_radians
coarse_fits s h =
    iter_keeps Fitting _ s (180 / grid_deg) h
    (λ k s h. push_fits s (to_radians (count (grid_deg * k))) degree1 (mul-fits binary32 (count (grid_deg * k)) (lit 0x3c8e_fa35)) h)

pub candidates_fit : (D : DiskData) (base0 base1 : Float) → Fitting (candidates_of D base0 base1)
unfolding candidates_of gradient_candidates
candidates_fit D base0 base1 = coarse_fits _ (around_fits _ (wrap_pi base1) (around_fits _ (wrap_pi base0) (peaks_fit _)))
