-- Candidate angles and the pool of pairs: disk_sector/candidates.rs. Definitions only.
use Rattle.std.specs.Prelude.{Bool, true, false, cond, ◌||◌, ◌&&◌, List, [], ◌∷◌, ℕ, ◌+◌, ◌-◌, ◌*◌, ◌/◌, get_or, set, replicate, eqb, leb, ltb, Float, Option}
use Rattle.std.specs.Prelude.{Some, None}
use Rattle.std.specs.Float.{inf}
use Rattle.std.specs.Float.Ieee.{lt, le}
use Rattle.floats.specs.Ops.{◌⊕◌, ◌⊗◌, ◌⊘◌, lit, nought, one, pi}
use Rattle.floats.specs.Rows.{Row, at, count}
use Rattle.floats.specs.Library.{max, min, to_radians, hist_bins, bin}
use Rattle.data.specs.Data.{DiskData}
use Rattle.geometry.specs.Geometry.{wrap_pi, line_delta, valid_pair}
use Rattle.loops.specs.Loops.{iter, range, tab}
use Rattle.candidates.specs.declared.CandidateSet.{CandidateSet}
use Rattle.candidates.specs.declared.Nearby.{Nearby}
use Rattle.candidates.specs.declared.Tops.{Tops}
use Rattle.candidates.specs.declared.PairScore.{PairScore}
use Rattle.candidates.specs.declared.Pool.{Pool}

-- MAX_CANDIDATES
abbrev pub max_candidates : ℕ
max_candidates = 64

-- What histogram_candidates finds at most: 8 picks, 5 angles around each of two seeds, 6 of the grid. Pairs are formed of no more.
abbrev pub max_paired : ℕ
max_paired = 24

-- MAX_PAIRS, of the candidates that are paired
abbrev pub max_pairs : ℕ
max_pairs = max_paired * (max_paired - 1) / 2

-- ---- CandidateSet
abbrev pub new_set : CandidateSet
new_set = record { n = 0; angles = replicate max_candidates nought }

-- whether one of the first n angles lies within minSep of a
abbrev pub near_at : Row → Float → Float → ℕ → Bool → Bool
near_at angles a min_sep i b = b || le (line_delta a (at angles i)) min_sep

unfoldable pub is_near : Row → ℕ → Float → Float → Bool
is_near angles n a min_sep = iter (near_at angles a min_sep) false n

unfoldable pub appended : CandidateSet → Float → CandidateSet
appended candidates a = record { n = candidates.n + 1; angles = set candidates.angles candidates.n a }

unfoldable pub push_unique : CandidateSet → Float → Float → CandidateSet
push_unique candidates angle min_sep =
    let a = wrap_pi angle in
    cond (leb max_candidates candidates.n) candidates
    (cond (is_near candidates.angles candidates.n a min_sep) candidates (appended candidates a))

-- ---- histogram_candidates
-- a weight that is 0 or below is skipped; a NaN is not
unfoldable pub binned : Row → Row → ℕ → Row → Row
binned grad_angles grad_weights i hist =
    let weight = at grad_weights i in
    let idx = bin (at grad_angles i) in
    cond (le weight nought) hist (set hist idx (at hist idx ⊕ weight))

unfoldable pub histogram : ℕ → Row → Row → Row → Row
histogram n grad_angles grad_weights hist = iter (binned grad_angles grad_weights) hist n

-- the bins on either side, around the circle
unfoldable pub prev_bin : ℕ → ℕ
prev_bin i = cond (eqb i 0) (hist_bins - 1) (i - 1)

unfoldable pub next_bin : ℕ → ℕ
next_bin i = cond (eqb (i + 1) hist_bins) 0 (i + 1)

-- 0.25, 0.5, 0.25
abbrev pub smooth_at : Row → ℕ → Float
smooth_at hist i = lit 0x3e80_0000 ⊗ at hist (prev_bin i) ⊕ lit 0x3f00_0000 ⊗ at hist i ⊕ lit 0x3e80_0000 ⊗ at hist (next_bin i)

unfoldable pub smoothed : Row → Row
smoothed hist = tab (smooth_at hist) hist_bins

unfoldable pub greatest : Row → Float
greatest smooth = iter (λ i max_v. max max_v (at smooth i)) nought hist_bins

-- the greatest unused bin, found upwards by strict >
unfoldable pub greater_bin : Row → ℕ → Option ℕ → Option ℕ
greater_bin smooth i None = Some i
greater_bin smooth i (Some b) = cond (lt (at smooth b) (at smooth i)) (Some i) (Some b)

unfoldable pub better_bin : Row → List Bool → ℕ → Option ℕ → Option ℕ
better_bin smooth used i best = cond (get_or used i false) best (greater_bin smooth i best)

unfoldable pub best_bin : Row → List Bool → Option ℕ
best_bin smooth used = iter (better_bin smooth used) None hist_bins

-- the picks so far, and whether the loop was left
pub record Picking : Type 0 where
  pub used : List Bool
  pub found : CandidateSet
  pub over : Bool

-- the bin's middle
unfoldable pub bin_angle : ℕ → Float
bin_angle best_i = (count best_i ⊕ lit 0x3f00_0000) ⊗ pi ⊘ count hist_bins

-- its value is below 0.12 of the maximum
unfoldable pub too_low : Row → Float → ℕ → Bool
too_low smooth max_v best_i = lt (at smooth best_i) (max_v ⊗ lit 0x3df5_c28f)

-- 4 and 1 degrees
abbrev pub degrees4 : Float
degrees4 = to_radians (lit 0x4080_0000)

abbrev pub degree1 : Float
degree1 = to_radians one

unfoldable pub picked : ℕ → Picking → Picking
picked best_i s = record { used = set s.used best_i true; found = push_unique s.found (bin_angle best_i) degrees4; over = false }

unfoldable pub picking_over : Picking → Picking
picking_over s = record { used = s.used; found = s.found; over = true }

-- no bin is left, or it is too low
unfoldable pub pick_bin : Row → Float → Option ℕ → Picking → Picking
pick_bin smooth max_v None s = picking_over s
pick_bin smooth max_v (Some best_i) s = cond (too_low smooth max_v best_i) (picking_over s) (picked best_i s)

unfoldable pub pick : Row → Float → ℕ → Picking → Picking
pick smooth max_v k s = cond s.over s (pick_bin smooth max_v (best_bin smooth s.used) s)

abbrev pub unpicked : Picking
unpicked = record { used = replicate hist_bins false; found = new_set; over = false }

-- at most 8 picks
abbrev pub max_picks : ℕ
max_picks = 8

unfoldable pub peaks : Row → Float → CandidateSet
peaks smooth max_v = (iter (pick smooth max_v) unpicked max_picks).found

unfoldable pub histogram_peaks : Row → CandidateSet
histogram_peaks smooth = let max_v = greatest smooth in cond (lt nought max_v) (peaks smooth max_v) new_set

-- -8, -4, 0, 4 and 8 degrees around a seed
abbrev pub off_degs : Row
off_degs = lit 0xc100_0000 ∷ lit 0xc080_0000 ∷ nought ∷ lit 0x4080_0000 ∷ lit 0x4100_0000 ∷ []

unfoldable pub offset : Float → ℕ → CandidateSet → CandidateSet
offset seed k candidates = push_unique candidates (seed ⊕ to_radians (at off_degs k)) degree1

unfoldable pub around : CandidateSet → Float → CandidateSet
around candidates seed = iter (offset seed) candidates 5

-- 0 to 150 degrees by 30
abbrev pub grid_deg : ℕ
grid_deg = 30

unfoldable pub gridded : ℕ → CandidateSet → CandidateSet
gridded k candidates = push_unique candidates (to_radians (count (grid_deg * k))) degree1

unfoldable pub coarse : CandidateSet → CandidateSet
coarse candidates = iter gridded candidates (180 / grid_deg)

-- the candidates of n gradients
unfoldable pub gradient_candidates : ℕ → Row → Row → Float → Float → CandidateSet
gradient_candidates n grad_angles grad_weights base0 base1 =
    let smooth = smoothed (histogram n grad_angles grad_weights (replicate hist_bins nought)) in
    coarse (around (around (histogram_peaks smooth) base0) base1)

abbrev pub histogram_candidates : DiskData → Float → Float → CandidateSet
histogram_candidates D base0 base1 = gradient_candidates D.n D.grad_angles D.grad_weights base0 base1

-- ---- closest_candidate
unfoldable pub nearer_of : ℕ → Float → Nearby → Nearby
nearer_of c d best = cond (lt d best.best_d) (record { best_i = c; best_d = d }) best

unfoldable pub nearer : Row → Float → ℕ → Nearby → Nearby
nearer angles target_w c best = nearer_of c (line_delta (at angles c) target_w) best

unfoldable pub nearest : Row → Float → ℕ → Nearby
nearest angles target_w n = iter (nearer angles target_w) (record { best_i = 0; best_d = inf false }) n

unfoldable pub closest_candidate : CandidateSet → Float → Option ℕ
closest_candidate candidates target =
    cond (eqb candidates.n 0) None (Some (nearest candidates.angles (wrap_pi target) candidates.n).best_i)

-- ---- forced_seed_pair: the candidates of a pair that is kept whatever its score, or none
abbrev pub Forced : Type 0
Forced = Option (ℕ × ℕ)

unfoldable pub ordered : ℕ → ℕ → Forced
ordered i j = cond (eqb i j) None (cond (ltb i j) (Some (i, j)) (Some (j, i)))

unfoldable pub both_closest : Option ℕ → Option ℕ → Forced
both_closest None c = None
both_closest (Some i) None = None
both_closest (Some i) (Some j) = ordered i j

unfoldable pub forced_seed_pair : CandidateSet → Float → Float → Forced
forced_seed_pair candidates base0 base1 =
    cond (ltb candidates.n 2) None (both_closest (closest_candidate candidates base0) (closest_candidate candidates base1))

-- ---- forced_histogram_pair: the two greatest edge sums
unfoldable pub first_tops : Row → Tops
first_tops edge_align = cond (lt (at edge_align 0) (at edge_align 1)) (record { top0 = 1; top1 = 0 }) (record { top0 = 0; top1 = 1 })

unfoldable pub raised_tops : Row → ℕ → Tops → Tops
raised_tops edge_align c t =
    cond (lt (at edge_align t.top0) (at edge_align c)) (record { top0 = c; top1 = t.top0 })
    (cond (lt (at edge_align t.top1) (at edge_align c)) (record { top0 = t.top0; top1 = c }) t)

unfoldable pub tops_of : Row → ℕ → Tops
tops_of edge_align n = range (raised_tops edge_align) (first_tops edge_align) 2 n

unfoldable pub forced_histogram_pair : CandidateSet → Row → Forced
forced_histogram_pair candidates edge_align =
    let t = tops_of edge_align candidates.n in
    cond (ltb candidates.n 2) None (ordered t.top0 t.top1)

-- ---- matches_pair
unfoldable pub matches_pair : Forced → ℕ → ℕ → Bool
matches_pair None i j = false
matches_pair (Some f) i j = eqb f.0 i && eqb f.1 j

-- ---- combine_edge_pair; 0x3089_705f is 1e-9
unfoldable pub combine_edge_pair : Float → Float → Float → Float
combine_edge_pair s_a s_b total =
    let a = s_a ⊘ total in
    let b = s_b ⊘ total in
    let balance = lit 0x4000_0000 ⊗ min a b ⊘ max (a ⊕ b) (lit 0x3089_705f) in
    cond (le total (lit 0x3089_705f)) nought ((a ⊕ b) ⊗ balance)

-- ---- build_pair_pool, of at most maxPaired candidates, so that maxPairs places suffice
abbrev pub no_pair : PairScore
no_pair = record { i = 0; j = 0; edge_score = nought; forced = false }

abbrev pub no_pairs : Pool
no_pairs = record { n = 0; pairs = replicate max_pairs no_pair }

unfoldable pub is_forced : Forced → Forced → ℕ → ℕ → Bool
is_forced force_seed force_hist i j = matches_pair force_seed i j || matches_pair force_hist i j

unfoldable pub pair_score : Row → Float → Forced → Forced → ℕ → ℕ → PairScore
pair_score edge_align grad_total force_seed force_hist i j =
    record {
      i = i;
      j = j;
      edge_score = combine_edge_pair (at edge_align i) (at edge_align j) grad_total;
      forced = is_forced force_seed force_hist i j;
    }

unfoldable pub pooled : PairScore → Pool → Pool
pooled x pool = record { n = pool.n + 1; pairs = set pool.pairs pool.n x }

module _ (candidates : CandidateSet) (edge_align : Row) (grad_total : Float) (force_seed force_hist : Forced) where
  -- a pair that is not allowed is skipped
  unfoldable pub pooled_pair : ℕ → ℕ → Pool → Pool
  pooled_pair i j pool =
      let a0 = at candidates.angles i in
      let a1 = at candidates.angles j in
      cond (valid_pair a0 a1) (pooled (pair_score edge_align grad_total force_seed force_hist i j) pool) pool

  unfoldable pub pooled_from : ℕ → Pool → Pool
  pooled_from i pool = range (pooled_pair i) pool (i + 1) candidates.n

  unfoldable pub build_pair_pool : Pool
  build_pair_pool = iter pooled_from no_pairs candidates.n
