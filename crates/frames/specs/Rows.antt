-- The rows of docs/RULES.md, Rows to prove: the definitions are run at the given bits, by the checker's own computation. Assumes nothing.
use Rattle.std.specs.Prelude.{◌≡◌, refl, Bool, false, cond, ℕ, ◌*◌, replicate, Float, Option, Some, None}
use mathlib.Core.List.{List, [], ◌∷◌, ◌++◌, map, zip_with}
use Rattle.std.specs.Float.{nan, inf, binary32}
use Rattle.std.specs.Float.Ieee.{add, sub, mul, div, rem, neg, lt, le, eq, is_nan, of_bits, to_bits, of_int, to_unsigned, round, size}
use Rattle.floats.specs.Ops.{lit, nought, one, pi, half_pi, quarter_pi}
use Rattle.floats.specs.Library.{negative, before, abs, max, min, to_radians, rem_euclid, sqrt, root_units, whole_root, floor, bin}
use Rattle.loops.specs.Loops.{iter, range, tab}
use Rattle.elementary.specs.Elementary.{whole, sin_rest, cos_rest, quadrant, sin_cos_near, turn, sin_cos}
use Rattle.geometry.specs.Geometry.{signed_line_delta, line_delta, line_separation, valid_pair}
use Rattle.solver_axes.specs.Canonical.{wrap_to_tau, arc, placed, axes_settled, canonicalize_tracking_swap}
use Rattle.solver_axes.specs.declared.Axes.{Axes}
use Rattle.solver_elimination.specs.Solve.{Matrix, augmented, larger, pivot_row, unusable, reduced, cleared, clear}
use Rattle.floats.specs.Rows.{Row, at}
use Rattle.solver_elimination.specs.Solve.{top_row, columned, stopped, solve4x4}
use Rattle.solver_errors.specs.StdErrors.{axis_error, both_errors, axis_std_errors}
use Rattle.solver_errors.specs.StdErrors.{standing_by, both_standing, standing, estimate}
use Rattle.solver_errors.specs.declared.Estimate.{Estimate}
use Rattle.solver_record.specs.Fit.{degenerate_fit, degenerate}
use Rattle.solver_record.specs.Record.{degenerate_record}
use Rattle.solver.specs.Solver.{fit_with_seed}
use Rattle.solver.specs.Record.{record_with_seed}
use Rattle.seed.specs.Seed.{waved_by, waves, harmonic, second_harmonic}
use Rattle.robust_grid.specs.Grid.{grid_angle}
use Rattle.robust.specs.Robust.{total, deviations, fit_is_suspicious, start, ring}
use Rattle.robust.specs.Record.{record_ring}
use Rattle.checked.specs.Checked.{wild_from, first_wild, ring_looked, checked_ring}
use Rattle.candidates.specs.Candidates.{combine_edge_pair}
use Rattle.hexadecimal.specs.Hex.{is_hex, all_hex, byte_of, word_of, values_of, byte_text, count_text, word_text, words_text, codes, bytes}
use Rattle.shapes.specs.Shapes.{shape_of, typed_shape, ring_shape, disk_shape, counted_shape}
use Rattle.frames.specs.Frames.{answer_of, ring_text, refusal_text, text_of}

abbrev bits : Float → ℕ
bits = to_bits binary32

abbrev flag : Bool → ℕ
flag b = cond b 1 0

abbrev axes_bits : Axes → List ℕ
axes_bits a = bits a.theta1 ∷ bits a.theta2 ∷ bits a.amp ∷ flag a.swapped ∷ []

abbrev solved_bits : Option Row → List ℕ
solved_bits None = []
solved_bits (Some x) = bits (at x 0) ∷ bits (at x 1) ∷ bits (at x 2) ∷ bits (at x 3) ∷ []

abbrev estimate_bits : Estimate → List ℕ
estimate_bits e = bits e.errors.error1 ∷ bits e.errors.error2 ∷ flag e.standing.known ∷ []

abbrev row : List ℕ → Row
row = map (of_bits binary32)

abbrev diagonal : ℕ → Matrix
diagonal d = map row ((d ∷ 0 ∷ 0 ∷ 0 ∷ []) ∷ (0 ∷ d ∷ 0 ∷ 0 ∷ []) ∷ (0 ∷ 0 ∷ d ∷ 0 ∷ []) ∷ (0 ∷ 0 ∷ 0 ∷ d ∷ []) ∷ [])

-- the identity, but the third of the four rows is 0, 0, 1, infinity
abbrev spoilt : Matrix
spoilt =
    map row
    ((0x3f80_0000 ∷ 0 ∷ 0 ∷ 0 ∷ []) ∷ (0 ∷ 0x3f80_0000 ∷ 0 ∷ 0 ∷ []) ∷ (0 ∷ 0 ∷ 0x3f80_0000 ∷ 0x7f80_0000 ∷ []) ∷ (0 ∷ 0 ∷ 0 ∷ 0x3f80_0000 ∷ []) ∷ [])

abbrev two : Float
two = lit 0x4000_0000

-- the characters 01 and 256 zeros, 03 and 384
abbrev zero_line : List ℕ → ℕ → List ℕ
zero_line type n = type ++ replicate (16 * n) 48

-- the thirteen rows in their order; row 5 has two parts, and rows 6, 9, 10 and 11 have theirs side by side
pub rows_to_prove : (
    axes_bits (canonicalize_tracking_swap nought pi one)
    ∷ axes_bits (canonicalize_tracking_swap nought half_pi (lit 0xbf80_0000))
    ∷ axes_bits (canonicalize_tracking_swap (lit 0x7fc0_0000) half_pi one)
    ∷ (bits (rem_euclid binary32 (lit 0xb089_705f) pi) ∷ [])
    ∷ solved_bits (solve4x4 (diagonal 0) (row (replicate 4 0x3f80_0000)))
    ∷ solved_bits (solve4x4 (diagonal 0x1e3c_e508) (row (replicate 4 0)))
    ∷ (estimate_bits (estimate (diagonal 0x3f80_0000) one 4) ++ estimate_bits (estimate (diagonal 0x3f80_0000) one 5))
    ∷ estimate_bits (estimate spoilt one 5)
    ∷ (bits (degenerate_fit nan).rms ∷ [])
    ∷ (bin pi ∷ bin (lit 0xbf80_0000) ∷ bin nan ∷ bin (inf false) ∷ [])
    ∷ (flag (valid_pair nought nought) ∷ flag (valid_pair nought half_pi) ∷ flag (valid_pair nought quarter_pi) ∷ [])
    ∷ (bits (combine_edge_pair one one two) ∷ bits (combine_edge_pair nought two two) ∷ [])
    ∷ text_of (answer_of (zero_line (bytes "01") 16))
    ∷ text_of (answer_of (zero_line (bytes "03") 24))
    ∷ []
    )
    ≡ (
    (0 ∷ 0x4049_0fdb ∷ 0x3f80_0000 ∷ 1 ∷ [])
    ∷ (0x3fc9_0fdb ∷ 0x4049_0fdb ∷ 0x3f80_0000 ∷ 1 ∷ [])
    ∷ (0 ∷ 0x3fc9_0fdb ∷ 0x3f80_0000 ∷ 0 ∷ [])
    ∷ (0x4049_0fdb ∷ [])
    ∷ []
    ∷ replicate 4 0
    ∷ (0x4049_0fdb ∷ 0x4049_0fdb ∷ 0 ∷ 0x3f80_0000 ∷ 0x3f80_0000 ∷ 1 ∷ [])
    ∷ (0 ∷ 0x3f80_0000 ∷ 0 ∷ [])
    ∷ (0 ∷ [])
    ∷ (0 ∷ 0 ∷ 0 ∷ 15 ∷ [])
    ∷ (0 ∷ 0 ∷ 1 ∷ [])
    ∷ (0x3f80_0000 ∷ 0 ∷ [])
    ∷ bytes "810000000000000000003fc90fdb40490fdb40490fdb0000000001000000"
    ∷ bytes "830000000000000000003fc90fdb40490fdb40490fdb0000000001000000"
    ∷ []
    )
unfolding combine_edge_pair canonicalize_tracking_swap axes_settled placed wrap_to_tau arc rem_euclid valid_pair line_separation line_delta
    signed_line_delta abs negative before max min sqrt root_units whole_root degenerate_fit iter range solve4x4 augmented larger pivot_row unusable
    reduced cleared clear top_row columned stopped axis_error both_errors axis_std_errors standing_by both_standing standing floor bin tab whole
    sin_rest cos_rest quadrant sin_cos_near turn sin_cos degenerate fit_with_seed record_with_seed degenerate_record waved_by waves harmonic
    second_harmonic total deviations fit_is_suspicious record_ring wild_from first_wild checked_ring is_hex all_hex byte_of word_of values_of
    byte_text count_text word_text words_text answer_of shape_of typed_shape ring_shape ring_text to_unsigned of_bits to_bits of_int add sub mul div
    rem neg lt le eq is_nan round size to_radians ring_looked bytes codes zip_with start ring
rows_to_prove = refl

-- the two pairs of the grid that stand at 12 degrees: both are allowed
pub grid_edges : (flag (valid_pair (grid_angle 0) (grid_angle 21)) ∷ flag (valid_pair (grid_angle 1) (grid_angle 22)) ∷ []) ≡ (1 ∷ 1 ∷ [])
unfolding to_radians rem_euclid valid_pair line_separation line_delta signed_line_delta abs negative before max min add sub mul div rem neg lt le eq is_nan
    of_bits of_int round size
grid_edges = refl

-- the line with 321 pixels of docs/RULES.md, Frame lines: 020141 and 24 zeros, answered 82020000
pub pixels_321 : text_of (answer_of (bytes "020141" ++ replicate 24 48)) ≡ bytes "82020000"
unfolding answer_of shape_of typed_shape disk_shape counted_shape refusal_text is_hex all_hex byte_of byte_text count_text iter bytes codes
pixels_321 = refl

-- an empty line, answered ff050000
pub empty_line : text_of (answer_of []) ≡ bytes "ff050000"
unfolding answer_of shape_of refusal_text is_hex all_hex byte_text count_text iter bytes codes
empty_line = refl
