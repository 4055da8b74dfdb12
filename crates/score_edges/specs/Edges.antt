-- How well the gradients agree with a line: the sums of score.rs, precompute_edge_alignments, and of search.rs, edge_weight_total
-- and build_axis_rows. Definitions only.
-- The ranking and the refinement have each its own Gaussian: of one value in exact arithmetic, but rounded apart.
use Rattle.std.specs.Prelude.{ℕ, Float}
use Rattle.std.specs.Float.Ieee.{neg}
use Rattle.floats.specs.Ops.{◌⊕◌, ◌⊗◌, ◌⊘◌, lit, minus, nought, one}
use Rattle.floats.specs.Library.{to_radians}
use Rattle.elementary.specs.Elementary.{exp}
use Rattle.geometry.specs.Geometry.{signed_line_delta}
use Rattle.loops.specs.Loops.{iter}
use Rattle.floats.specs.Rows.{Row, at}

-- sigma = 4.0_f32.to_radians()
abbrev pub sigma : Float
sigma = to_radians (lit 0x4080_0000)

-- inv_2sigma2 = 1.0 / (2.0 * sigma * sigma)
abbrev pub inv2_sigma2 : Float
inv2_sigma2 = one ⊘ (lit 0x4000_0000 ⊗ sigma ⊗ sigma)

-- a sum in the order of the pixels
unfoldable pub ordered_sum : ℕ → Row → Float
ordered_sum n row = iter (λ p s. s ⊕ at row p) nought n

-- search.rs: edge_weight_total, and the same loop in score.rs
unfoldable pub edge_weight_total : ℕ → Row → Float
edge_weight_total n grad_weights = ordered_sum n grad_weights

-- the sum by a Gaussian g: of the gradients' terms, in the order of the pixels
unfoldable pub edge_sum : (Float → Float → Float) → ℕ → Row → Row → Float → Float
edge_sum g n grad_angles grad_weights theta =
    iter (λ p s. s ⊕ g (at grad_weights p) (signed_line_delta (at grad_angles p) theta)) nought n

-- score.rs: w_p * (-d * d * inv_2sigma2).exp()
unfoldable pub ranked_term : Float → Float → Float
ranked_term w d = w ⊗ exp (neg d ⊗ d ⊗ inv2_sigma2)

abbrev pub ranked_sum : ℕ → Row → Row → Float → Float
ranked_sum = edge_sum ranked_term

-- search.rs: grad_weights[p] * (-0.5 * (dd / sigma) * (dd / sigma)).exp()
unfoldable pub refined_term : Float → Float → Float
refined_term w d = w ⊗ exp (minus 0x3f00_0000 ⊗ (d ⊘ sigma) ⊗ (d ⊘ sigma))

abbrev pub refined_sum : ℕ → Row → Row → Float → Float
refined_sum = edge_sum refined_term
