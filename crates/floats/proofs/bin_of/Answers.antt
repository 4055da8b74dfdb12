-- Between -1 and 2 ^ 64 the cast is a truncation; below it is 0, and above it the largest number, which is 15 modulo 72. Assumes nothing.
use Rattle.std.proofs.Common.{◌≡◌, ℕ, ◌%◌, T, sym, ap, ◌∙◌, subst}
use Rattle.std.specs.Float.Ieee.{Float, of_bits, neg}
use Rattle.floats.specs.Ops.{◌⊗◌, ◌⊘◌, pi}
use Rattle.floats.specs.Rows.{count}
use Rattle.floats.specs.Library.{hist_bins, bin, to_index}
use Rattle.floats.specs.BinLaws.{bin_is, cast_low, cast_high}
use Rattle.floats.proofs.bin_of.Goals as goal

-- the bin, where the cast of the product is n
bin_by : (a k : Float) (n : ℕ) → k ≡ count hist_bins → to_index (a ⊘ pi ⊗ k) ≡ n → n % hist_bins ≡ bin a
bin_by a k n e h = sym (bin_is a ∙ ap (λ (z : Float). to_index (a ⊘ pi ⊗ z) % hist_bins) (sym e) ∙ ap (λ (m : ℕ). m % hist_bins) h)

pub truncating_f32_to_u64-n-requires-clause-lower_bound :
    goal.truncating_f32_to_u64-n-requires-clause-lower_bound
unfolding of_bits neg
truncating_f32_to_u64-n-requires-clause-lower_bound c = subst T (sym c.if-v.true) tt

pub truncating_f32_to_u64-n-requires-clause-upper_bound :
    goal.truncating_f32_to_u64-n-requires-clause-upper_bound
unfolding of_bits neg
truncating_f32_to_u64-n-requires-clause-upper_bound c = subst T (sym c.if-v-2.true) tt

pub returns-then-v-2-clause-value : goal.returns-then-v-2-clause-value
returns-then-v-2-clause-value c = bin_by _ _ _ c.count_f32.ensures (sym c.truncating_f32_to_u64-n.ensures)

pub returns-then-v-clause-value : goal.returns-then-v-clause-value
unfolding of_bits neg
returns-then-v-clause-value c = bin_by _ _ _ c.count_f32.ensures (cast_high _ c.if-v.true c.if-v-2.false)

pub returns-clause-value : goal.returns-clause-value
unfolding of_bits neg
returns-clause-value c = bin_by _ _ _ c.count_f32.ensures (cast_low _ c.if-v.false)
