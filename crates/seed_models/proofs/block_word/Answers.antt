-- Two cases. Assumes nothing.
use mathlib.Core.Path.{sym, ◌∙◌}
use Prim.Native.Nat.{◌+◌, ◌%◌}
use native.Mathlib.Omega.{arith}
use borrow.Author.Tests.{leb-true}
use Rattle.robust_grid.specs.Places.{last_of}
use Rattle.robust_grid.specs.BlockLaws.{last_most}
use Rattle.seed_models.proofs.block_word.Goals as goal

pub lane_word-requires : goal.lane_word-requires
lane_word-requires c =
    let p = c.args.p in
    let w = c.args.w in
    let pair = sym c.is_pair.ensures ∙ c.if-is_pair.true in
    let last = leb-true (p.b + w % 4) (last_of p.a) pair in
    (omega (arith, c.requires.0), omega (arith, last, last_most p.a), omega (arith, c.requires.2))

pub returns-then-is_pair : goal.returns-then-is_pair
returns-then-is_pair c = let pair = sym c.is_pair.ensures ∙ c.if-is_pair.true in rw pair c.lane_word.ensures

pub returns : goal.returns
returns c = let past = sym c.is_pair.ensures ∙ c.if-is_pair.false in rw past
