-- A turn writes a block behind those that are there. Assumes nothing.
use mathlib.Core.Path.{◌≡◌, ◌∙◌, sym}
use Prim.Native.Nat.{◌≤◌, ◌-◌, ◌+◌, ◌*◌}
use native.Mathlib.Omega.{arith}
use lib.ListN.{length, take, drop, length-take, length-drop}
use Rattle.loops.proofs.IterLaws.{iter_zero, iter_more}
use Rattle.loops.proofs.TabLaws.{part_length}
use Rattle.robust_grid.specs.Places as G
use Rattle.robust_grid.specs.PairLaws.{block_inside}
use Rattle.seed_models.specs.WordLaws.{fill_none, fill_more, fill_all}
use borrow.Author.Rules.{rules}
use Rattle.seed_models.proofs.fill_table.Goals as goal

pub loop-j-init : goal.loop-j-init
unfolding G.block_pair
loop-j-init c =
    let put = c.put_angles in (
      search rules,
      put.auto.table ∙ c.requires.1,
      rw iter_zero c.first_block-p.ensures,
      fill_none _ _ c.requires.0 c.args.table.now put.new.table put.ensures,
    )

pub fill_block-requires : goal.fill_block-requires
fill_block-requires c =
    let l = c.loop-j in
    let inside = block_inside l.j c.loop-j-test.true in
    (rw l.invariant.2 inside.0, rw l.invariant.2 inside.1, simp (length-take, length-drop) (omega (arith, l.invariant.1)))

pub next_block-p-requires : goal.next_block-p-requires
next_block-p-requires c =
    let l = c.loop-j in
    let inside = block_inside l.j c.loop-j-test.true in
    (rw l.invariant.2 inside.0, rw l.invariant.2 inside.1)

pub loop-j-preserved : goal.loop-j-preserved
unfolding G.block_pair
loop-j-preserved c =
    let l = c.loop-j in
    let block = c.fill_block.new.block in
    let few = c.loop-j-test.true in
    let d : 16 + l.j * 72 + 72 - (16 + l.j * 72) ≡ 72 = omega arith in
    let m : length (take (16 + l.j * 72 + 72 - (16 + l.j * 72)) (drop (16 + l.j * 72) l.table)) ≡ 72 =
    simp (length-take, length-drop) (omega (arith, l.invariant.1, few)) in
    let room : 16 + l.j * 72 + (16 + l.j * 72 + 72 - (16 + l.j * 72)) ≤ length l.table = omega (arith, l.invariant.1, few) in
    let len = part_length l.table block (16 + l.j * 72) _ room (c.fill_block.auto.block ∙ m ∙ sym d) in
    let is = rw l.invariant.2 at c.fill_block.ensures in (
      omega (arith, few),
      len ∙ l.invariant.1,
      iter_more _ _ _ _ _ l.invariant.2 c.next_block-p.ensures,
      fill_more _ _ c.requires.0 _ _ _ _ _ d l.invariant.3 is,
    )

pub shape_of-table : goal.shape_of-table
shape_of-table c = c.loop-j.invariant.1 ∙ sym c.requires.1

pub returns : goal.returns
returns c =
    let l = c.loop-j in
    let j : l.j ≡ G.blocks = omega arith in
    fill_all _ _ c.requires.0 c.put_angles.new.table l.table l.invariant.1 (rw j at l.invariant.3)
