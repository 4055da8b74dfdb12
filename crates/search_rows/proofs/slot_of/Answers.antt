-- The first slot that has theta, or else the one to fill, as in the definition. Assumes nothing.
use mathlib.Core.Path.{◌≡◌, ◌∙◌, sym}
use Prim.Native.Nat.{◌+◌}
use Rattle.search_rows.specs.RowsLaws.{unlike_next, slot_found, slot_filled}
use borrow.Author.Rules.{rules}
use Rattle.search_rows.proofs.slot_of.Goals as goal

pub returns-then-is_same : goal.returns-then-is_same
returns-then-is_same c =
    let a = c.args in
    let q = c.loop-q in
    let same = sym c.is_same.ensures.0 ∙ c.if-is_same.true in
    (slot_found a.slots a.from a.base a.theta a.k q.q (search rules) (search rules) q.invariant same, search rules, search rules)

pub loop-q-preserved : goal.loop-q-preserved
loop-q-preserved c =
    let a = c.args in
    unlike_next a.slots a.from a.base a.theta a.k _ c.loop-q.invariant (sym c.is_same.ensures.0 ∙ c.if-is_same.false)

pub returns-then-slots-q : goal.returns-then-slots-q
returns-then-slots-q c =
    let a = c.args in
    let h : c.loop-q.q ≡ a.from + 3 = search rules in
    let e = slot_filled a.slots a.from a.base a.theta a.k (rw h at c.loop-q.invariant) in
    (rw (e, c.if-slots-q.true), search rules, search rules)

pub returns : goal.returns
returns c =
    let a = c.args in
    let h : c.loop-q.q ≡ a.from + 3 = search rules in
    let e = slot_filled a.slots a.from a.base a.theta a.k (rw h at c.loop-q.invariant) in
    (rw (e, c.if-slots-q.false), search rules, search rules)
