-- The loop looks forward: from here on the search gives what it gives from the start. Assumes nothing.
use Rattle.explain_sorts.specs.SortsLaws.{wild_on, wild_word_here, wild_word_none}
use Rattle.std.proofs.Common.{not, ap, ◌∙◌}
use native.Mathlib.Omega.{arith}
use mathlib.Core.Path.{◌≡◌}
use Prim.Native.Nat.{◌-◌}
use borrow.Author.Rules.{rules}
use Rattle.explain_sorts.proofs.wild_word.Goals as goal

pub loop-k-init : goal.loop-k-init
loop-k-init c = let z : c.args.n - 0 ≡ c.args.n = omega arith in rw z

pub returns-then-not-is_finite : goal.returns-then-not-is_finite
returns-then-not-is_finite c =
    let e = ap not (rw (c.is_finite.ensures, c.value_at.ensures) at c.if-not-is_finite.true) in
    (wild_word_here _ _ _ _ (search rules) e ∙ c.loop-k.invariant, search rules)

pub loop-k-preserved : goal.loop-k-preserved
loop-k-preserved c =
    let e = ap not (rw (c.is_finite.ensures, c.value_at.ensures) at c.if-not-is_finite.false) in
    wild_on _ _ _ _ (search rules) e ∙ c.loop-k.invariant

pub returns : goal.returns
returns c = (wild_word_none _ _ _ _ (omega arith) ∙ c.loop-k.invariant, tt)
