-- A search: nothing near among those passed, and the early return cites near-found. Assumes nothing.
use Prim.Native.Nat.{◌<◌}
use lib.Ieee.{nan}
use Rattle.std.proofs.lemmas.List.{get_or-take}
use Rattle.loops.proofs.IterLaws.{iter_zero}
use Rattle.candidates.specs.Candidates as C
use Rattle.candidates.specs.CandidatesLaws.{near_not, near_found}
use borrow.Author.Rules.{rules}
use Rattle.candidates.proofs.CandidateSet.is_near.Goals as goal

pub loop-kept-init : goal.loop-kept-init
unfolding C.is_near
loop-kept-init c = (search rules, rw iter_zero)

pub returns-then-line_delta-min_sep : goal.returns-then-line_delta-min_sep
returns-then-line_delta-min_sep c =
    let a = c.args.self in
    let i : c.loop-kept.kept-index < a.n = search rules in
    near_found _ _ _ _ c.loop-kept.invariant.1 _ i (rw (c.line_delta.ensures.value, get_or-take a.n a.angles _ nan i) at c.if-line_delta-min_sep.true)

pub loop-kept-preserved : goal.loop-kept-preserved
loop-kept-preserved c =
    let a = c.args.self in
    let i : c.loop-kept.kept-index < a.n = search rules in (
      search rules,
      near_not _ _ _ _ c.loop-kept.invariant.1 (rw (
        c.line_delta.ensures.value,
        get_or-take a.n a.angles _ nan i,
      ) at c.if-line_delta-min_sep.false),
    )
