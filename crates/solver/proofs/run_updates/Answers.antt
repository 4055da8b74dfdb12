-- What is left to do is what was to do; each way out of the loop is one law. Assumes nothing.
use mathlib.Core.Path.{refl, ◌∙◌, sym, ap}
use native.Mathlib.Omega.{arith}
use Rattle.solver.specs.Solver.{step_of, updates}
use Rattle.solver.specs.Buffers.{spread}
use Rattle.solver.proofs.SolverLaws.{run_full, run_stay, run_to, step_stay, step_to, solved_by}
use borrow.Author.Rules.{rules}
use Rattle.solver.proofs.run_updates.Goals as goal

pub loop-count-init : goal.loop-count-init
unfolding updates
loop-count-init c = (search rules, search rules, c.pass-s.ensures, refl)

pub loop-count-smaller : goal.loop-count-smaller
loop-count-smaller c = omega (arith, c.if-count-ge-GN_MAX_ITERS.false)

pub loop-count-preserved : goal.loop-count-preserved
loop-count-preserved c = let l = spread c.loop-count.s in
    let e = solved_by l _ _ _ c.matrix_of.ensures c.right_of.ensures c.solve_4x4.ensures in
    let big = sym c.is_small.ensures ∙ c.if-is_small.false in
    let s = step_to _ _ _ _ _ c.in-Some.is c.cut-c2.ensures c.cut-c3.ensures _ big c.moved-p.ensures in (
      search rules,
      search rules,
      c.pass-s-in-loop-count.ensures,
      run_to _ _ _ _ _ _ _ l _ c.loop-count.invariant.2 e (search rules) s ∙ c.loop-count.invariant.3,
    )

pub returns-then-count-ge-GN_MAX_ITERS : goal.returns-then-count-ge-GN_MAX_ITERS
returns-then-count-ge-GN_MAX_ITERS c =
    run_full _ _ _ _ _ _ (spread c.loop-count.s) c.loop-count.invariant.2 (search rules) ∙ c.loop-count.invariant.3

pub returns-in_default : goal.returns-in_default
returns-in_default c = let l = spread c.loop-count.s in
    let e = solved_by l _ _ _ c.matrix_of.ensures c.right_of.ensures c.solve_4x4.ensures in
    run_stay _ _ _ _ _ _ l _ c.loop-count.invariant.2 e (search rules) (ap (step_of _) c.in_default.is) ∙ c.loop-count.invariant.3

pub returns-then-is_small : goal.returns-then-is_small
returns-then-is_small c = let l = spread c.loop-count.s in
    let e = solved_by l _ _ _ c.matrix_of.ensures c.right_of.ensures c.solve_4x4.ensures in
    let little = sym c.is_small.ensures ∙ c.if-is_small.true in
    let s = step_stay _ _ _ _ _ c.in-Some.is c.cut-c2.ensures c.cut-c3.ensures little in
    run_stay _ _ _ _ _ _ l _ c.loop-count.invariant.2 e (search rules) s ∙ c.loop-count.invariant.3
