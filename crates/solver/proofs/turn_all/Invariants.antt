-- A turn stores its own element, turned, and leaves those to come. Assumes nothing.
use Rattle.std.proofs.Common.{ℕ, ◌≡◌, ◌≤◌, get_or}
use Rattle.std.specs.Float.{nan}
use Rattle.loops.proofs.TabLaws.{Stores}
use Rattle.elementary.specs.Elementary.{turn}
use Rattle.solver.proofs.turn_all.Given as goal

abbrev pub invariant-loop-x : goal.invariant-loop-x
invariant-loop-x l = Stores (λ k. turn (get_or l.initial.angles k nan)) l.initial.angles l.angles l.x-index
    × ((k : ℕ) → l.x-index ≤ k → get_or l.angles k nan ≡ get_or l.initial.angles k nan)
