-- Every start's fit is sound, whatever went in: its axes and errors lie in their ranges and its amplitude is NaN or not below zero.
-- A start makes at most six updates, and its last pass is that of its final parameters. Assumes nothing.
use Rattle.std.specs.Prelude.{◌≡◌, refl, Bool, true, false, cond, ℕ, zero, suc, ◌+◌, ◌≤◌, Option, Some, None, Float}
use Rattle.std.proofs.Common.{arith}
use Rattle.std.specs.Float.{binary32}
use Rattle.std.specs.Float.Ieee.Fits.{add-fits}
use Rattle.solver_elimination.specs.Solve.{solve4x4}
use Rattle.floats.specs.Rows.{Row, at}
use Rattle.solver_record.specs.Fit.{degenerate_fit, degenerate}
use Rattle.solver_record.specs.Record.{refused}
use Rattle.solver_record.specs.FitLaws.{ParamsHeld, Sound, finished_sound, degenerate_sound}
use Rattle.solver_record.specs.declared.Params.{Params}
use Rattle.solver.specs.Solver.{pass, cut, small, moved, Step, stay, to, step_of, after, Final, updates_from, updates}
use Rattle.solver.specs.Solver.{finished_at, sines, cosines, fit_with_seed}
use Rattle.solver.specs.Record.{start_from, record_with_seed}

-- ---- what holds wherever the updates stop
after_keeps : (P : Final → Type 0) (s : Step) (a : Final) (f : Params → Final) → P a → ((q : Params) → P (f q)) → P (after s a f)
after_keeps P stay a f h g = h
after_keeps P (to q) a f h g = g q

-- ---- at most six updates
from_most : (n : ℕ) (samples sphi cphi : Row) (fuel k : ℕ) (p : Params) → (updates_from n samples sphi cphi fuel k p).updates ≤ k + fuel
unfolding updates_from
from_most n samples sphi cphi zero k p = omega arith
from_most n samples sphi cphi (suc fuel) k p =
    let l = pass n p samples sphi cphi in
    after_keeps (λ (x : Final). x.updates ≤ k + suc fuel) (step_of p (solve4x4 l.m l.v)) _ (λ q. updates_from n samples sphi cphi fuel (k + 1) q)
    (omega arith) (λ q. let h = from_most n samples sphi cphi fuel (k + 1) q in omega arith)

pub updates_most : (n : ℕ) (samples sphi cphi : Row) (p : Params) → (updates n samples sphi cphi p).updates ≤ 6
unfolding updates
updates_most n samples sphi cphi p = from_most n samples sphi cphi 6 0 p

pub start_most : (n : ℕ) (samples ring_phi : Row) (p : Params) (centered_var : Float) → (record_with_seed n samples ring_phi p centered_var).updates ≤ 6
unfolding record_with_seed
start_most n samples ring_phi p centered_var = go (degenerate p.amp centered_var)
  where
    end : Final
    end = updates n samples (sines n ring_phi) (cosines n ring_phi) p

    go : (b : Bool) → (cond b (refused centered_var p.mu) (start_from n end)).updates ≤ 6
    go true = omega arith
    go false = updates_most n samples (sines n ring_phi) (cosines n ring_phi) p

-- ---- the last pass is that of the final parameters
abbrev pub Own : ℕ → Row → Row → Row → Final → Type 0
Own n samples sphi cphi end = end.last ≡ pass n end.p samples sphi cphi

from_own : (n : ℕ) (samples sphi cphi : Row) (fuel k : ℕ) (p : Params) → Own n samples sphi cphi (updates_from n samples sphi cphi fuel k p)
unfolding updates_from
from_own n samples sphi cphi zero k p = refl
from_own n samples sphi cphi (suc fuel) k p =
    let l = pass n p samples sphi cphi in
    after_keeps (Own n samples sphi cphi) (step_of p (solve4x4 l.m l.v)) _ (λ q. updates_from n samples sphi cphi fuel (k + 1) q) refl
    (λ q. from_own n samples sphi cphi fuel (k + 1) q)

pub updates_own : (n : ℕ) (samples sphi cphi : Row) (p : Params) → Own n samples sphi cphi (updates n samples sphi cphi p)
unfolding updates
updates_own n samples sphi cphi p = from_own n samples sphi cphi 6 0 p

-- ---- parameters that an f32 holds stay so
moved_held : (p : Params) (d0 d1 d2 d3 : Float) → ParamsHeld (moved p d0 d1 d2 d3)
moved_held p d0 d1 d2 d3 = record { amp = add-fits binary32 p.amp d1; one = add-fits binary32 p.theta1 d2; two = add-fits binary32 p.theta2 d3 }

after_held : (p : Params) (s : Option Row) (a : Final) (f : Params → Final) → ParamsHeld a.p → ((q : Params) → ParamsHeld q → ParamsHeld (f q).p) →
    ParamsHeld (after (step_of p s) a f).p
after_held p None a f h g = h
after_held p (Some d) a f h g = go (small (at d 1) (cut (at d 2)) (cut (at d 3)))
  where
    go : (b : Bool) → ParamsHeld (after (cond b stay (to (moved p (at d 0) (at d 1) (cut (at d 2)) (cut (at d 3))))) a f).p
    go true = h
    go false = g _ (moved_held p (at d 0) (at d 1) (cut (at d 2)) (cut (at d 3)))

from_held : (n : ℕ) (samples sphi cphi : Row) (fuel k : ℕ) (p : Params) → ParamsHeld p → ParamsHeld (updates_from n samples sphi cphi fuel k p).p
unfolding updates_from
from_held n samples sphi cphi zero k p h = h
from_held n samples sphi cphi (suc fuel) k p h =
    let l = pass n p samples sphi cphi in
    after_held p (solve4x4 l.m l.v) _ (λ q. updates_from n samples sphi cphi fuel (k + 1) q) h
    (λ q g. from_held n samples sphi cphi fuel (k + 1) q g)

pub start_sound : (n : ℕ) (samples ring_phi : Row) (p : Params) (centered_var : Float) → ParamsHeld p → Sound (fit_with_seed n samples ring_phi p centered_var)
unfolding fit_with_seed
start_sound n samples ring_phi p centered_var h = go (degenerate p.amp centered_var)
  where
    end : Final
    end = updates n samples (sines n ring_phi) (cosines n ring_phi) p

    held : ParamsHeld end.p
    held = unfold updates in from_held n samples (sines n ring_phi) (cosines n ring_phi) 6 0 p h

    go : (b : Bool) → Sound (cond b (degenerate_fit centered_var) (finished_at n end))
    go true = degenerate_sound centered_var
    go false = finished_sound n end.p end.last.m end.last.ssr held
