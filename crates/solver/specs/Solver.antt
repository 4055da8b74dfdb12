-- The Gauss-Newton fit from a seed as the Rust has it: ring_fit/solver.rs, fit_with_seed. Definitions only.
-- What it answers where the updates stopped is crates/solver_record/specs/Fit.antt; the start of ours, which keeps the mean, is Record.antt.
-- `n` is the number of samples throughout, and `ring_phi` has their angles on the ring; `sphi` and `cphi` are the angles' sines and cosines.
use Rattle.std.specs.Prelude.{Bool, cond, ◌&&◌, [], ◌∷◌, ℕ, zero, suc, ◌+◌, get_or, set, replicate, Option, Some, None, Float}
use Rattle.std.specs.Float.Ieee.{neg, lt}
use Rattle.floats.specs.Ops.{◌⊕◌, ◌⊖◌, ◌⊗◌, lit, nought, one}
use Rattle.floats.specs.Library.{abs, signum}
use Rattle.elementary.specs.Elementary.{sin_cos, tanh}
use Rattle.elementary.specs.declared.SinCos.{SinCos}
use Rattle.loops.specs.Loops.{iter, tab}
use Rattle.solver_elimination.specs.Solve.{Matrix, solve4x4}
use Rattle.floats.specs.Rows.{Row, at}
use Rattle.solver_record.specs.Fit.{RustFit, degenerate_fit, degenerate, finished}
use Rattle.solver_record.specs.declared.Params.{Params}
use Rattle.solver.specs.declared.Sample.{Sample}

-- mod.rs: TANH_BETA, the slope of the model
abbrev pub tanh_beta : Float
tanh_beta = lit 0x4080_0000

-- solver.rs: GN_MAX_ITERS, GN_MAX_ANGLE_STEP (0.5) and GN_TOL (1e-4), the bound on the angle steps
abbrev pub gn_max_iters : ℕ
gn_max_iters = 6

abbrev pub gn_max_angle_step : Float
gn_max_angle_step = lit 0x3f00_0000

abbrev pub gn_tol : Float
gn_tol = lit 0x38d1_b717

-- solver.rs has this as a bare number: 1e-4, the bound on the amplitude step
abbrev pub amp_tol : Float
amp_tol = lit 0x38d1_b717

-- ---- one pass: the normal matrix, its right-hand side and the sum of squared residuals
-- a sample v at the angle of sine s and cosine c: its residual r, and its row 1, q, d1, d2 of the Jacobian
unfoldable pub sample_at : Params → SinCos → SinCos → Float → Float → Float → Sample
sample_at p t1 t2 v s c =
    let s1a = s ⊗ t1.c ⊖ c ⊗ t1.s in
    let c1a = c ⊗ t1.c ⊕ s ⊗ t1.s in
    let s2a = s ⊗ t2.c ⊖ c ⊗ t2.s in
    let c2a = c ⊗ t2.c ⊕ s ⊗ t2.s in
    let h1 = tanh (tanh_beta ⊗ s1a) in
    let h2 = tanh (tanh_beta ⊗ s2a) in
    let sech1 = one ⊖ h1 ⊗ h1 in
    let sech2 = one ⊖ h2 ⊗ h2 in
    record {
      r = v ⊖ (p.mu ⊕ p.amp ⊗ h1 ⊗ h2);
      q = h1 ⊗ h2;
      d1 = neg p.amp ⊗ sech1 ⊗ tanh_beta ⊗ c1a ⊗ h2;
      d2 = neg p.amp ⊗ h1 ⊗ sech2 ⊗ tanh_beta ⊗ c2a;
    }

abbrev pub jacobian : Sample → Row
jacobian t = one ∷ t.q ∷ t.d1 ∷ t.d2 ∷ []

abbrev pub grown_row : Row → Float → Row → Row
grown_row j jk m = at m 0 ⊕ jk ⊗ at j 0 ∷ at m 1 ⊕ jk ⊗ at j 1 ∷ at m 2 ⊕ jk ⊗ at j 2 ∷ at m 3 ⊕ jk ⊗ at j 3 ∷ []

unfoldable pub grown : Row → Matrix → Matrix
grown j m = iter (λ k m. set m k (grown_row j (at j k) (get_or m k []))) m 4

abbrev pub pushed : Row → Float → Row → Row
pushed j r v = at v 0 ⊕ at j 0 ⊗ r ∷ at v 1 ⊕ at j 1 ⊗ r ∷ at v 2 ⊕ at j 2 ⊗ r ∷ at v 3 ⊕ at j 3 ⊗ r ∷ []

pub record Normal : Type 0 where
  pub m : Matrix
  pub v : Row
  pub ssr : Float

unfoldable pub empty : Normal
empty = record { m = replicate 4 (replicate 4 nought); v = replicate 4 nought; ssr = nought }

unfoldable pub added : Sample → Normal → Normal
added t n = record { m = grown (jacobian t) n.m; v = pushed (jacobian t) t.r n.v; ssr = n.ssr ⊕ t.r ⊗ t.r }

unfoldable pub pass : ℕ → Params → Row → Row → Row → Normal
pass n p samples sphi cphi =
    let t1 = sin_cos p.theta1 in
    let t2 = sin_cos p.theta2 in
    iter (λ i. added (sample_at p t1 t2 (at samples i) (at sphi i) (at cphi i))) empty n

-- ---- the updates
-- an angle step of more than 0.5 in size is cut to 0.5
unfoldable pub cut : Float → Float
cut d = cond (lt gn_max_angle_step (abs d)) (signum d ⊗ gn_max_angle_step) d

-- what a pass's elimination asks: stop here, or go on with new parameters
pub data Step : Type 0 where
  stay : Step
  to : Params → Step

-- both angle steps and the amplitude step
unfoldable pub small : Float → Float → Float → Bool
small d1 d2 d3 = lt (abs d2) gn_tol && (lt (abs d3) gn_tol && lt (abs d1) amp_tol)

abbrev pub moved : Params → Float → Float → Float → Float → Params
moved p d0 d1 d2 d3 = record { mu = p.mu ⊕ d0; amp = p.amp ⊕ d1; theta1 = p.theta1 ⊕ d2; theta2 = p.theta2 ⊕ d3 }

abbrev pub step_of : Params → Option Row → Step
step_of p None = stay
step_of p (Some d) =
    cond (small (at d 1) (cut (at d 2)) (cut (at d 3))) stay (to (moved p (at d 0) (at d 1) (cut (at d 2)) (cut (at d 3))))

abbrev pub after : {A : Type 0} → Step → A → (Params → A) → A
after stay a f = a
after (to p) a f = f p

-- where the updates stopped: the parameters, the last pass, which belongs to them, and how many updates were made
pub record Final : Type 0 where
  pub p : Params
  pub last : Normal
  pub updates : ℕ

module _ (n : ℕ) (samples sphi cphi : Row) where
  -- at most `fuel` updates more, after `k`
  unfoldable pub updates_from : ℕ → ℕ → Params → Final
  updates_from zero k p = record { p = p; last = pass n p samples sphi cphi; updates = k }
  updates_from (suc fuel) k p =
      let l = pass n p samples sphi cphi in
      after (step_of p (solve4x4 l.m l.v)) (record { p = p; last = l; updates = k }) (λ q. updates_from fuel (k + 1) q)

  unfoldable pub updates : Params → Final
  updates seed = updates_from gn_max_iters 0 seed

abbrev pub sines : ℕ → Row → Row
sines n ring_phi = tab (λ i. (sin_cos (at ring_phi i)).s) n

abbrev pub cosines : ℕ → Row → Row
cosines n ring_phi = tab (λ i. (sin_cos (at ring_phi i)).c) n

-- the fit where the updates stopped
abbrev pub finished_at : ℕ → Final → RustFit
finished_at n f = finished n f.p f.last.m f.last.ssr

-- solver.rs: fit_with_seed
unfoldable pub fit_with_seed : ℕ → Row → Row → Params → Float → RustFit
fit_with_seed n samples ring_phi seed centered_var =
    cond (degenerate seed.amp centered_var) (degenerate_fit centered_var)
    (finished_at n (updates n samples (sines n ring_phi) (cosines n ring_phi) seed))
