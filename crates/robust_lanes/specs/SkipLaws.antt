-- Why a pair is skipped before its root is taken: the root keeps the order, so a mean square that is not below the best's has no lower residual.
-- Assumes nothing.
use Rattle.std.specs.Prelude.{◌≡◌, refl, Bool, true, false, cond, ◌&&◌, Option, Some, None}
use Rattle.std.proofs.Common.{sym, ap, ◌∙◌, arith}
use Rattle.std.proofs.Math.Path.{subst}
use Rattle.std.proofs.lemmas.Bool.{false≢true}
use lib.Ieee.{Float, binary32, lt, le}
use Rattle.std.specs.Float.Ieee.Scale.{finite}
use Rattle.floats.specs.Library.{sqrt}
use Rattle.floats.specs.RootOrderLaws.{sqrt_mono}
use Rattle.seed.specs.Seed.{flat, kept, seed_from, scored_from, insert_seed_candidate}
use Rattle.seed.specs.declared.SeedCandidate.{SeedCandidate}
use Rattle.robust_lanes.specs.Lanes.{inserted, mean_square, Squared, BestBound}

-- a seed's rms is the root of its pair's mean square
kept_squared : (c : SeedCandidate) (x : Float) → c.rms ≡ sqrt binary32 x → Squared x (kept c)
unfolding kept
kept_squared c x e = go (finite c.rms && (finite c.amp && finite c.mu))
  where
    go : (b : Bool) → Squared x (cond b (Some c) None)
    go true = e
    go false = omega arith

pub scored_squared : (n centered_ss mean num q_mean denom theta1 theta2 : Float)
    → Squared (mean_square n centered_ss num denom) (scored_from n centered_ss mean num q_mean denom theta1 theta2)
unfolding scored_from seed_from mean_square
scored_squared n centered_ss mean num q_mean denom theta1 theta2 = go (flat denom) (mean_square n centered_ss num denom) _ refl
  where
    go : (a : Bool) (x : Float) (c : SeedCandidate) → c.rms ≡ sqrt binary32 x → Squared x (cond a None (kept c))
    go true x c e = omega arith
    go false x c e = kept_squared c x e

-- ---- a pair that is skipped
chosen : (s d : SeedCandidate) (t : Bool) → lt s.rms d.rms ≡ t → inserted (Some d) (Some s) ≡ cond t (Some s) (Some d)
unfolding inserted insert_seed_candidate
chosen s d t h = ap (λ (b : Bool). cond b (Some s) (Some d)) h

pub skipped : (top c : Option SeedCandidate) (bound x : Float) → BestBound top bound → Squared x c → le bound x ≡ true → inserted top c ≡ top
unfolding inserted insert_seed_candidate
skipped None c bound x k q h = absurd (false≢true (unfold le lt lib.Ieee.eq in subst (λ (b : Float). le b x ≡ true) k h))
skipped (Some d) None bound x k q h = refl
skipped (Some d) (Some s) bound x k q h = chosen s d false (ap (λ (r : Float). lt r d.rms) q ∙ ap (lt (sqrt binary32 x)) k ∙ sqrt_mono binary32 x bound h)

-- ---- a pair that is tried: it is no seed; the first; lower than the best; not lower
module _ (top c : Option SeedCandidate) where
  pub tried_nothing : c ≡ None → top ≡ inserted top c
  unfolding inserted
  tried_nothing e = rw e

  module _ (s : SeedCandidate) (e : c ≡ Some s) where
    pub tried_first : top ≡ None → c ≡ inserted top c
    unfolding inserted insert_seed_candidate
    tried_first f = rw (e, f)

    pub tried_lower : (d : SeedCandidate) → top ≡ Some d → lt s.rms d.rms ≡ true → c ≡ inserted top c
    tried_lower d f h = rw (e, f) (sym (chosen s d true h))

    pub tried_not : (d : SeedCandidate) → top ≡ Some d → lt s.rms d.rms ≡ false → top ≡ inserted top c
    tried_not d f h = rw (e, f) (sym (chosen s d false h))
