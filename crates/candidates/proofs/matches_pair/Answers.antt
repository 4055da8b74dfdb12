-- No pair matches nothing; a pair is tested place by place. Assumes nothing.
use mathlib.Core.Path.{◌≡◌, ◌∙◌, refl}
use Prim.Native.Nat.{ℕ}
use Rattle.std.specs.Prelude.{Some, None, eqb, ◌&&◌}
use Rattle.std.specs.Option.{option_eq}
use Rattle.candidates.specs.Candidates as C
use Rattle.candidates.proofs.matches_pair.Goals as goal

pub returns : goal.returns
unfolding C.matches_pair
returns c = c.eq.ensures ∙ either c.args.forced
  where
    either :
        (f : C.Forced) → option_eq (λ (x y : ℕ × ℕ). eqb x.0 y.0 && eqb x.1 y.1) f (Some (c.args.i, c.args.j)) ≡ C.matches_pair f c.args.i c.args.j
    either None = refl
    either (Some f) = refl
