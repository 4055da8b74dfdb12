-- A loop of stores makes the list of its elements. Assumes nothing.
use mathlib.Core.Path.{◌≡◌, ◌∙◌, refl}
use mathlib.Core.List.{List, [], ◌∷◌}
use Prim.Native.Nat.{ℕ}
use native.Mathlib.Omega.{arith}
use lib.ListN.{length, set}
use Rattle.loops.specs.Loops.{iter, tab}
use Rattle.loops.proofs.TabLaws.{stored_all}
use Rattle.loops.proofs.IterLaws.{iter_zero, iter_next}
use Rattle.hexadecimal.proofs.all_at.Goals as goal

-- of an empty list there is no element to name
all_stored : {A : Type 0} (f : ℕ → A) (l : List A) → iter (λ p l. set l p (f p)) l (length l) ≡ tab f (length l)
unfolding iter tab
all_stored f [] = refl
all_stored f (x ∷ xs) = stored_all f (x ∷ xs) x

pub loop-k-init : goal.loop-k-init
loop-k-init g c = rw iter_zero

pub loop-k-preserved : goal.loop-k-preserved
loop-k-preserved g c = rw iter_next (cc)

pub returns : goal.returns
returns g c =
    let h : c.loop-k.k ≡ length c.args.out.now = omega arith in
    rw h at c.loop-k.invariant ∙ all_stored _ _
