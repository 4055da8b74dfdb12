-- A run ends with a turn that leaves nothing more to do. Assumes nothing.
use Rattle.std.specs.Prelude.{◌≡◌, Bool, true, not, List, ℕ, ◌+◌}
use Rattle.std.proofs.Common.{sym, true≢false}
use Rattle.lines.specs.Turns.{Turns, then, Run}

module _ {S : Type 0} {Turn : S → List ℕ → List ℕ → List ℕ → List ℕ → S → Type 0} {s : S} {b l : List ℕ} where
  pub run_ends : {more : S → Bool} {n : ℕ} {t r : S} {c d m o : List ℕ} → Turns S Turn n s b l t c m → Turn t c d m o r
      → not (more r) ≡ true → Run S Turn more s b l r d o
  run_ends {n = n} w t e = record { number = n + 1; turns = then w t; ends = λ h. absurd (true≢false (sym (rw h at e))) }
