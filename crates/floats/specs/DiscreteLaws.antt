-- Equality of floats can be decided: it is that of the sign, the digits and the power. Assumes nothing.
use Rattle.std.specs.Prelude.{◌≡◌, ℕ, Bool, false, ℤ, pos, refl, Float}
use Rattle.std.proofs.Common.{sym, ap, subst}
use mathlib.Core.HLevel.{Discrete}
use Rattle.std.proofs.Math.Bool.{Bool-discrete}
use Rattle.std.proofs.Math.Decide.{ℕ_discrete}
use Rattle.std.proofs.Math.IntN.{ℤ_discrete}
use Rattle.std.specs.Float.{nan, inf, fin}

abbrev IsNan : Float → Type 0
IsNan nan = Unit {0}
IsNan (inf s) = ⊥
IsNan (fin s m e) = ⊥

abbrev IsInf : Float → Type 0
IsInf nan = ⊥
IsInf (inf s) = Unit {0}
IsInf (fin s m e) = ⊥

abbrev sign_of : Float → Bool
sign_of nan = false
sign_of (inf s) = s
sign_of (fin s m e) = s

abbrev digits_of : Float → ℕ
digits_of nan = 0
digits_of (inf s) = 0
digits_of (fin s m e) = m

abbrev power_of : Float → ℤ
power_of nan = pos 0
power_of (inf s) = pos 0
power_of (fin s m e) = e

inf_dec : (s t : Bool) → Dec (s ≡ t) → Dec (inf s ≡ inf t)
inf_dec s t (yes p) = yes (ap inf p)
inf_dec s t (no f) = no (λ q. f (ap sign_of q))

fin_dec : (s t : Bool) (m n : ℕ) (e d : ℤ) → Dec (s ≡ t) → Dec (m ≡ n) → Dec (e ≡ d) → Dec (fin s m e ≡ fin t n d)
fin_dec s t m n e d (no f) b c = no (λ q. f (ap sign_of q))
fin_dec s t m n e d (yes p) (no f) c = no (λ q. f (ap digits_of q))
fin_dec s t m n e d (yes p) (yes q) (no f) = no (λ z. f (ap power_of z))
fin_dec s t m n e d (yes p) (yes q) (yes r) = yes (λ i. fin (p i) (q i) (r i))

pub float_discrete : Discrete Float
float_discrete nan nan = yes refl
float_discrete nan (inf t) = no (λ e. subst IsNan e tt)
float_discrete nan (fin t n d) = no (λ e. subst IsNan e tt)
float_discrete (inf s) nan = no (λ e. subst IsNan (sym e) tt)
float_discrete (inf s) (inf t) = inf_dec s t (Bool-discrete s t)
float_discrete (inf s) (fin t n d) = no (λ e. subst IsInf e tt)
float_discrete (fin s m k) nan = no (λ e. subst IsNan (sym e) tt)
float_discrete (fin s m k) (inf t) = no (λ e. subst IsInf (sym e) tt)
float_discrete (fin s m k) (fin t n d) = fin_dec s t m n k d (Bool-discrete s t) (ℕ_discrete m n) (ℤ_discrete k d)
