-- A strange answer is told. Assumes nothing.
use Rattle.std.specs.Prelude.{◌≡◌, Bool, true, ℕ, not, ◌&&◌, ◌||◌, Option, Some, refl}
use Rattle.std.proofs.Common.{sym, true≢false}
use Rattle.shapes.specs.declared.RingKind.TheVariants.{Sixteen, TwentyFour}
use Rattle.shapes.specs.declared.Kind.{Kind}
use Rattle.explain_sorts.specs.declared.Asks.TheVariants as Askings
use Rattle.explain_sorts.specs.declared.Due.TheVariants as Dues
use Rattle.explain_sorts.specs.declared.Asks.{Asks}
use Rattle.explain_sorts.specs.declared.Due.{Due}
use Rattle.explain_sorts.specs.declared.Above.{Above}
use Rattle.explain_sorts.specs.declared.Above.TheVariants as Aboves
use Rattle.explain_sorts.specs.declared.Sort.{Sort}
use Rattle.explain_sorts.specs.declared.Sort.TheVariants.{Asked, Fit, Refused, Bad}
use Rattle.explain_sorts.specs.Sorts.{is_strange, belongs}
use Rattle.explain_sentences.specs.Sentences.{of_ring, disk_kind, kind_asked, kind_above, is_fit_due, is_refused, is_clean}

-- ---- of an answer that is not that of the frame above it, one of the four sentences is told
abbrev pub is_told : Above → Bool
is_told a =
    is_refused a || (is_clean a && of_ring Sixteen (kind_above a)) || (is_clean a && of_ring TwentyFour (kind_above a))
    || (is_clean a && disk_kind (kind_above a))

framed : (asks : Asks) (due : Due) →
    (not (is_fit_due due) || (is_fit_due due && of_ring Sixteen (Some (kind_asked asks))) || (is_fit_due due && of_ring TwentyFour (Some (kind_asked asks)))
    || (is_fit_due due && disk_kind (Some (kind_asked asks)))) ≡ true
framed asks Dues.BadCount = refl
framed asks (Dues.Wild k bits) = refl
framed (Askings.Ring Sixteen) Dues.Fit = refl
framed (Askings.Ring TwentyFour) Dues.Fit = refl
framed (Askings.Disk n) Dues.Fit = refl

covered : (a : Above) (kind : Option Kind) (number place : ℕ) → not (belongs a kind number place) ≡ true → is_told a ≡ true
covered Aboves.Nothing kind number place e = absurd (true≢false (sym e))
covered (Aboves.Asked f) kind number place e = framed f.asks f.due
covered (Aboves.Malformed line) kind number place e = refl
covered (Aboves.Flawed line) kind number place e = absurd (true≢false (sym e))

pub strange_told : (s : Sort) (a : Above) → is_strange s a ≡ true → is_told a ≡ true
strange_told (Asked f) a e = absurd (true≢false (sym e))
strange_told (Fit kind) a e = covered a (Some kind) 0 0 e
strange_told (Refused r) a e = covered a r.kind r.number r.place e
strange_told (Bad w) a e = absurd (true≢false (sym e))
