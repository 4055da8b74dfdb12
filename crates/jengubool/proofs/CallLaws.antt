-- What is written in front of a buffer, and the two tests of its room as one. Assumes nothing.
use Rattle.std.specs.Prelude.{◌≡◌, refl, Bool, true, false, cond, ◌||◌, List, [], ◌∷◌, ◌++◌, ℕ, suc, ◌+◌, ◌≤◌, length, drop, set, ltb, Float}
use Rattle.std.proofs.Common.{sym, ◌∙◌, arith, add-one}
use Rattle.std.proofs.lemmas.List.Edits.{sets, sets-eq}
use Rattle.jengubool.specs.Calls.{Stored, put_from}

put_sets : {A : Type 0} (xs : List A) (at : ℕ) (l : List A) → put_from xs at l ≡ sets l at xs
put_sets [] at l = refl
put_sets (x ∷ xs) at l = rw add-one (put_sets xs (suc at) (set l at x))

pub put_front : {A : Type 0} (xs l : List A) → length xs ≤ length l → xs ++ drop (length xs) l ≡ put_from xs 0 l
put_front xs l h =
    let z : 0 + length xs ≡ length xs = omega arith in
    sym (put_sets xs 0 l ∙ (rw z at (sets-eq xs l 0 (omega arith))))

module _ (fit : List Float) (counts : List ℕ) (values numbers : ℕ) (r : Stored) where
  abbrev short : Stored
  short = record { code = 65536; fit = fit; counts = counts }

  abbrev call : Bool → Bool → Stored
  call a b = cond a short (cond b short r)

  pub short_call : (ltb (length fit) values || ltb (length counts) numbers) ≡ true → short ≡ call (ltb (length fit) values) (ltb (length counts) numbers)
  short_call = go (ltb (length fit) values) (ltb (length counts) numbers)
    where
      go : (a b : Bool) → (a || b) ≡ true → short ≡ call a b
      go true b h = refl
      go false true h = refl
      go false false h = cc
