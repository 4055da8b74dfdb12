-- Writing: two texts written side by side are one text written once, so a writer that calls others is proved by its seams. Assumes nothing.
use Rattle.std.specs.Prelude.{◌≡◌, refl, get_or, set}
use Rattle.std.proofs.Math.Path.{sym, ap}
use Rattle.std.proofs.Common.{◌∙◌, add-one, length-drop, take-append-drop, drop_at}
use mathlib.Core.List.{List, [], ◌∷◌, ◌++◌, append_assoc}
use Prim.Native.Nat.{ℕ, zero, suc, ◌+◌, ◌*◌, ◌≤◌, ◌<◌}
use native.Mathlib.Omega.{arith}
use Rattle.std.proofs.Math.ListN.{length, take, drop, length-append, length-take}
use Rattle.std.proofs.Math.Seq.{set_split, take_at, drop-drop}
use Rattle.hexadecimal.specs.Hex.{byte_text, count_text, word_text, words_text, put, Written}

module _ (l : List ℕ) (at : ℕ) where
  pub put_length : (xs : List ℕ) → at + length xs ≤ length l → length (put l at xs) ≡ length l
  unfolding put
  put_length xs h = simp (length-append, length-take, length-drop) (omega arith)

  pub put_put : (xs ys : List ℕ) (k : ℕ) → k ≡ at + length xs → k + length ys ≤ length l → put (put l at xs) k ys ≡ put l at (xs ++ ys)
  unfolding put
  put_put xs ys k e h =
      let r = drop (at + length xs) l in
      let n : length (take at l ++ xs) ≡ k = simp (length-append, length-take) (omega arith) in
      let s : take at l ++ (xs ++ r) ≡ (take at l ++ xs) ++ r = sym (append_assoc (take at l) xs r) in
      let d : drop (k + length ys) ((take at l ++ xs) ++ r) ≡ drop (at + length xs + length ys) l =
      sym (drop-drop (length ys) k ((take at l ++ xs) ++ r)) ∙ ap (λ (q : List ℕ). drop (length ys) q) (drop_at (take at l ++ xs) r k n)
      ∙ drop-drop (length ys) (at + length xs) l in
      let z : at + length (xs ++ ys) ≡ at + length xs + length ys = simp length-append (omega arith) in
      let e = drop (at + length xs + length ys) l in
      rw (s, take_at (take at l ++ xs) r k n, d, z, append_assoc (take at l) xs (ys ++ e), append_assoc xs ys e)

  -- nothing written; what is written at 0
  pub put_none : at ≤ length l → put l at [] ≡ l
  unfolding put
  put_none h = let z : at + length {A = ℕ} [] ≡ at = omega arith in rw z (take-append-drop at l)

  pub put_one : (x : ℕ) → at < length l → set l at x ≡ put l at (x ∷ [])
  unfolding put
  put_one x h = let z : at + length (x ∷ []) ≡ suc at = omega arith in rw (z, set_split l at x h)

pub put_zero : (l xs : List ℕ) → put l 0 xs ≡ xs ++ drop (length xs) l
unfolding put
put_zero l xs = let z : 0 + length xs ≡ length xs = omega arith in rw z

-- ---- what is written side by side is written as one
module _ {l : List ℕ} {at : ℕ} where
  pub written_none : at ≤ length l → Written l at [] l at
  written_none h = record { text = sym (put_none l at h); place = omega arith }

  pub written_one : (c : ℕ) → at < length l → Written l at (c ∷ []) (set l at c) (at + 1)
  written_one c h = record { text = put_one l at c h; place = omega arith }

  pub written_as : {t u m : List ℕ} {r : ℕ} → Written l at t m r → t ≡ u → Written l at u m r
  written_as s e = rw e at s

  pub written_then : {a b m n : List ℕ} {p r : ℕ} → Written l at a m p → Written m p b n r → r ≤ length l → Written l at (a ++ b) n r
  written_then {a} {b} {m} {n} {p} {r} s t h =
      let e : put (put l at a) p b ≡ put l at (a ++ b) = put_put l at a b p s.place (omega (arith, t.place)) in
      record { text = t.text ∙ ap (λ (k : List ℕ). put k p b) s.text ∙ e; place = simp length-append (omega (arith, s.place, t.place)) }

pub word_length : (w : ℕ) → length (word_text w) ≡ 8
unfolding word_text count_text byte_text
word_length w = refl

pub words_length : (ws : List ℕ) (n : ℕ) → length (words_text ws n) ≡ 8 * n
unfolding words_text word_text count_text byte_text
words_length ws zero = refl
words_length ws (suc n) = let h = words_length ws n in simp length-append (omega arith)

pub words_none : (ws : List ℕ) → words_text ws 0 ≡ []
unfolding words_text
words_none ws = refl

pub words_next : (ws : List ℕ) (n : ℕ) → words_text ws (n + 1) ≡ words_text ws n ++ word_text (get_or ws n 0)
unfolding words_text
words_next ws n = rw add-one
