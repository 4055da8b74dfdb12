-- A text of sentences is told sentence by sentence. Assumes nothing.
use Rattle.std.specs.Prelude.{◌≡◌, ℕ, zero, suc, ◌+◌, ◌<◌, ◌≤◌, Bool, true, false, cond, not, ◌&&◌, List, [], ◌∷◌, ◌++◌, length, get_or, drop, ◌==◌}
use Rattle.std.specs.Prelude.{slice_index, slice_index_or, refl}
use Rattle.std.proofs.Common.{sym, ◌∙◌, true≢false, length-append, drop-cons}
use Rattle.std.proofs.Math.Path.{ap}
use mathlib.Core.List.{append_assoc, append-nil}
use Prim.Native.String.{String}
use Rattle.std.proofs.Math.Numerals.{add-one}
use Rattle.std.proofs.lemmas.Bool.{not-true}
use Rattle.std.proofs.Math.Seq.{drop-length, get_or-append_seam}
use Rattle.hexadecimal.specs.Hex.{bytes}
use Rattle.explain_words.specs.declared.Page.{Page}
use Rattle.hexadecimal.specs.HexLaws.{written_none, written_as, written_then}
use Rattle.explain_words.specs.Tell.{Said, Told, letter, spelt, piece, piece_if, spelled, sentence_after, told, telling, flags_of, barred, barless, all_barless}

-- ---- a word, letter by letter
pub spelt_none : (w : List ℕ) → spelt w 0 ≡ []
unfolding spelt
spelt_none w = refl

pub spelt_next : (w : List ℕ) (n : ℕ) → spelt w (n + 1) ≡ spelt w n ++ letter (slice_index w n)
unfolding spelt
spelt_next w n = rw add-one

pub spelt_empty : (n : ℕ) → spelt [] n ≡ []
unfolding spelt
spelt_empty zero = refl
spelt_empty (suc n) = rw (spelt_empty n)

-- ---- nothing said; what is said side by side is said as one
pub said_none : (p : Page) → p.at ≤ length p.text.now → Said p p []
said_none p h = record { same = refl; kept = refl; said = written_none h }

pub said_as : {p q : Page} {t u : List ℕ} → Said p q t → t ≡ u → Said p q u
said_as s e = record { same = s.same; kept = s.kept; said = written_as s.said e }

pub said_then : {p q r : Page} {a b : List ℕ} → Said p q a → Said q r b → r.at ≤ length p.text.now → Said p r (a ++ b)
said_then s t h = record { same = t.same ∙ s.same; kept = t.kept ∙ s.kept; said = written_then s.said t.said h }

-- ---- in the middle of a text: what is said so far, and what is left to tell, are the whole
pub record Midway (fs : List Bool) (ws : List (List ℕ)) (s : List ℕ) (p : Page) (i k : ℕ) (inside : Bool) (q : Page) : Type 0 where
  pub done : List ℕ
  pub said : Said p q done
  pub whole : done ++ told fs ws k inside (drop i s) ≡ told fs ws 0 false s

module _ {fs : List Bool} {ws : List (List ℕ)} {s : List ℕ} {p : Page} where
  pub midway_start : p.at ≤ length p.text.now → Midway fs ws s p 0 0 false p
  midway_start h = record { done = []; said = said_none p h; whole = refl }

  pub midway_next : {i k : ℕ} {inside : Bool} {q r : Page} → Midway fs ws s p i k inside q → i < length s
      → Said q r (piece_if (slice_index_or fs k false) ws inside (slice_index s i)) → r.at ≤ length p.text.now
      → Midway fs ws s p (i + 1) (sentence_after k (slice_index s i)) (slice_index s i == 123) r
  unfolding told
  midway_next {i} {k} {inside} {q} {r} w h t b =
      let c = get_or s i 0 in
      let x = piece_if (slice_index_or fs k false) ws inside c in
      let rest = told fs ws (sentence_after k c) (c == 123) (drop (i + 1) s) in
      let e : told fs ws k inside (drop i s) ≡ x ++ rest = rw (drop-cons s i 0 h, add-one i) in
      record {
        done = w.done ++ x;
        said = said_then w.said t b;
        whole = append_assoc w.done x rest ∙ ap (λ (q : List ℕ). w.done ++ q) (sym e) ∙ w.whole;
      }

  pub midway_end : {i k : ℕ} {inside : Bool} {q : Page} → Midway fs ws s p i k inside q → i ≡ length s → Said p q (told fs ws 0 false s)
  unfolding told
  midway_end {i} {k} {inside} {q} w e =
      let d : drop i s ≡ [] = rw (e, drop-length s) in
      said_as w.said (sym (append-nil w.done) ∙ ap (λ (q : List ℕ). w.done ++ told fs ws k inside q) (sym d) ∙ w.whole)

-- ---- one sentence, and then the others
both : (a b : Bool) → (a && b) ≡ true → (a ≡ true) × (b ≡ true)
both true b e = (refl, e)
both false b e = absurd (true≢false (sym e))

nothing : (b : Bool) → ◌≡◌ {A = List ℕ} (cond b [] []) []
nothing true = refl
nothing false = refl

joined : (b : Bool) (x y t : List ℕ) → cond b x [] ++ (cond b y [] ++ t) ≡ cond b (x ++ y) [] ++ t
joined true x y t = sym (append_assoc x y t)
joined false x y t = refl

bar_unsaid : (ws : List (List ℕ)) (inside : Bool) → piece ws inside 124 ≡ []
unfolding piece
bar_unsaid ws inside = refl

module _ (fs : List Bool) (ws : List (List ℕ)) where
  sentence : (k : ℕ) (inside : Bool) (cs rest : List ℕ) → barless cs ≡ true
      → told fs ws k inside (cs ++ (124 ∷ rest)) ≡ cond (slice_index_or fs k false) (spelled ws inside cs) [] ++ told fs ws (k + 1) false rest
  unfolding told spelled barless
  sentence k inside [] rest h = rw (bar_unsaid ws inside, nothing (slice_index_or fs k false))
  sentence k inside (c ∷ cs) rest h =
      let g = both (not (c == 124)) (barless cs) h in
      rw (not-true (c == 124) g.0, sentence k (c == 123) cs rest g.1) (joined (slice_index_or fs k false) (piece ws inside c) (spelled ws (c == 123) cs) _)

-- with the flags gs of what came before
all_told : (ws : List (List ℕ)) (gs : List Bool) (ps : List (Bool × String)) → all_barless ps ≡ true
    → told (gs ++ flags_of ps) ws (length gs) false (barred ps) ≡ telling ws ps
unfolding told telling flags_of barred all_barless
all_told ws gs [] h = refl
all_told ws gs ((on, u) ∷ ps) h =
    let g = both (barless (bytes u)) (all_barless ps) h in
    let f : get_or (gs ++ (on ∷ flags_of ps)) (length gs) false ≡ on = get_or-append_seam gs on (flags_of ps) false in
    let a : gs ++ (on ∷ flags_of ps) ≡ (gs ++ (on ∷ [])) ++ flags_of ps = sym (append_assoc gs (on ∷ []) (flags_of ps)) in
    let n : length gs + 1 ≡ length (gs ++ (on ∷ [])) = simp length-append in
    sentence (gs ++ (on ∷ flags_of ps)) ws (length gs) false (bytes u) (barred ps) g.0
    ∙ ap (λ (b : Bool). cond b (spelled ws false (bytes u)) [] ++ told (gs ++ (on ∷ flags_of ps)) ws (length gs + 1) false (barred ps)) f
    ∙ ap (λ (q : List ℕ). cond on (spelled ws false (bytes u)) [] ++ q) (rw (a, n) (all_told ws (gs ++ (on ∷ [])) ps g.1))

pub told_telling : (ws : List (List ℕ)) (ps : List (Bool × String)) → all_barless ps ≡ true → told (flags_of ps) ws 0 false (barred ps) ≡ telling ws ps
told_telling ws ps h = all_told ws [] ps h

-- what the writer of sentences is called with: their flags, and their text
pub rows_told : (rows : List (Bool × String)) {fs : List Bool} (ws : List (List ℕ)) {p q : Page}
    → Said p q (told fs ws 0 false (barred rows)) → fs ≡ flags_of rows → all_barless rows ≡ true → Told rows p q
rows_told rows ws s e h =
    record { words = ws; said = said_as s (ap (λ (gs : List Bool). told gs ws 0 false (barred rows)) e ∙ told_telling ws rows h) }
