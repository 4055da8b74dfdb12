-- A loop of stores makes the list of its elements, and a part of a list that was lent comes back in its place. Assumes nothing.
use Rattle.std.specs.Prelude.{◌≡◌, ◌⊎◌, set}
use Rattle.std.proofs.Math.Path.{refl, ap, subst}
use Rattle.std.proofs.Common.{sym, ◌∙◌, eq-or-lt_of_le, le_of_suc-le-suc, mul-le-mul_right, add-one, length-set, length-take, length-drop, take-append-drop}
use Rattle.std.proofs.Common.{take_at, drop_at, drop-drop, length-take-le, ext_get_or}
use Rattle.std.proofs.Math.Logic.{inl, inr}
use mathlib.Core.List.{List, [], ◌∷◌, ◌++◌, append_assoc}
use Prim.Native.Nat.{ℕ, zero, suc, ◌+◌, ◌-◌, ◌*◌, ◌≤◌, ◌<◌}
use native.Mathlib.Omega.{arith}
use Rattle.std.proofs.Math.Nat.{zero-mul, suc-mul}
use Rattle.std.proofs.Math.ListN.{get_or-append, length, get_or, take, drop, length-append}
use Rattle.std.proofs.Math.Seq.{drop-cons, set_at, take-length, drop-length, drop-append-add}
use Rattle.std.proofs.lemmas.List.{take-append-le, drop-append-le, get_or_at}
use Rattle.loops.specs.Loops.{iter, tab}
use Rattle.loops.proofs.IterLaws.{iter_zero, iter_next}

module _ {A : Type 0} where
  pub tab_length : (f : ℕ → A) (n : ℕ) → length (tab f n) ≡ n
  unfolding tab
  tab_length f zero = refl
  tab_length f (suc n) = let h = tab_length f n in rw (length-append, h) (omega arith)

  -- a loop that stores f p at p, for p from 0 to n - 1
  pub stored : (f : ℕ → A) (l : List A) (d : A) (n : ℕ) → n ≤ length l → iter (λ p l. set l p (f p)) l n ≡ tab f n ++ drop n l
  unfolding tab iter
  stored f l d zero h = refl
  stored f l d (suc n) h =
      let h' : n ≤ length l = omega arith in
      let e : drop n l ≡ get_or l n d ∷ drop (suc n) l = drop-cons l n d (omega arith) in
      rw (stored f l d n h', e, set_at (tab f n) (get_or l n d) (drop (suc n) l) (f n) n (tab_length f n))
      (sym (append_assoc (tab f n) (f n ∷ []) (drop (suc n) l)))

  pub stored_all : (f : ℕ → A) (l : List A) (d : A) → iter (λ p l. set l p (f p)) l (length l) ≡ tab f (length l)
  stored_all f l d = rw (stored f l d (length l) (omega arith), drop-length) (append_nil_right (tab f (length l)))
    where
      append_nil_right : (xs : List A) → xs ++ [] ≡ xs
      append_nil_right [] = refl
      append_nil_right (x ∷ xs) = ap {B = List A} (λ r. x ∷ r) (append_nil_right xs)

  -- a part of a list that was lent and came back as ys: the part itself, a part before it, and the length
  pub part_before : (p x : List A) (b n : ℕ) → b + n ≤ length p → take n (drop b (p ++ x)) ≡ take n (drop b p)
  part_before p x b n h =
      rw (drop-append-le b p x (omega arith)) (take-append-le n (drop b p) x (simp length-drop (omega arith)))

  pub part_kept : (l x : List A) (b b' n : ℕ) → b ≤ length l → b' + n ≤ b → take n (drop b' (take b l ++ x)) ≡ take n (drop b' l)
  part_kept l x b b' n h i =
      let t : b' + n ≤ length (take b l) = simp length-take (omega arith) in
      part_before (take b l) x b' n t ∙ sym (rw (take-append-drop b l) at (part_before (take b l) (drop b l) b' n t))

  pub part_same : (l ys x : List A) (b n : ℕ) → b ≤ length l → length ys ≡ n → take n (drop b (take b l ++ (ys ++ x))) ≡ ys
  part_same l ys x b n h e = rw (drop_at (take b l) (ys ++ x) b (length-take-le b l h)) (take_at ys x n e)

  -- a part behind one that was lent and came back
  pub part_after :
      (l ys : List A) (b b' m n : ℕ) → b + m ≤ length l → length ys ≡ m → b + m ≤ b' →
      take n (drop b' (take b l ++ (ys ++ drop m (drop b l)))) ≡ take n (drop b' l)
  part_after l ys b b' m n h e i =
      let d = b' - (b + m) in
      let z : length (take b l ++ ys) + d ≡ b' = simp (length-append, length-take, e) (omega arith) in
      let y : b + m + d ≡ b' = omega arith in
      ap (λ (k : List A). take n k)
      (ap (drop b') (sym (append_assoc (take b l) ys (drop m (drop b l))))
      ∙ rw z at (drop-append-add (take b l ++ ys) (drop m (drop b l)) d)
      ∙ ap (drop d) (drop-drop m b l) ∙ drop-drop d (b + m) l ∙ ap (λ (k : ℕ). drop k l) y)

  pub part_length : (l ys : List A) (b n : ℕ) → b + n ≤ length l → length ys ≡ n → length (take b l ++ (ys ++ drop n (drop b l))) ≡ length l
  part_length l ys b n h e = simp (length-append, length-take, length-drop, e) (omega arith)

  -- a list of parts of k elements each, behind x: its length, a part of it, and a buffer in which one part more is written
  module _ (f : ℕ → List A) (x : List A) (k : ℕ) (all : (i : ℕ) → length (f i) ≡ k) where
    abbrev pub parts : ℕ → List A
    parts n = iter (λ i l. l ++ f i) x n

    abbrev size : ℕ → ℕ
    size n = length x + n * k

    size_more : (n : ℕ) → size (n + 1) ≡ size n + k
    size_more n = let z : (n + 1) * k ≡ n * k + k = rw add-one (suc-mul n k) in omega (arith, z)

    pub parts_length : (n : ℕ) → length (parts n) ≡ size n
    unfolding iter
    parts_length zero = omega (arith, zero-mul k)
    parts_length (suc n) = length-append (parts n) (f n) ∙ omega (arith, parts_length n, all n, suc-mul n k)

    pub part_of : (n j : ℕ) → j < n → take k (drop (size j) (parts n)) ≡ f j
    unfolding iter
    part_of zero j l = absurd (none l)
      where
        none : j < 0 → ⊥
        none l = omega arith
    part_of (suc n) j l = go (part_of n j) (eq-or-lt_of_le (le_of_suc-le-suc l))
      where
        whole : take k (f n) ≡ f n
        whole = ap (λ (i : ℕ). take i (f n)) (sym (all n)) ∙ take-length (f n)

        go : (j < n → take k (drop (size j) (parts n)) ≡ f j) → (j ≡ n) ⊎ (j < n) → take k (drop (size j) (parts n ++ f n)) ≡ f j
        go before (inl e) = rw e (ap (take k) (drop_at (parts n) (f n) (size n) (parts_length n)) ∙ whole)
        go before (inr h) =
            let more : j + 1 ≤ n = omega arith in
            let room : size j + k ≤ length (parts n) = omega (arith, parts_length n, size_more j, mul-le-mul_right k more) in
            part_before (parts n) (f n) (size j) k room ∙ before h

    pub parts_more : (l₀ l r : List A) (n : ℕ) → l ≡ parts n ++ drop (size n) l₀ → r ≡ f n
        → take (size n) l ++ (r ++ drop k (drop (size n) l)) ≡ parts (n + 1) ++ drop (size (n + 1)) l₀
    parts_more l₀ l r n e g =
        let front : take (size n) l ≡ parts n = ap (take (size n)) e ∙ take_at (parts n) (drop (size n) l₀) (size n) (parts_length n) in
        let behind : drop (size n) l ≡ drop (size n) l₀ = ap (drop (size n)) e ∙ drop_at (parts n) (drop (size n) l₀) (size n) (parts_length n) in
        rw (front, behind, g, iter_next, drop-drop k (size n) l₀, size_more n) (sym (append_assoc (parts n) (f n) (drop (size n + k) l₀)))

  -- what stands at a place
  pub tab_at : (f : ℕ → A) (d : A) (n i : ℕ) → i < n → get_or (tab f n) i d ≡ f i
  unfolding tab
  tab_at f d zero i h = absurd (not_below i h)
    where
      not_below : (i : ℕ) → i < 0 → ⊥
      not_below i h = omega arith
  tab_at f d (suc n) i h = elim (eq-or-lt_of_le (le_of_suc-le-suc h)) [
    | inl e ↦ subst (λ (k : ℕ). get_or (tab f n ++ (f n ∷ [])) k d ≡ f k) (sym e) (get_or_at (tab f n) (f n) [] d n (tab_length f n))
    | inr l ↦ get_or-append (tab f n) (f n ∷ []) d i (subst (λ (k : ℕ). i < k) (sym (tab_length f n)) l) ∙ tab_at f d n i l
  ]

  -- a list is the list of its elements
  pub tab_self : (l : List A) (d : A) (n : ℕ) → length l ≡ n → tab (λ i. get_or l i d) n ≡ l
  tab_self l d n e =
      ext_get_or d (tab (λ i. get_or l i d) n) l (tab_length (λ i. get_or l i d) n ∙ sym e)
      (λ i h. tab_at (λ i. get_or l i d) d n i (rw (tab_length (λ i. get_or l i d) n) at h))

  -- lists of elements that agree
  pub tab_same : (f g : ℕ → A) (n : ℕ) → ((i : ℕ) → i < n → f i ≡ g i) → tab f n ≡ tab g n
  unfolding tab
  tab_same f g zero h = refl
  tab_same f g (suc n) h = rw (tab_same f g n (λ i l. h i (omega arith)), h n (omega arith))

  -- a list of elements without its first k, and its first n
  pub drop_tab : (f : ℕ → A) (k m : ℕ) → drop k (tab f (k + m)) ≡ tab (λ i. f (k + i)) m
  unfolding tab
  drop_tab f k zero = let z : k + 0 ≡ k = omega arith in rw z (all k)
    where
      all : (k : ℕ) → drop k (tab f k) ≡ []
      all k = let e = drop-length (tab f k) in rw (tab_length f k) at e
  drop_tab f k (suc m) =
      let z : k + suc m ≡ suc (k + m) = omega arith in
      let l : k ≤ length (tab f (k + m)) = rw (tab_length f (k + m)) (omega arith) in
      rw z (drop-append-le k (tab f (k + m)) (f (k + m) ∷ []) l ∙ ap (λ (r : List A). r ++ (f (k + m) ∷ [])) (drop_tab f k m))

  pub take_tab : (f : ℕ → A) (n d : ℕ) → take n (tab f (n + d)) ≡ tab f n
  unfolding tab
  take_tab f n zero = let z : n + 0 ≡ n = omega arith in rw z (all n)
    where
      all : (n : ℕ) → take n (tab f n) ≡ tab f n
      all n = let e = take-length (tab f n) in rw (tab_length f n) at e
  take_tab f n (suc d) =
      let z : n + suc d ≡ suc (n + d) = omega arith in
      let l : n ≤ length (tab f (n + d)) = rw (tab_length f (n + d)) (omega arith) in
      rw z (take-append-le n (tab f (n + d)) (f (n + d) ∷ []) l ∙ take_tab f n d)

-- A loop that has stored f 0, f 1, .. f (k - 1) into a list that was l₀: how its invariant says so, and the three steps of its proof.
pub record Stores {A : Type 0} (f : ℕ → A) (l₀ l : List A) (k : ℕ) : Type 0 where
  pub len : length l ≡ length l₀
  pub is : l ≡ iter (λ p l. set l p (f p)) l₀ k

module _ {A : Type 0} (f : ℕ → A) (l₀ : List A) where
  pub stores_none : Stores f l₀ l₀ 0
  stores_none = record { len = refl; is = sym (iter_zero (λ p l. set l p (f p)) l₀) }

  pub stores_next : (l : List A) (k : ℕ) (x : A) → Stores f l₀ l k → x ≡ f k → Stores f l₀ (set l k x) (k + 1)
  stores_next l k x s e = record { len = length-set l k x ∙ s.len; is = rw (iter_next, ← s.is, e) }

  pub stores_all : (l : List A) (d : A) (n : ℕ) → Stores f l₀ l n → length l₀ ≡ n → l ≡ tab f n
  stores_all l d n s e = s.is ∙ ap (iter (λ p l. set l p (f p)) l₀) (sym e) ∙ stored_all f l₀ d ∙ ap (tab f) e
