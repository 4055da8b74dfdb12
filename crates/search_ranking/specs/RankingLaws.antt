-- The ranking is sorted, it has the pool's own pairs, and no other arrangement of them is sorted. Assumes nothing.
use Rattle.std.specs.Prelude.{◌≡◌, refl, ◌⊎◌, Bool, true, false, not, cond, ℕ, zero, suc, ◌+◌, ◌≤◌, ◌<◌, length, take, get_or, ltb, Float}
use Rattle.std.proofs.Common.{sym, ap, ◌∙◌, subst, inl, inr, le_of_suc-le-suc, not-suc-le-zero, arith, lt-ltb, le-ltb, ltb-true, ltb-false, take-suc}
use Rattle.std.proofs.Math.Logic.Or
use Rattle.std.proofs.Math.Bool.{Bool-set}
use Rattle.std.proofs.lemmas.Bool.{false≢true}
use mathlib.Core.List.{List, [], ◌∷◌, ◌++◌, cons≢nil, Mem, not-mem-nil, mem-cons_self, mem-cons_of_mem, eq-or-mem_of_mem-cons}
use mathlib.Core.List.{Perm, perm_append_singleton}
use mathlib.Core.List.{Permᴰ}
use Rattle.std.proofs.Common.{Ordering, Less, Equal, Greater, is_lt, nat_cmp}
use Rattle.std.specs.Ordering.{ordering_then}
use Rattle.std.specs.Bool.{beq}
use Rattle.std.specs.Cmp.{nat_cmp_is}
use Rattle.floats.specs.Rows.{Row}
use Rattle.floats.specs.Library.{total_key}
use Rattle.data.specs.Data.{DiskData}
use Rattle.candidates.specs.Candidates.{Forced, max_paired, histogram_candidates, build_pair_pool}
use Rattle.candidates.specs.CandidatesLaws.{candidates_most}
use Rattle.candidates.specs.declared.CandidateSet.{CandidateSet}
use Rattle.candidates.specs.declared.PairScore.{PairScore}
use Rattle.candidates.specs.declared.Pool.{Pool}
use Rattle.loops.specs.Loops.{iter}
use Rattle.loops.proofs.IterLaws.{iter_next}
use Rattle.search_ranking.specs.Ranking.{keys_before, is_before, insert_ranked, blank, sorted}
use Rattle.search_ranking.specs.PoolLaws.{Distinct, pool_few, pool_distinct}

pub compared : (m n : ℕ) → (m < n) ⊎ (n ≤ m)
compared m n = by (ltb m n) refl
  where
    by : (b : Bool) → ltb m n ≡ b → (m < n) ⊎ (n ≤ m)
    by true e = inl (ltb-true m n e)
    by false e = inr (ltb-false m n e)

either_way : (P : Bool → Type 0) → P true → P false → (b : Bool) → P b
either_way P t f true = t
either_way P t f false = f

-- ---- a pair put into a list
pub insert_length : (x : PairScore) (l : List PairScore) → length (insert_ranked x l) ≡ suc (length l)
unfolding insert_ranked
insert_length x [] = refl
insert_length x (y ∷ l) =
    either_way (λ b. length (cond b (x ∷ insert_ranked y l) (y ∷ insert_ranked x l)) ≡ suc (suc (length l)))
    (ap suc (insert_length y l)) (ap suc (insert_length x l)) (is_before x y)

-- what falls out of the first k never comes back: the first k are those of the first k
pub take_insert : (k : ℕ) (x : PairScore) (l : List PairScore) → take k (insert_ranked x l) ≡ take k (insert_ranked x (take k l))
unfolding insert_ranked
take_insert zero x l = refl
take_insert (suc k) x [] = refl
take_insert (suc k) x (y ∷ l) =
    let m = take k l in
    either_way
    (λ b. take (suc k) (cond b (x ∷ insert_ranked y l) (y ∷ insert_ranked x l))
    ≡ take (suc k) (cond b (x ∷ insert_ranked y m) (y ∷ insert_ranked x m)))
    (ap {B = List PairScore} (λ r. x ∷ r) (take_insert k y l)) (ap {B = List PairScore} (λ r. y ∷ r) (take_insert k x l)) (is_before x y)

pub insert_before : (x y : PairScore) (l : List PairScore) → is_before x y ≡ true → insert_ranked x (y ∷ l) ≡ x ∷ insert_ranked y l
unfolding insert_ranked
insert_before x y l e = rw e

pub insert_after : (x y : PairScore) (l : List PairScore) → is_before x y ≡ false → insert_ranked x (y ∷ l) ≡ y ∷ insert_ranked x l
unfolding insert_ranked
insert_after x y l e = rw e

-- ---- the first n pairs, sorted
pub sorted_next : (n : ℕ) (pairs : List PairScore) → sorted (n + 1) pairs ≡ insert_ranked (get_or pairs n blank) (sorted n pairs)
unfolding sorted
sorted_next n pairs = rw iter_next

pub sorted_length : (n : ℕ) (pairs : List PairScore) → length (sorted n pairs) ≡ n
unfolding sorted iter
sorted_length zero pairs = refl
sorted_length (suc n) pairs = insert_length (get_or pairs n blank) (sorted n pairs) ∙ ap suc (sorted_length n pairs)

-- ---- the order: the keys one after the other, the first that differ decide
abbrev lex : ℕ → ℕ → Bool → Bool
lex m n r = cond (ltb m n) true (cond (ltb n m) false r)

lex_below : (m n : ℕ) (r : Bool) → m < n → lex m n r ≡ true
lex_below m n r h = rw (lt-ltb m n h)

lex_above : (m n : ℕ) (r : Bool) → n < m → lex m n r ≡ false
lex_above m n r h = rw (le-ltb m n (omega arith), lt-ltb n m h)

lex_level : (m n : ℕ) (r : Bool) → m ≡ n → lex m n r ≡ r
lex_level m n r e = rw (le-ltb m n (omega arith), le-ltb n m (omega arith))

-- the code returns at the first test that decides
lex_unlike : (m n : ℕ) (r : Bool) → (n ≡ m → ⊥) → ltb m n ≡ lex m n r
lex_unlike m n r o = elim (compared m n) [
  | inl h ↦ rw (lt-ltb m n h)
  | inr h ↦ let g : n < m = omega arith in rw (le-ltb m n h, lt-ltb n m g)
]

lex_then : (m n : ℕ) (o : Ordering) → is_lt (ordering_then (nat_cmp m n) o) ≡ lex m n (is_lt o)
lex_then m n o = elim (compared m n) [
  | inl h ↦ rw (← nat_cmp_is m n Less h, lex_below m n (is_lt o) h)
  | inr h ↦ elim (compared n m) [
    | inl g ↦ rw (← nat_cmp_is m n Greater g, lex_above m n (is_lt o) g)
    | inr g ↦ let q : m ≡ n = omega arith in rw (← nat_cmp_is m n Equal q, lex_level m n (is_lt o) q)
  ]
]

last_then : (m n : ℕ) → is_lt (nat_cmp m n) ≡ ltb m n
last_then m n = elim (compared m n) [
  | inl h ↦ rw (← nat_cmp_is m n Less h, lt-ltb m n h)
  | inr h ↦ elim (compared n m) [
    | inl g ↦ rw (← nat_cmp_is m n Greater g, le-ltb m n h)
    | inr g ↦ let q : m ≡ n = omega arith in rw (← nat_cmp_is m n Equal q, le-ltb m n h)
  ]
]

module _ (a b : PairScore) where
  pub before_forced : not (beq a.forced b.forced) ≡ true → a.forced ≡ is_before a b
  unfolding is_before
  before_forced e = go a.forced b.forced e
    where
      go : (f g : Bool) → not (beq f g) ≡ true → f ≡ cond f (cond g (keys_before a b) true) (cond g false (keys_before a b))
      go true true e = absurd (false≢true e)
      go true false e = refl
      go false true e = refl
      go false false e = absurd (false≢true e)

  module _ (e : not (beq a.forced b.forced) ≡ false) where
    before_keys : keys_before a b ≡ is_before a b
    unfolding is_before
    before_keys = go a.forced b.forced e
      where
        go : (f g : Bool) → not (beq f g) ≡ false → keys_before a b ≡ cond f (cond g (keys_before a b) true) (cond g false (keys_before a b))
        go true true e = refl
        go true false e = absurd (false≢true (sym e))
        go false true e = absurd (false≢true (sym e))
        go false false e = refl

    pub before_scores : (total_key a.edge_score ≡ total_key b.edge_score → ⊥) → ltb (total_key b.edge_score) (total_key a.edge_score) ≡ is_before a b
    unfolding keys_before
    before_scores o = lex_unlike _ _ _ o ∙ before_keys

    pub before_places :
        total_key a.edge_score ≡ total_key b.edge_score → is_lt (ordering_then (nat_cmp a.i b.i) (nat_cmp a.j b.j)) ≡ is_before a b
    unfolding keys_before
    before_places q =
        lex_then a.i b.i (nat_cmp a.j b.j) ∙ ap (lex a.i b.i) (last_then a.j b.j) ∙ sym (lex_level _ _ _ (sym q)) ∙ before_keys

-- what the outcome tells
lex_true : (m n : ℕ) (r : Bool) → lex m n r ≡ true → (m < n) ⊎ ((m ≡ n) × (r ≡ true))
lex_true m n r e = elim (compared m n) [
  | inl h ↦ inl h
  | inr h ↦ elim (compared n m) [
    | inl g ↦ absurd (false≢true (sym (lex_above m n r g) ∙ e))
    | inr g ↦ let q : m ≡ n = omega arith in inr (q, sym (lex_level m n r q) ∙ e)
  ]
]

lex_false : (m n : ℕ) (r : Bool) → lex m n r ≡ false → (n < m) ⊎ ((m ≡ n) × (r ≡ false))
lex_false m n r e = elim (compared n m) [
  | inl h ↦ inl h
  | inr h ↦ elim (compared m n) [
    | inl g ↦ absurd (false≢true (sym e ∙ lex_below m n r g))
    | inr g ↦ let q : m ≡ n = omega arith in inr (q, sym (lex_level m n r q) ∙ e)
  ]
]

lex_trans : (l m n : ℕ) (r s t : Bool) → (r ≡ true → s ≡ true → t ≡ true) → lex l m r ≡ true → lex m n s ≡ true → lex l n t ≡ true
lex_trans l m n r s t h p q = elim (lex_true l m r p) [
  | inl a ↦ elim (lex_true m n s q) [
    | inl b ↦ lex_below l n t (omega arith)
    | inr b ↦ lex_below l n t (rw b.0 at a)
  ]
  | inr a ↦ elim (lex_true m n s q) [
    | inl b ↦ lex_below l n t (rw (← a.0) at b)
    | inr b ↦ lex_level l n t (a.0 ∙ b.0) ∙ h a.1 b.1
  ]
]

-- neither way: the keys are the same
lex_neither : (m n : ℕ) (r s : Bool) → lex m n r ≡ false → lex n m s ≡ false → (m ≡ n) × (r ≡ false) × (s ≡ false)
lex_neither m n r s p q = elim (lex_false m n r p) [
  | inl a ↦ absurd (false≢true (sym q ∙ lex_below n m s a))
  | inr a ↦ (a.0, a.1, sym (lex_level n m s (sym a.0)) ∙ q)
]

-- forced pairs come first
abbrev turn : Bool → ℕ
turn true = 0
turn false = 1

-- the keys after the flag
abbrev keys_lex : PairScore → PairScore → Bool → Bool
keys_lex a b r = lex (total_key b.edge_score) (total_key a.edge_score) (lex a.i b.i r)

before_lex : (a b : PairScore) → is_before a b ≡ lex (turn a.forced) (turn b.forced) (keys_lex a b (lex a.j b.j false))
unfolding is_before keys_before
before_lex a b =
    flags a.forced b.forced ∙ ap (λ (z : Bool). lex (turn a.forced) (turn b.forced) (keys_lex a b z)) (last a.j b.j)
  where
    flags : (s t : Bool) → cond s (cond t (keys_before a b) true) (cond t false (keys_before a b)) ≡ lex (turn s) (turn t) (keys_before a b)
    flags true true = refl
    flags true false = refl
    flags false true = refl
    flags false false = refl

    last : (m n : ℕ) → ltb m n ≡ lex m n false
    last m n = elim (compared m n) [
      | inl h ↦ lt-ltb m n h ∙ sym (lex_below m n false h)
      | inr h ↦ rw (le-ltb m n h) (either_way (λ b. false ≡ cond b false false) refl refl (ltb n m))
    ]

pub before_trans : (x y z : PairScore) → is_before x y ≡ true → is_before y z ≡ true → is_before x z ≡ true
before_trans x y z p q =
    before_lex x z
    ∙ lex_trans (turn x.forced) (turn y.forced) (turn z.forced) _ _ _
    (λ p q. lex_trans (total_key z.edge_score) (total_key y.edge_score) (total_key x.edge_score) _ _ _
    (λ q p. lex_trans x.i y.i z.i _ _ _ (lex_trans x.j y.j z.j false false false (λ a b. a)) p q)
    q p)
    (sym (before_lex x y) ∙ p) (sym (before_lex y z) ∙ q)

pub before_irrefl : (x : PairScore) → is_before x x ≡ false
before_irrefl x =
    before_lex x x ∙ lex_level (turn x.forced) (turn x.forced) _ refl ∙ lex_level (total_key x.edge_score) (total_key x.edge_score) _ refl
    ∙ lex_level x.i x.i _ refl ∙ lex_level x.j x.j false refl

-- the same in all that the order looks at
pub record Alike (x y : PairScore) : Type 0 where
  pub forced : x.forced ≡ y.forced
  pub edge : total_key x.edge_score ≡ total_key y.edge_score
  pub i : x.i ≡ y.i
  pub j : x.j ≡ y.j

-- two pairs of which neither stands before the other are alike
pub ranked_strict : (x y : PairScore) → is_before x y ≡ false → is_before y x ≡ false → Alike x y
ranked_strict x y p q =
    let a = lex_neither (turn x.forced) (turn y.forced) _ _ (sym (before_lex x y) ∙ p) (sym (before_lex y x) ∙ q) in
    let b = lex_neither (total_key y.edge_score) (total_key x.edge_score) _ _ a.1 a.2 in
    let c = lex_neither x.i y.i _ _ b.1 b.2 in
    let d = lex_neither x.j y.j false false c.1 c.2 in
    record { forced = flags x.forced y.forced a.0; edge = sym b.0; i = c.0; j = d.0 }
  where
    differ : turn true ≡ turn false → ⊥
    differ e = omega arith

    flags : (s t : Bool) → turn s ≡ turn t → s ≡ t
    flags true true e = refl
    flags true false e = absurd (differ e)
    flags false true e = absurd (differ (sym e))
    flags false false e = refl

-- ---- sorted: no pair stands before one that precedes it
abbrev NoneBefore : PairScore → List PairScore → Type 0
NoneBefore x [] = Unit {0}
NoneBefore x (y ∷ l) = (is_before y x ≡ false) × NoneBefore x l

abbrev InOrder : List PairScore → Type 0
InOrder [] = Unit {0}
InOrder (x ∷ l) = NoneBefore x l × InOrder l

-- x stands before y, and w does not: then w does not stand before x
not_ahead : (w x y : PairScore) → is_before x y ≡ true → is_before w y ≡ false → is_before w x ≡ false
not_ahead w x y p q = by (is_before w x) refl
  where
    by : (b : Bool) → is_before w x ≡ b → b ≡ false
    by true e = absurd (false≢true (sym q ∙ before_trans w x y e p))
    by false e = refl

none_ahead : (x y : PairScore) (l : List PairScore) → is_before x y ≡ true → NoneBefore y l → NoneBefore x l
none_ahead x y [] p h = tt
none_ahead x y (w ∷ l) p h = (not_ahead w x y p h.0, none_ahead x y l p h.1)

insert_none : (z x : PairScore) (l : List PairScore) → is_before x z ≡ false → NoneBefore z l → NoneBefore z (insert_ranked x l)
unfolding insert_ranked
insert_none z x [] e h = (e, tt)
insert_none z x (y ∷ l) e h =
    either_way (λ b. NoneBefore z (cond b (x ∷ insert_ranked y l) (y ∷ insert_ranked x l)))
    (e, insert_none z y l h.0 h.1) (h.0, insert_none z x l e h.1) (is_before x y)

insert_order : (x : PairScore) (l : List PairScore) → InOrder l → InOrder (insert_ranked x l)
unfolding insert_ranked
insert_order x [] h = (tt, tt)
insert_order x (y ∷ l) h = by (is_before x y) refl (insert_order y l h.1) (insert_order x l h.1)
  where
    by :
        (b : Bool) → is_before x y ≡ b → InOrder (insert_ranked y l) → InOrder (insert_ranked x l) →
        InOrder (cond b (x ∷ insert_ranked y l) (y ∷ insert_ranked x l))
    by true e p q = (insert_none x y l (not_ahead y x y e (before_irrefl y)) (none_ahead x y l e h.0), p)
    by false e p q = (insert_none y x l e h.0, q)

sorted_order : (n : ℕ) (pairs : List PairScore) → InOrder (sorted n pairs)
unfolding sorted iter
sorted_order zero pairs = tt
sorted_order (suc n) pairs = insert_order (get_or pairs n blank) (sorted n pairs) (sorted_order n pairs)

none_at : (x : PairScore) (l : List PairScore) → NoneBefore x l → (b : ℕ) → b < length l → is_before (get_or l b blank) x ≡ false
none_at x [] h b p = absurd (not-suc-le-zero p)
none_at x (y ∷ l) h zero p = h.0
none_at x (y ∷ l) h (suc b) p = none_at x l h.1 b (le_of_suc-le-suc p)

-- the same by places
abbrev pub Sorted : List PairScore → Type 0
Sorted l = (a b : ℕ) → a < b → b < length l → is_before (get_or l b blank) (get_or l a blank) ≡ false

order_at : (l : List PairScore) → InOrder l → Sorted l
order_at [] h a b p q = absurd (not-suc-le-zero q)
order_at (x ∷ l) h a zero p q = absurd (not-suc-le-zero p)
order_at (x ∷ l) h zero (suc b) p q = none_at x l h.0 b (le_of_suc-le-suc q)
order_at (x ∷ l) h (suc a) (suc b) p q = order_at l h.1 a b (le_of_suc-le-suc p) (le_of_suc-le-suc q)

-- ---- the same pairs
insert_perm : (x : PairScore) (l : List PairScore) → Permᴰ (insert_ranked x l) (x ∷ l)
unfolding insert_ranked
insert_perm x [] = Permᴰ.cons refl Permᴰ.nil
insert_perm x (y ∷ l) =
    either_way (λ b. Permᴰ (cond b (x ∷ insert_ranked y l) (y ∷ insert_ranked x l)) (x ∷ y ∷ l))
    (Permᴰ.cons refl (insert_perm y l))
    (Permᴰ.trans (Permᴰ.cons refl (insert_perm x l)) (Permᴰ.swap refl refl)) (is_before x y)

ranked_same : (n : ℕ) (pairs : List PairScore) → n ≤ length pairs → Perm (sorted n pairs) (take n pairs)
unfolding sorted iter
ranked_same zero pairs h = mathlib.Core.List.Perm.nil
ranked_same (suc n) pairs h =
    let x = get_or pairs n blank in
    let s : Perm (sorted n pairs) (take n pairs) = ranked_same n pairs (omega arith) in
    let t : Perm (take n pairs ++ (x ∷ [])) (x ∷ take n pairs) = perm_append_singleton x (take n pairs) in
    rw (take-suc pairs n blank h)
    (mathlib.Core.List.Perm.trans ∣ insert_perm x (sorted n pairs) ∣₁
    (mathlib.Core.List.Perm.trans (mathlib.Core.List.Perm.cons x s) (mathlib.Core.List.Perm.symm t)))

-- ---- no other arrangement is sorted
none_mem : (x : PairScore) (l : List PairScore) → NoneBefore x l → (w : PairScore) → Mem w l → is_before w x ≡ false
none_mem x [] h w m = absurd (not-mem-nil m)
none_mem x (y ∷ l) h w m =
    Or.elim (Bool-set (is_before w x) false) (eq-or-mem_of_mem-cons m)
    (λ e. ap (λ (v : PairScore). is_before v x) e ∙ h.0) (λ k. none_mem x l h.1 w k)

-- nothing in y ∷ l stands before y
head_mem : (y : PairScore) (l : List PairScore) → InOrder (y ∷ l) → (w : PairScore) → Mem w (y ∷ l) → is_before w y ≡ false
head_mem y l h w m = none_mem y (y ∷ l) (before_irrefl y, h.0) w m

none_from : (x : PairScore) (l : List PairScore) → ((b : ℕ) → b < length l → is_before (get_or l b blank) x ≡ false) → NoneBefore x l
none_from x [] h = tt
none_from x (y ∷ l) h = (h 0 (omega arith), none_from x l (λ b p. h (suc b) (omega arith)))

order_from : (l : List PairScore) → Sorted l → InOrder l
order_from [] h = tt
order_from (x ∷ l) h =
    (none_from x l (λ b p. h 0 (suc b) (omega arith) (omega arith)), order_from l (λ a b p q. h (suc a) (suc b) (omega arith) (omega arith)))

order_only : (l m : List PairScore) → Distinct l → InOrder l → InOrder m → Perm l m → l ≡ m
order_only [] m o p q r = mathlib.Core.List.Perm.nil-eq r
order_only (x ∷ l) [] o p q r = absurd (cons≢nil (mathlib.Core.List.Perm.eq-nil r))
order_only (x ∷ l) (y ∷ m) o p q r =
    let k : Mem y (x ∷ l) = (mathlib.Core.List.Perm.mem_iff r).1 mem-cons_self in
    let s = ranked_strict x y (head_mem y m q x ((mathlib.Core.List.Perm.mem_iff r).0 mem-cons_self)) (head_mem x l p y k) in
    let e : x ≡ y = o x y mem-cons_self k s.i s.j in
    let t : Perm l m = mathlib.Core.List.Perm.cons_inv (subst (λ (z : PairScore). Perm (x ∷ l) (z ∷ m)) (sym e) r) in
    let f : l ≡ m = order_only l m (λ u v a b. o u v (mem-cons_of_mem x a) (mem-cons_of_mem x b)) p.1 q.1 t in
    λ i. e i ∷ f i

ranked_only : (n : ℕ) (pairs l : List PairScore) → n ≤ length pairs → Distinct (take n pairs) → Perm l (take n pairs) → Sorted l → l ≡ sorted n pairs
ranked_only n pairs l h o p q =
    order_only l (sorted n pairs)
    (λ u v a b. o u v ((mathlib.Core.List.Perm.mem_iff p).0 a) ((mathlib.Core.List.Perm.mem_iff p).0 b))
    (order_from l q) (sorted_order n pairs)
    (mathlib.Core.List.Perm.trans p (mathlib.Core.List.Perm.symm (ranked_same n pairs h)))

-- What the ranking of a pool is: sorted; the pool's own pairs; two pairs of which neither stands before the other are alike; and no other arrangement
-- of the pool's pairs is sorted. So its first 24, which `rank` returns, are what sorting the pool in whatever way and keeping the first 24 gives.
pub record RankedIs (pool : Pool) : Type 0 where
  pub in_order : Sorted (sorted pool.n pool.pairs)
  pub same : Perm (sorted pool.n pool.pairs) (take pool.n pool.pairs)
  pub strict : (x y : PairScore) → is_before x y ≡ false → is_before y x ≡ false → Alike x y
  pub only : (l : List PairScore) → Perm l (take pool.n pool.pairs) → Sorted l → l ≡ sorted pool.n pool.pairs

-- of a pool that build_pair_pool makes of the search's candidates, whatever the disk and the seeds
module _ (D : DiskData) (base0 base1 : Float) (edge_align : Row) (grad_total : Float) (force_seed force_hist : Forced) where
  pub ranked_is : RankedIs (build_pair_pool (histogram_candidates D base0 base1) edge_align grad_total force_seed force_hist)
  ranked_is = record {
    in_order = order_at (sorted n pairs) (sorted_order n pairs);
    same = ranked_same n pairs few;
    strict = ranked_strict;
    only = λ l. ranked_only n pairs l few (pool_distinct candidates edge_align grad_total force_seed force_hist most);
  }
    where
      candidates : CandidateSet
      candidates = histogram_candidates D base0 base1

      most : candidates.n ≤ max_paired
      most = candidates_most D base0 base1

      n : ℕ
      n = (build_pair_pool candidates edge_align grad_total force_seed force_hist).n

      pairs : List PairScore
      pairs = (build_pair_pool candidates edge_align grad_total force_seed force_hist).pairs

      few : n ≤ length pairs
      few = pool_few candidates edge_align grad_total force_seed force_hist most
