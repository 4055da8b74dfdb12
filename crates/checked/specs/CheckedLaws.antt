-- The first value that is not finite: in lists one behind the other it is the first of the first that has one, and a search by std's `position` finds
-- the same. Assumes nothing.
use Rattle.std.specs.Prelude.{◌≡◌, refl, Bool, true, false, cond, not, ◌&&◌, List, [], ◌∷◌, ◌++◌, length, get_or, eqb, Float, Option, Some, None, Ok, Err}
use Rattle.std.specs.List.{fold, position_from}
use Rattle.std.proofs.lemmas.List.Folds.{fold_stays}
use Rattle.std.proofs.lemmas.Bool.{false≢true}
use Rattle.std.proofs.Common.{sym, ap, subst, ◌∙◌, length-append, get_or-append-add, eq-eqb}
use Rattle.std.proofs.lemmas.Iterator.Adapters.{position_from-zero}
use Prim.Native.Nat.{ℕ, zero, suc, ◌+◌, ◌*◌, ◌<◌, ◌≤◌}
use native.Mathlib.Omega.{arith}
use Rattle.std.proofs.Math.ListN.{get_or-append}
use Rattle.std.specs.Float.{nan}
use Rattle.std.specs.Float.Ieee.Scale.{finite}
use Rattle.data.specs.Data.{DiskData}
use Rattle.checked.specs.declared.Refusal.{Refusal}
use Rattle.checked.specs.declared.Refusal.TheVariants.{WrongLength, NotFinite}
use Rattle.seed_models.specs.Models.{Table}
use Rattle.checked.specs.Checked.{wild_from, first_wild, ring_inputs, disk_inputs, ring_sized, ring_looked, checked_ring, disk_fitted, disk_looked}
use Rattle.checked.specs.Parts.{still_fine, all_finite, wild_position, Test, moved_on, values_test, values_from, tested, RingTested}

-- ---- lists one behind the other, as the code looks at them
-- the same values at places that are `off` apart
wild_moved : (l m : List Float) (off left i : ℕ) → ((k : ℕ) → k < i + left → get_or m (off + k) nan ≡ get_or l k nan) →
    wild_from m left (off + i) ≡ moved_on off (wild_from l left i)
unfolding wild_from
wild_moved l m off zero i same = refl
wild_moved l m off (suc left) i same =
    let z : off + (i + 1) ≡ off + i + 1 = omega arith in
    rw (same i (omega arith)) (go (finite (get_or l i nan)) (rw z at (wild_moved l m off left (i + 1) (λ k h. same k (omega arith)))))
  where
    go : (b : Bool) → wild_from m left (off + i + 1) ≡ moved_on off (wild_from l left (i + 1)) →
        cond b (wild_from m left (off + i + 1)) (Some (off + i)) ≡ moved_on off (cond b (wild_from l left (i + 1)) (Some i))
    go true later = later
    go false later = refl

-- the one that is found, or what comes later
abbrev first : Option ℕ → Option ℕ → Option ℕ
first (Some i) next = Some i
first None next = next

-- a search over m + n places is one over m, and then one over n
wild_split : (l : List Float) (m n i : ℕ) → wild_from l (m + n) i ≡ first (wild_from l m i) (wild_from l n (i + m))
unfolding wild_from
wild_split l zero n i = let z : i + 0 ≡ i = omega arith in let w : 0 + n ≡ n = omega arith in rw (z, w)
wild_split l (suc m) n i =
    let z : i + 1 + m ≡ i + suc m = omega arith in
    let w : suc m + n ≡ suc (m + n) = omega arith in
    rw w (go (finite (get_or l i nan)) (rw z at (wild_split l m n (i + 1))))
  where
    go : (b : Bool) → wild_from l (m + n) (i + 1) ≡ first (wild_from l m (i + 1)) (wild_from l n (i + suc m)) →
        cond b (wild_from l (m + n) (i + 1)) (Some i) ≡ first (cond b (wild_from l m (i + 1)) (Some i)) (wild_from l n (i + suc m))
    go true later = later
    go false later = refl

unmoved : (w : Option ℕ) → w ≡ moved_on 0 w
unmoved (Some i) = let z : i ≡ 0 + i = omega arith in ap Some z
unmoved None = refl

moved_twice : (a b : ℕ) (w : Option ℕ) → moved_on a (moved_on b w) ≡ moved_on (a + b) w
moved_twice a b (Some i) = let z : a + (b + i) ≡ a + b + i = omega arith in ap Some z
moved_twice a b None = refl

-- the first of two lists that has one: places of the second count on from the first's length
wild_append : (a b : List Float) → first_wild (a ++ b) ≡ first (first_wild a) (moved_on (length a) (first_wild b))
unfolding first_wild
wild_append a b =
    let n = length a in
    let z : 0 + n ≡ n + 0 = omega arith in
    let front : wild_from (a ++ b) n 0 ≡ wild_from a n 0 =
    wild_moved a (a ++ b) 0 n 0 (λ k h. let w : 0 + k ≡ k = omega arith in rw w (get_or-append a b nan k (omega arith))) ∙ sym (unmoved _) in
    let back : wild_from (a ++ b) (length b) (n + 0) ≡ moved_on n (wild_from b (length b) 0) =
    wild_moved b (a ++ b) n (length b) 0 (λ k h. get_or-append-add a b k nan) in
    rw (length-append) (wild_split (a ++ b) n (length b) 0 ∙ rw (z, back, front))

-- the test of two lists whose places count from `from` is that of the first, and then that of the second
pub tested_append : (from to : ℕ) (a b : List Float) → from + length a ≡ to → values_from from (a ++ b) ≡ tested (values_from from a) (values_from to b)
tested_append from to a b e = rw (wild_append a b, ← e) (go (first_wild a))
  where
    go : (w : Option ℕ) → values_test (moved_on from (first w (moved_on (length a) (first_wild b)))) ≡
        tested (values_test (moved_on from w)) (values_from (from + length a) b)
    go (Some i) = refl
    go None = ap values_test (moved_twice from (length a) (first_wild b))

pub unmoved_test : (l : List Float) → values_test (first_wild l) ≡ values_from 0 l
unmoved_test l = ap values_test (unmoved (first_wild l))

-- a ring's two lists, the first of n
pub ring_places : (n : ℕ) (a b : List Float) → length a ≡ n → values_test (first_wild (a ++ b)) ≡ tested (values_from 0 a) (values_from n b)
ring_places n a b e = unmoved_test (a ++ b) ∙ tested_append 0 n a b (omega (arith, e))

-- a disk's three lone values and five lists, each of n
module _ (D : DiskData) (base0 base1 : Float) where
  abbrev pub disk_places : Test
  disk_places =
      tested (values_from 0 (D.val_energy ∷ base0 ∷ base1 ∷ []))
      (tested (values_from 3 D.xs)
      (tested (values_from (3 + D.n) D.ys)
      (tested (values_from (3 + 2 * D.n) D.vals_centered)
      (tested (values_from (3 + 3 * D.n) D.grad_angles)
      (values_from (3 + 4 * D.n) D.grad_weights)))))

  pub disk_places_lem : length D.xs ≡ D.n → length D.ys ≡ D.n → length D.vals_centered ≡ D.n → length D.grad_angles ≡ D.n →
      disk_places ≡ values_test (first_wild (disk_inputs D base0 base1))
  disk_places_lem hx hy hv ha =
      let from : ℕ → List Float → Test = values_from in
      let n = D.n in
      let angles = D.grad_angles ++ D.grad_weights in
      let vals = D.vals_centered ++ angles in
      let ys = D.ys ++ vals in
      let lone = D.val_energy ∷ base0 ∷ base1 ∷ [] in
      let four = tested_append (3 + 3 * n) (3 + 4 * n) D.grad_angles D.grad_weights (omega (arith, ha)) in
      let three = tested_append (3 + 2 * n) (3 + 3 * n) D.vals_centered angles (omega (arith, hv)) ∙ ap (tested (from (3 + 2 * n) D.vals_centered)) four in
      let two = tested_append (3 + n) (3 + 2 * n) D.ys vals (omega (arith, hy)) ∙ ap (tested (from (3 + n) D.ys)) three in
      let one = tested_append 3 (3 + n) D.xs ys (omega (arith, hx)) ∙ ap (tested (from 3 D.xs)) two in
      let all = tested_append 0 3 lone (D.xs ++ ys) (omega arith) ∙ ap (tested (from 0 lone)) one in
      sym (unmoved_test (disk_inputs D base0 base1) ∙ all)

-- ---- the code's search
first_cons : (x : Float) (l : List Float) → first_wild (x ∷ l) ≡ cond (finite x) (moved_on 1 (first_wild l)) (Some 0)
first_cons x l = wild_append (x ∷ []) l ∙ unfold first_wild wild_from in go (finite x)
  where
    go : (b : Bool) → first (cond b None (Some 0)) (moved_on 1 (first_wild l)) ≡ cond b (moved_on 1 (first_wild l)) (Some 0)
    go true = refl
    go false = refl

-- where all are finite the search finds nothing
fine_clean : (l : List Float) → fold still_fine true l ≡ true → None ≡ first_wild l
fine_clean [] e = unfold first_wild wild_from in refl
fine_clean (x ∷ l) e = rw (first_cons x l) (go (finite x) e (fine_clean l))
  where
    go : (b : Bool) → fold still_fine (b && true) l ≡ true → (fold still_fine true l ≡ true → None ≡ first_wild l) →
        None ≡ cond b (moved_on 1 (first_wild l)) (Some 0)
    go true e later = ap (moved_on 1) (later e)
    go false e later = absurd (false≢true (sym (fold_stays still_fine false stays l) ∙ e))
      where
        stays : (y : Float) → still_fine false y ≡ false
        stays y = both (finite y)
          where
            both : (b : Bool) → (b && false) ≡ false
            both true = refl
            both false = refl

pub all_clean : (l : List Float) → all_finite l ≡ true → None ≡ first_wild l
all_clean l = fine_clean l

position_moved : (l : List Float) (i : ℕ) → position_from (λ x. not (finite x)) i l ≡ moved_on i (first_wild l)
position_moved [] i = unfold first_wild wild_from in refl
position_moved (x ∷ l) i = rw (first_cons x l) (go (finite x) (position_moved l (i + 1)))
  where
    go : (b : Bool) → position_from (λ x. not (finite x)) (i + 1) l ≡ moved_on (i + 1) (first_wild l) →
        cond (not b) (Some i) (position_from (λ x. not (finite x)) (i + 1) l) ≡ moved_on i (cond b (moved_on 1 (first_wild l)) (Some 0))
    go true later = later ∙ sym (moved_twice i 1 (first_wild l))
    go false later = let z : i ≡ i + 0 = omega arith in ap Some z

pub position_wild : (l : List Float) → wild_position l ≡ first_wild l
position_wild l = position_from-zero (λ x. not (finite x)) l ∙ position_moved l 0 ∙ sym (unmoved (first_wild l))

-- ---- the three ways of a ring of n samples: a length is another, a value is not finite, or all of them are
module _ (tables : List Table) (n : ℕ) (samples angles : List Float) where
  pub ring_unsized : ring_sized n samples angles ≡ false → Err WrongLength ≡ checked_ring tables n samples angles
  unfolding checked_ring
  ring_unsized e = rw e

  pub ring_looked_lem : (w : Option ℕ) → length samples ≡ n → eqb (length angles) n ≡ true → w ≡ first_wild (ring_inputs samples angles)
      → ring_looked tables n samples angles w ≡ checked_ring tables n samples angles
  unfolding checked_ring
  ring_looked_lem w s a f = rw (eq-eqb _ _ s, a, ← f)

-- what the test of its values says of a ring whose lengths are right
pub ring_tested : (n : ℕ) (samples angles : List Float) → length samples ≡ n → length angles ≡ n →
    (t : Test) → t ≡ values_test (first_wild (ring_inputs samples angles)) → RingTested n samples angles t
unfolding ring_looked
ring_tested n samples angles s a t e = subst (RingTested n samples angles) (sym e) (go (first_wild (ring_inputs samples angles)) refl)
  where
    go : (w : Option ℕ) → w ≡ first_wild (ring_inputs samples angles) → RingTested n samples angles (values_test w)
    go (Some i) f = λ tables. ring_looked_lem tables n samples angles (Some i) s (eq-eqb _ _ a) f
    go None f = (s, a, λ tables. ring_looked_lem tables n samples angles None s (eq-eqb _ _ a) f)

-- and of a disk
module _ (D : DiskData) (base0 base1 : Float) where
  pub disk_refused : (w : Option ℕ) (e : Refusal) → Err e ≡ values_test w → Err e ≡ disk_looked D base0 base1 w
  unfolding disk_looked
  disk_refused (Some i) e h = let q : e ≡ NotFinite i = cc in ap Err q
  disk_refused None e h = cc

  pub disk_passed : (w : Option ℕ) (u : Unit {0}) → Ok u ≡ values_test w → disk_fitted D base0 base1 ≡ disk_looked D base0 base1 w
  unfolding disk_looked
  disk_passed (Some i) u h = cc
  disk_passed None u h = refl

-- ---- what a found place says
-- the first place of a list that is not finite
pub record IsFirstWild (l : List Float) (p : ℕ) : Type 0 where
  pub inside : p < length l
  pub wild : finite (get_or l p nan) ≡ false
  pub before : (i : ℕ) → i < p → finite (get_or l i nan) ≡ true

-- of a search from i on: the place that it found, and all before
record Found (l : List Float) (left i p : ℕ) : Type 0 where
  low : i ≤ p
  high : p < i + left
  wild : finite (get_or l p nan) ≡ false
  before : (j : ℕ) → i + j < p → finite (get_or l (i + j) nan) ≡ true

found_here : (l : List Float) (left i p : ℕ) → finite (get_or l i nan) ≡ false → i ≡ p → Found l (suc left) i p
found_here l left i p f e = subst (Found l (suc left) i) e (record { low = omega arith; high = omega arith; wild = f; before = λ j h. absurd (no j h) })
  where
    no : (j : ℕ) → i + j < i → ⊥
    no j h = omega arith

found_later : (l : List Float) (left i p : ℕ) → finite (get_or l i nan) ≡ true → Found l left (i + 1) p → Found l (suc left) i p
found_later l left i p f r = record { low = omega (arith, r.low); high = omega (arith, r.high); wild = r.wild; before = before }
  where
    before : (j : ℕ) → i + j < p → finite (get_or l (i + j) nan) ≡ true
    before zero h = let z : i + 0 ≡ i = omega arith in rw z f
    before (suc j) h =
        let z : i + 1 + j ≡ i + suc j = omega arith in
        rw z at (r.before j (omega arith))

wild_says : (l : List Float) (left i p : ℕ) → wild_from l left i ≡ Some p → Found l left i p
unfolding wild_from
wild_says l zero i p e = cc
wild_says l (suc left) i p e = go (finite (get_or l i nan)) refl e (wild_says l left (i + 1) p)
  where
    go : (b : Bool) → finite (get_or l i nan) ≡ b → cond b (wild_from l left (i + 1)) (Some i) ≡ Some p →
        (wild_from l left (i + 1) ≡ Some p → Found l left (i + 1) p) → Found l (suc left) i p
    go true f e later = found_later l left i p f (later e)
    go false f e later = found_here l left i p f (cc)

pub wild_first : (l : List Float) (p : ℕ) → first_wild l ≡ Some p → IsFirstWild l p
unfolding first_wild
wild_first l p e =
    let r = wild_says l (length l) 0 p e in
    record { inside = omega (arith, r.high); wild = r.wild; before = λ i h. let z : 0 + i ≡ i = omega arith in rw z at (r.before i (omega arith)) }

-- where no place is wild, every value is finite
clean_from : (l : List Float) (left i : ℕ) → wild_from l left i ≡ None → (j : ℕ) → j < left → finite (get_or l (i + j) nan) ≡ true
unfolding wild_from
clean_from l zero i e j h = absurd (none h)
  where
    none : j < 0 → ⊥
    none h = omega arith
clean_from l (suc left) i e j h = go (finite (get_or l i nan)) refl e (λ c k g. clean_from l left (i + 1) c k g)
  where
    later : (j : ℕ) → j < suc left → finite (get_or l i nan) ≡ true → ((k : ℕ) → k < left → finite (get_or l (i + 1 + k) nan) ≡ true) →
        finite (get_or l (i + j) nan) ≡ true
    later zero h t rest = let z : i + 0 ≡ i = omega arith in rw z t
    later (suc j) h t rest = let z : i + 1 + j ≡ i + suc j = omega arith in rw z at (rest j (omega arith))

    go : (b : Bool) → finite (get_or l i nan) ≡ b → cond b (wild_from l left (i + 1)) (Some i) ≡ None →
        (wild_from l left (i + 1) ≡ None → (k : ℕ) → k < left → finite (get_or l (i + 1 + k) nan) ≡ true) → finite (get_or l (i + j) nan) ≡ true
    go true t e rest = later j h t (rest e)
    go false t e rest = cc

pub clean_finite : (l : List Float) → first_wild l ≡ None → (i : ℕ) → i < length l → finite (get_or l i nan) ≡ true
unfolding first_wild
clean_finite l e i h = let z : 0 + i ≡ i = omega arith in rw z at (clean_from l (length l) 0 e i h)
