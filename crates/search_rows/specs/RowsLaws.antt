-- What a slot's key says stays true while other slots are filled: a row that is lent out of the buffer comes back in its place, and the
-- others are as they were. Above 0 equal numbers are one value, so that a key tells its row. Assumes nothing.
use Rattle.std.specs.Prelude.{◌≡◌, refl, ◌⊎◌, Bool, true, false, List, [], ℕ, zero, suc, ◌*◌, ◌+◌, ◌<◌, ◌≤◌, T, eqb, length, get_or, replicate, cond, Float}
use Rattle.std.proofs.Common.{sym, ap, ◌∙◌, inl, inr, arith, below_none, below_more, ltb→lt, eqb→eq, get_or-set_same, get_or-set_other, ext_get_or}
use Rattle.std.proofs.Math.Path.{subst}
use Rattle.std.proofs.lemmas.Bool.{false≢true}
use Rattle.std.proofs.Math.ListN.{set, length-set}
use Rattle.std.specs.Float.Ieee.{nan, below, level, lt, eq, of_bits, fits}
use Rattle.std.specs.Float.{inf, fin, binary32}
use Rattle.std.specs.Float.Ieee.Fits.{and_l, and_r, eq→eqb}
use Rattle.floats.specs.Ops.{◌⊕◌, nought}
use Rattle.floats.specs.UnitLaws.{Val, lt_val, eq_val}
use Rattle.floats.specs.RoundingLaws.{counted}
use Rattle.floats.specs.FiniteLaws.{of_true}
use Rattle.floats.specs.RemLaws.{nought_val}
use Rattle.remainders.specs.RemainderLaws.{same_val}
use Rattle.loops.proofs.TabLaws.{Stores, tab_length, tab_at, tab_same, part_length, stores_all}
use Rattle.floats.specs.Rows.{Row, at}
use Rattle.data.specs.Data.{disk_of, max_tanh_pixels, row_of}
use Rattle.data.specs.RowLaws.{lent, Wrote, wrote}
use Rattle.score_edges.specs.Edges.{refined_sum}
use Rattle.score.specs.Score.{axis_row}
use Rattle.search_rows.specs.declared.Slot.{Slot}
use Rattle.search_rows.specs.declared.Slots.{Slots}
use Rattle.search_rows.specs.Rows.{AxisRows, build_axis_rows, rows_of, rows_room, RowFilled, no_slot, beyond, key_at, is_same, slot_of, held_slots, held_rows}
use Rattle.search_rows.specs.Rows.{no_slots}
use Rattle.search_rows.specs.Rows.{Stands, SlotsKept, SlotHeld}

-- ---- above 0 equal numbers are one value
pub same_key : (x y : Float) → T (fits binary32 x) → T (fits binary32 y) → eq x y ≡ true → lt nought y ≡ true → x ≡ y
same_key nan y p q e l = absurd (false≢true (unfold eq in e))
same_key (inf s) nan p q e l = absurd (false≢true (unfold eq in e))
same_key (inf true) (inf true) p q e l = refl
same_key (inf true) (inf false) p q e l = absurd (false≢true (unfold eq in e))
same_key (inf false) (inf true) p q e l = absurd (false≢true (unfold eq in e))
same_key (inf false) (inf false) p q e l = refl
same_key (inf s) (fin t n d) p q e l = absurd (false≢true (unfold eq in e))
same_key (fin s m k) nan p q e l = absurd (false≢true (unfold eq in e))
same_key (fin s m k) (inf t) p q e l = absurd (false≢true (unfold eq in e))
same_key (fin s m k) (fin t n d) p q e l =
    let a = counted binary32 (fin s m k) p tt in
    let b = counted binary32 (fin t n d) q tt in
    go a.sign a.count b.sign b.count a.val b.val
    (sym (eq_val binary32 (fin s m k) (fin t n d) a.sign a.count b.sign b.count a.val b.val) ∙ e)
    (sym (lt_val binary32 nought (fin t n d) false 0 b.sign b.count nought_val b.val) ∙ l)
  where
    go :
        (u : Bool) (i : ℕ) (v : Bool) (j : ℕ) → Val binary32 (fin s m k) u i → Val binary32 (fin t n d) v j →
        level u i v j ≡ true → below false 0 v j ≡ true → fin s m k ≡ fin t n d
    go u i true j x y g h = absurd (false≢true h)
    go false i false j x y g h =
        let w : i ≡ j = eqb→eq i j (and_l (eqb i j) true (of_true g)) in
        same_val binary32 (fin s m k) (fin t n d) false j p q (subst (Val binary32 (fin s m k) false) w x) y
    go true i false j x y g h =
        let w : i ≡ j = eqb→eq i j (and_l (eqb i j) (eqb i 0) (of_true g)) in
        let z : i ≡ 0 = eqb→eq i 0 (and_r (eqb i j) (eqb i 0) (of_true g)) in
        let o : 0 < j = ltb→lt 0 j (of_true h) in
        absurd (let r : ◌≡◌ {A = ℕ} 0 1 = omega arith in omega arith)

-- ---- the six rows, by their places
same_or_not : (j k : ℕ) → (j ≡ k) ⊎ (j ≡ k → ⊥)
same_or_not j k = go (eqb j k) (eqb→eq j k) (λ e. eq→eqb e)
  where
    go : (b : Bool) → (T b → j ≡ k) → (j ≡ k → T b) → (j ≡ k) ⊎ (j ≡ k → ⊥)
    go true u v = inl (u tt)
    go false u v = inr v

row_at : (n : ℕ) (rows : Row) (j : ℕ) → j < 6 → get_or (rows_of n rows 6) j [] ≡ row_of n rows j
row_at n rows j h = tab_at (row_of n rows) [] 6 j h

six : (n : ℕ) (rows : Row) → length (rows_of n rows 6) ≡ 6
six n rows = tab_length (row_of n rows) 6

-- a row is made: row q comes back as r, and the scratch as u
pub row_filled :
    (n q : ℕ) (r u rows : Row) → n ≤ max_tanh_pixels → q < 6 → length rows ≡ rows_room → length r ≡ n → length u ≡ n →
    RowFilled n q r rows (lent n 6 u (lent n q r rows))
row_filled n q r u rows m h l er eu =
    record {
      is = ext_get_or [] (rows_of n after 6) (set (rows_of n rows 6) q r) (six n after ∙ sym (length-set (rows_of n rows 6) q r ∙ six n rows))
          (λ j k. each j (rw (six n after) at k));
      room = part_length (lent n q r rows) u (6 * max_tanh_pixels) n (omega (arith, same)) eu ∙ same;
    }
  where
    after : Row
    after = lent n 6 u (lent n q r rows)

    same : length (lent n q r rows) ≡ length rows
    same = part_length rows r (q * max_tanh_pixels) n (omega arith) er

    one : Wrote n q r rows (lent n q r rows)
    one = wrote n q r rows m (omega arith) er

    two : Wrote n 6 u (lent n q r rows) after
    two = wrote n 6 u (lent n q r rows) m (omega (arith, same)) eu

    each : (j : ℕ) → j < 6 → get_or (rows_of n after 6) j [] ≡ get_or (set (rows_of n rows 6) q r) j []
    each j k = elim (same_or_not j q) [
      | inl i ↦ row_at n after j k ∙ two.other j (λ e. omega arith) ∙ subst (λ (x : ℕ). row_of n (lent n q r rows) x ≡ r) (sym i) one.here
          ∙ subst (λ (x : ℕ). r ≡ get_or (set (rows_of n rows 6) q r) x []) (sym i)
          (sym (get_or-set_same (rows_of n rows 6) q r [] (omega (arith, six n rows))))
      | inr o ↦ row_at n after j k ∙ two.other j (λ e. omega arith) ∙ one.other j o ∙ sym (row_at n rows j k)
          ∙ sym (get_or-set_other (rows_of n rows 6) q j r [] o)
    ]

module _ {n q : ℕ} {r rows rows' : Row} (f : RowFilled n q r rows rows') where
  filled_here : q < 6 → row_of n rows' q ≡ r
  filled_here h =
      sym (row_at n rows' q h) ∙ ap (λ (l : List Row). get_or l q []) f.is ∙ get_or-set_same (rows_of n rows 6) q r [] (omega (arith, six n rows))

  filled_other : (j : ℕ) → j < 6 → (j ≡ q → ⊥) → row_of n rows' j ≡ row_of n rows j
  filled_other j h o =
      sym (row_at n rows' j h) ∙ ap (λ (l : List Row). get_or l j []) f.is ∙ get_or-set_other (rows_of n rows 6) q j r [] o ∙ row_at n rows j h

-- ---- the three rows of build_axis_rows: the first k are made
pub record Built (xs ys : Row) (base width : Float) (offsets rows : Row) (k : ℕ) : Type 0 where
  pub room : length rows ≡ rows_room
  pub row : (j : ℕ) → j < k → row_of (length xs) rows j ≡ axis_row (length xs) xs ys (base ⊕ at offsets j) width

module _ {xs ys : Row} {base width : Float} {offsets : Row} where
  pub built_none : {rows : Row} → length rows ≡ rows_room → Built xs ys base width offsets rows 0
  built_none h = record { room = h; row = below_none _ }

  pub built_more :
      {rows rows' : Row} {k : ℕ} → k < 3 → Built xs ys base width offsets rows k →
      RowFilled (length xs) k (axis_row (length xs) xs ys (base ⊕ at offsets k) width) rows rows' → Built xs ys base width offsets rows' (k + 1)
  built_more {rows} {rows'} {k} b h f =
      record {
        room = f.room ∙ h.room;
        row = below_more (λ j. row_of (length xs) rows' j ≡ axis_row (length xs) xs ys (base ⊕ at offsets j) width) k
            (λ j jb. filled_other f j (omega arith) (λ e. omega arith) ∙ h.row j jb) (filled_here f (omega arith));
      }

  pub built_all :
      {rows edges₀ edges : Row} (energy : Float) (vals angles weights : Row) → Built xs ys base width offsets rows 3 →
      Stores (λ k. refined_sum (length xs) angles weights (base ⊕ at offsets k)) edges₀ edges 3 → length edges₀ ≡ 3 →
      ◌≡◌ {A = AxisRows} (record { rows = rows_of (length xs) rows 3; edges = edges })
      (build_axis_rows (disk_of energy xs ys vals angles weights) base offsets width)
  unfolding build_axis_rows
  built_all {rows} energy vals angles weights h s l =
      rw (stores_all _ _ _ nan 3 s l, tab_same (row_of (length xs) rows) (λ k. axis_row (length xs) xs ys (base ⊕ at offsets k) width) 3 h.row)

-- ---- the slots
-- six keys of 0 mark six empty slots
pub kept_none :
    {xs ys angles weights : Row} {width : Float} (total : Float) (rows : Row) → length rows ≡ rows_room →
    SlotsKept xs ys angles weights width (no_slots total) rows
unfolding lt of_bits
kept_none total rows m = record { places = refl; room = m; slot = λ q b l. absurd (false≢true (sym (never q) ∙ l)) }
  where
    never : (q : ℕ) → lt nought (get_or (replicate 6 no_slot) q beyond).key ≡ false
    never zero = refl
    never (suc zero) = refl
    never (suc (suc zero)) = refl
    never (suc (suc (suc zero))) = refl
    never (suc (suc (suc (suc zero)))) = refl
    never (suc (suc (suc (suc (suc zero))))) = refl
    never (suc (suc (suc (suc (suc (suc q)))))) = refl

module _ {xs ys angles weights : Row} {theta width : Float} {slots : Slots} {rows : Row} where
  -- slot q has theta already
  pub held_here :
      (q : ℕ) → q < 6 → SlotsKept xs ys angles weights width slots rows → is_same (key_at slots q) theta ≡ true →
      (key_at slots q ≡ theta) × (lt nought theta ≡ true) → SlotHeld xs ys angles weights theta width slots rows slots rows q
  unfolding held_slots held_rows
  held_here q b h t e =
      record {
        slots_are = rw t;
        rows_are = rw t;
        total = refl;
        kept = h;
        here = subst (λ (t : Float). Stands xs ys angles weights t width slots rows q) e.0
            (h.slot q b (subst (λ (t : Float). lt nought t ≡ true) (sym e.0) e.1));
        still = λ j t l o s. s;
      }

  -- slot q was filled
  pub held_filled :
      {rows' : Row} (edge : Float) (q : ℕ) → q < 6 → SlotsKept xs ys angles weights width slots rows → is_same (key_at slots q) theta ≡ false →
      edge ≡ refined_sum (length xs) angles weights theta → RowFilled (length xs) q (axis_row (length xs) xs ys theta width) rows rows' →
      SlotHeld xs ys angles weights theta width slots rows
      (record { held = set slots.held q (record { key = theta; edge = edge }); total = slots.total }) rows' q
  unfolding held_slots held_rows
  held_filled {rows'} edge q b h t e f =
      record {
        slots_are = rw (t, e);
        rows_are = rw t f.is;
        total = refl;
        kept = record {
          places = length-set slots.held q slot_new ∙ h.places;
          room = f.room ∙ h.room;
          slot = λ j l g. slot j l g;
        };
        here = here;
        still = still;
      }
    where
      slot_new : Slot
      slot_new = record { key = theta; edge = edge }

      new : Slots
      new = record { held = set slots.held q slot_new; total = slots.total }

      same : get_or new.held q beyond ≡ slot_new
      same = get_or-set_same slots.held q slot_new beyond (omega (arith, h.places))

      other : (j : ℕ) → (j ≡ q → ⊥) → get_or new.held j beyond ≡ get_or slots.held j beyond
      other j o = get_or-set_other slots.held q j slot_new beyond o

      here : Stands xs ys angles weights theta width new rows' q
      here =
          record {
            key = ap (λ (x : Slot). x.key) same;
            row = filled_here f b;
            edge = ap (λ (x : Slot). x.edge) same ∙ e;
          }

      still :
          (j : ℕ) (t : Float) → j < 6 → (j ≡ q → ⊥) → Stands xs ys angles weights t width slots rows j →
          Stands xs ys angles weights t width new rows' j
      still j t l o s =
          record {
            key = ap (λ (x : Slot). x.key) (other j o) ∙ s.key;
            row = filled_other f j l o ∙ s.row;
            edge = ap (λ (x : Slot). x.edge) (other j o) ∙ s.edge;
          }

      slot : (j : ℕ) → j < 6 → lt nought (key_at new j) ≡ true → Stands xs ys angles weights (key_at new j) width new rows' j
      slot j l g = elim (same_or_not j q) [
        | inl i ↦ subst (λ (k : ℕ). Stands xs ys angles weights (key_at new k) width new rows' k) (sym i)
            (subst (λ (t : Float). Stands xs ys angles weights t width new rows' q) (sym here.key) here)
        | inr o ↦ let k = ap (λ (x : Slot). x.key) (other j o) in
            subst (λ (t : Float). Stands xs ys angles weights t width new rows' j) (sym k)
            (still j _ l o (h.slot j l (subst (λ (t : Float). lt nought t ≡ true) k g)))
      ]

-- ---- the slot of an axis: the first of the three that has theta, or else the one to fill
module _ (slots : Slots) (from : ℕ) (base theta : Float) (k : ℕ) where
  abbrev Unlike : ℕ → Type 0
  Unlike q = (j : ℕ) → from ≤ j → j < q → is_same (key_at slots j) theta ≡ false

  pub unlike_next : (q : ℕ) → Unlike q → is_same (key_at slots q) theta ≡ false → Unlike (q + 1)
  unlike_next q u e j l h = elim (same_or_not j q) [
    | inl i ↦ subst (λ (x : ℕ). is_same (key_at slots x) theta ≡ false) (sym i) e
    | inr o ↦ u j l (omega arith)
  ]

  pub slot_found : (q : ℕ) → from ≤ q → q < from + 3 → Unlike q → is_same (key_at slots q) theta ≡ true → q ≡ slot_of slots from base theta k
  unfolding slot_of
  slot_found q l h u e = elim (same_or_not q from) [
    | inl i ↦ rw (← i, e)
    | inr o ↦ elim (same_or_not q (from + 1)) [
      | inl i ↦ rw (u from (omega arith) (omega arith), ← i, e)
      | inr p ↦
          let i : q ≡ from + 2 = omega arith in
          rw (u from (omega arith) (omega arith), u (from + 1) (omega arith) (omega arith), ← i, e)
    ]
  ]

  pub slot_filled : Unlike (from + 3) → slot_of slots from base theta k ≡ cond (eq (key_at slots (from + k)) base) (from + 1) (from + k)
  unfolding slot_of
  slot_filled u = rw (u from (omega arith) (omega arith), u (from + 1) (omega arith) (omega arith), u (from + 2) (omega arith) (omega arith))
