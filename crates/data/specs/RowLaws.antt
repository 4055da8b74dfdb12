-- A row that was lent out of a buffer comes back in its place, and the other rows are as they were. Assumes nothing.
use Rattle.std.specs.Prelude.{◌≡◌, Bool, true, false, not, ◌++◌, ℕ, ◌+◌, ◌*◌, ◌<◌, ◌≤◌, T, ltb, length, take, drop}
use Rattle.std.proofs.Common.{arith, ltb→lt, nltb→le}
use Rattle.loops.proofs.TabLaws.{part_kept, part_same, part_after}
use Rattle.floats.specs.Rows.{Row}
use Rattle.data.specs.Data.{max_tanh_pixels, row_of}

-- the buffer after row k was lent and came back as r
abbrev pub lent : ℕ → ℕ → Row → Row → Row
lent n k r rows = take (k * max_tanh_pixels) rows ++ (r ++ drop n (drop (k * max_tanh_pixels) rows))

-- row k is r now, and the others are as they were
pub record Wrote (n k : ℕ) (r rows rows' : Row) : Type 0 where
  pub here : row_of n rows' k ≡ r
  pub other : (j : ℕ) → (j ≡ k → ⊥) → row_of n rows' j ≡ row_of n rows j

pub wrote :
    (n k : ℕ) (r rows : Row) → n ≤ max_tanh_pixels → k * max_tanh_pixels + n ≤ length rows → length r ≡ n →
    Wrote n k r rows (lent n k r rows)
wrote n k r rows m l e =
    record {
      here = part_same rows r (drop n (drop (k * max_tanh_pixels) rows)) (k * max_tanh_pixels) n (omega arith) e;
      other = λ j o. go j o (ltb j k) (ltb→lt j k) (nltb→le j k);
    }
  where
    behind : (j k : ℕ) → k ≤ j → (j ≡ k → ⊥) → k < j
    behind j k h o = omega arith

    -- before row k, or behind it
    go :
        (j : ℕ) → (j ≡ k → ⊥) → (b : Bool) → (T b → j < k) → (T (not b) → k ≤ j) →
        row_of n (lent n k r rows) j ≡ row_of n rows j
    go j o true u v =
        let h = u tt in
        part_kept rows (r ++ drop n (drop (k * max_tanh_pixels) rows)) (k * max_tanh_pixels) (j * max_tanh_pixels) n (omega arith) (omega arith)
    go j o false u v =
        let h : k < j = behind j k (v tt) o in
        part_after rows r (k * max_tanh_pixels) (j * max_tanh_pixels) n n (omega arith) e (omega arith)
