-- A disk's values, read in one run, are its five runs: a part of a list of elements is the list of those elements. Assumes nothing.
use Rattle.std.specs.Prelude.{◌≡◌, List, ℕ, ◌+◌, ◌-◌, ◌*◌, ◌≤◌, length, take, drop, Float}
use Rattle.std.proofs.Common.{ap, ◌∙◌, arith}
use Rattle.loops.proofs.TabLaws.{tab_length, tab_same, drop_tab, take_tab}
use Rattle.hexadecimal.specs.Hex.{value_of, values_of}
use Rattle.data.specs.Data.{DiskData, disk_of}
use Rattle.frames.specs.Frames.{disk_of_line}

values_part : (l : List ℕ) (at m k n : ℕ) → k + n ≤ m → take n (drop k (values_of l at m)) ≡ values_of l (at + 8 * k) n
unfolding values_of
values_part l at m k n h =
    let z : m ≡ k + (n + (m - (k + n))) = omega arith in
    rw z (ap (take n) (drop_tab _ k (n + (m - (k + n)))) ∙ take_tab _ n (m - (k + n))
    ∙ tab_same _ _ n (λ i b. let y : at + 8 * (k + i) ≡ at + 8 * k + 8 * i = omega arith in rw y))

values_length : (l : List ℕ) (at n : ℕ) → length (values_of l at n) ≡ n
unfolding values_of
values_length l at n = tab_length _ n

-- ---- a disk's five runs of n values in one list
abbrev pub run : List Float → ℕ → ℕ → List Float
run vs k n = take n (drop k vs)

abbrev pub disk_of_runs : Float → List Float → ℕ → DiskData
disk_of_runs energy vs n = disk_of energy (run vs 0 n) (run vs n n) (run vs (2 * n) n) (run vs (3 * n) n) (run vs (4 * n) n)

pub runs_of_line : (l : List ℕ) (n : ℕ) → disk_of_runs (value_of l 6) (values_of l 30 (5 * n)) n ≡ disk_of_line l n
unfolding disk_of_line
runs_of_line l n =
    let a = values_part l 30 (5 * n) 0 n (omega arith) in
    let b = values_part l 30 (5 * n) n n (omega arith) in
    let c = values_part l 30 (5 * n) (2 * n) n (omega arith) in
    let d = values_part l 30 (5 * n) (3 * n) n (omega arith) in
    let e = values_part l 30 (5 * n) (4 * n) n (omega arith) in
    let z0 : 30 + 8 * 0 ≡ 30 = omega arith in
    let z2 : 30 + 8 * (2 * n) ≡ 30 + 16 * n = omega arith in
    let z3 : 30 + 8 * (3 * n) ≡ 30 + 24 * n = omega arith in
    let z4 : 30 + 8 * (4 * n) ≡ 30 + 32 * n = omega arith in
    rw (a, b, c, d, e, z0, z2, z3, z4, values_length l 30 n)
