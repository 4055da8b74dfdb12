-- The pixels of a disk: disk_sector/data.rs, DiskData. Definitions only.
-- The Rust's `vals` and `mean` are left out, since the search never reads them.
use Rattle.std.specs.Prelude.{◌≡◌, ℕ, ◌*◌, ◌≤◌, length, take, drop, Float}
use Rattle.floats.specs.Rows.{Row}
use Rattle.std.specs.Borrow.{Bor}
use denote.Triple.Both.{Both}

-- n pixels: their places, centred values and gradients, and the sum of the squared values
pub record DiskData : Type 0 where
  pub n : ℕ
  pub xs : Row
  pub ys : Row
  pub vals_centered : Row
  pub grad_angles : Row
  pub grad_weights : Row
  pub val_energy : Float

-- the disk of five slices; the first says how many pixels there are
abbrev pub disk_of : Float → Row → Row → Row → Row → Row → DiskData
disk_of val_energy xs ys vals_centered grad_angles grad_weights =
    record {
      n = length xs;
      xs = xs;
      ys = ys;
      vals_centered = vals_centered;
      grad_angles = grad_angles;
      grad_weights = grad_weights;
      val_energy = val_energy;
    }

-- ---- a contract's own words: a slice that is lent for reading, and the disk of five of them as a call finds it
abbrev pub InSlice : Type 0
InSlice = Both (Bor Row) (Bor Row)

abbrev pub lent_disk : Float → InSlice → InSlice → InSlice → InSlice → InSlice → DiskData
lent_disk val_energy xs ys vals_centered grad_angles grad_weights =
    disk_of val_energy xs.entry.now ys.entry.now vals_centered.entry.now grad_angles.entry.now grad_weights.entry.now

-- what a function that is handed some slices of a disk says: P, of every disk that has them
abbrev pub OfPixels : Float → InSlice → InSlice → InSlice → (DiskData → Type 0) → Type 0
OfPixels val_energy xs ys vals_centered P =
    (angles weights : Row) → P (disk_of val_energy xs.entry.now ys.entry.now vals_centered.entry.now angles weights)

abbrev pub OfValues : Float → InSlice → (DiskData → Type 0) → Type 0
OfValues val_energy vals_centered P =
    let vals = vals_centered.entry.now in
    (xs ys angles weights : Row) → length xs ≡ length vals → P (disk_of val_energy xs ys vals angles weights)

abbrev pub OfGradients : InSlice → InSlice → (DiskData → Type 0) → Type 0
OfGradients grad_angles grad_weights P =
    let angles = grad_angles.entry.now in
    (val_energy : Float) (xs ys vals : Row) → length xs ≡ length angles → P (disk_of val_energy xs ys vals angles grad_weights.entry.now)

-- ---- score.rs: MAX_TANH_PIXELS, the most pixels of a disk whose rows are kept
abbrev pub max_tanh_pixels : ℕ
max_tanh_pixels = 320

-- five slices of one length, which is not above it
pub record DiskSized (xs ys vals_centered grad_angles grad_weights : Row) : Type 0 where
  pub most : length xs ≤ max_tanh_pixels
  pub y : length ys ≡ length xs
  pub v : length vals_centered ≡ length xs
  pub a : length grad_angles ≡ length xs
  pub w : length grad_weights ≡ length xs

-- row k of n pixels in a buffer whose rows stand that far apart
abbrev pub row_of : ℕ → Row → ℕ → Row
row_of n rows k = take n (drop (k * max_tanh_pixels) rows)
