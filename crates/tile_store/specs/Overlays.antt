-- Which coordinates two axes have in common, and the cells of one box written over those of another.
use Rattle.std.specs.Prelude.{◌≡◌, ℕ, ◌+◌, ◌-◌, Bool, ◌<◌, ◌≤◌, ℤ, pos, ◌≤ℤ◌, List, slice_index_or, if◌then◌else◌}
use Rattle.arr_core.specs.declared.domain.Axis.{Axis}
use Rattle.arr_core.specs.Domains.{gap, size_of, IsInside, is_inside, rank_of}
use Rattle.tile_store.specs.declared.overlay.Common.{Common}

-- The coordinates that two axes have in common are these: so many, from this place on along each of them.
pub record IsCommon (to from : Axis) (c : Common) : Type 0 where
  pub to_within : c.to + c.count ≤ size_of to
  pub from_within : c.from + c.count ≤ size_of from
  pub all : (x : ℤ) → to.lo ≤ℤ x → x ≤ℤ to.hi → from.lo ≤ℤ x → x ≤ℤ from.hi
      → (c.to ≤ gap to.lo x) × (gap to.lo x < c.to + c.count)
  pub only : (x : ℤ) → to.lo ≤ℤ x → x ≤ℤ to.hi → c.to ≤ gap to.lo x → gap to.lo x < c.to + c.count
      → (from.lo ≤ℤ x) × (x ≤ℤ from.hi) × (gap from.lo x + c.to ≡ gap to.lo x + c.from)

-- the cell at a point, where the cells stand in row-major order of a box's points
abbrev pub cell_at : List Axis → List ℤ → List ℤ → ℤ
cell_at axes cells p = slice_index_or cells (rank_of axes p) (pos 0)

-- Numbers were written at the points that a box with these axes has in common with another, as a function of the
-- point, and the others are as before. The cells of a box stand in row-major order of its points.
abbrev pub Overlaid : List Axis → List Axis → (List ℤ → ℤ) → List ℤ → List ℤ → Type 0
Overlaid axes area number old new =
    (p : List ℤ) → IsInside axes p
    → cell_at axes new p ≡ (if is_inside area p then number p else cell_at axes old p)

-- a number stands first where it is wanted, else what stood there
abbrev pub FirstIs : Bool → ℤ → List ℤ → List ℤ → Type 0
FirstIs wanted number old new =
    slice_index_or new 0 (pos 0) ≡ (if wanted then number else slice_index_or old 0 (pos 0))

-- at the coordinates in common stand the numbers that another box has there, by their places in it
abbrev pub HasRun : Common → (ℕ → ℤ) → List ℤ → Type 0
HasRun c number cells =
    (i : ℕ) → c.to ≤ i → i < c.to + c.count → slice_index_or cells i (pos 0) ≡ number (i - c.to + c.from)

-- the cells before a place, or from one on, are as before
abbrev pub KeepsBelow : ℕ → List ℤ → List ℤ → Type 0
KeepsBelow end old new = (i : ℕ) → i < end → slice_index_or new i (pos 0) ≡ slice_index_or old i (pos 0)

abbrev pub KeepsFrom : ℕ → List ℤ → List ℤ → Type 0
KeepsFrom from old new = (i : ℕ) → from ≤ i → slice_index_or new i (pos 0) ≡ slice_index_or old i (pos 0)
