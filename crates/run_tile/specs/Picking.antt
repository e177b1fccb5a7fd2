-- Single cells of a tile: those at ranks, and how far its runs were walked to find them.
use Rattle.std.specs.Prelude.{◌≡◌, ℕ, ◌+◌, ◌<◌, ◌≤◌, ℤ, pos, List, map, length, slice_index_or, All}
use Rattle.arr_core.specs.declared.cell.FieldType.{FieldType}
use Rattle.run_tile.specs.Runs.{run_at, run_count, first_runs, cells_of}
use Rattle.run_tile.specs.declared.picking.Start.{Start}

-- the cell at each of some ranks, in their order
abbrev pub picked : List ℤ → List ℕ → List ℤ
picked cells ranks = map (λ (r : ℕ). slice_index_or cells r (pos 0)) ranks

-- there is a cell at each rank
abbrev pub AreRanks : List ℤ → List ℕ → Type 0
AreRanks cells ranks = All (λ (r : ℕ). r < length cells) ranks

-- so many runs are there, and so many cells are theirs
pub record IsStart (kind : FieldType) (bytes : List ℕ) (at : Start) : Type 0 where
  pub within : at.runs ≤ run_count kind bytes
  pub before : at.cells ≡ length (cells_of (first_runs kind bytes at.runs))

-- a rank is before the end of the run that begins there, where one does
abbrev pub IsBefore : FieldType → List ℕ → ℕ → Start → Type 0
IsBefore kind bytes rank at = at.runs < run_count kind bytes → rank < at.cells + (run_at kind bytes at.runs).count
