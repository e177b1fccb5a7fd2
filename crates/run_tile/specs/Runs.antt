-- Tiles written as runs of equal cells, and which bytes spell which cells.
use Rattle.std.specs.Prelude.{◌≡◌, ◌≢◌, ℕ, ◌+◌, ◌*◌, ◌/◌, ◌<◌, ◌≤◌, ℤ, List, [], ◌∷◌, length, drop, map, flat_map, replicate, cond}
use Rattle.std.specs.Ordering.{int_eq}
use Rattle.std.specs.List.{range_with_len}
use Rattle.byteorder.specs.Endian.{little_number}
use Rattle.arr_core.specs.declared.cell.FieldType.{FieldType}
use Rattle.arr_core.specs.Cells.{Fits}
use Rattle.arr_core.specs.Limits.{max_tile}
use Rattle.run_tile.specs.Types.{width_of, value_of}
use Rattle.run_tile.specs.declared.run.Run.{Run}

-- a run takes 2 bytes for its count, and those of its value
abbrev pub run_size : FieldType → ℕ
run_size kind = 2 + width_of kind

-- the run that bytes read as: the number in the first 2 bytes, and the value in the following ones
abbrev pub run_of : FieldType → List ℕ → Run
run_of kind bytes =
    record { count = little_number 2 bytes; value = value_of kind (little_number (width_of kind) (drop 2 bytes)) }

-- how many whole runs the bytes have room for
abbrev pub run_count : FieldType → List ℕ → ℕ
run_count kind bytes = length bytes / run_size kind

-- the run at a place, counted from 0
unfoldable pub run_at : FieldType → List ℕ → ℕ → Run
run_at kind bytes place = run_of kind (drop (place * run_size kind) bytes)

-- the first runs that the bytes read as
unfoldable pub first_runs : FieldType → List ℕ → ℕ → List Run
first_runs kind bytes n = map (run_at kind bytes) (range_with_len 0 n)

-- the cells of runs: each value as often as its run counts
unfoldable pub cells_of : List Run → List ℤ
cells_of runs = flat_map (λ (r : Run). replicate r.count r.value) runs

-- a run has at least one cell and no more than a tile, of the type
abbrev pub IsRun : FieldType → Run → Type 0
IsRun kind r = (1 ≤ r.count) × (r.count ≤ max_tile) × Fits kind r.value

-- The bytes spell the cells: they are runs and nothing else, neighbouring runs have unlike values
-- (so each run is as long as it can be), and the cells are those of the runs.
pub record IsSpelling (kind : FieldType) (bytes : List ℕ) (cells : List ℤ) : Type 0 where
  pub whole : length bytes ≡ run_count kind bytes * run_size kind
  pub runs : (k : ℕ) → k < run_count kind bytes → IsRun kind (run_at kind bytes k)
  pub maximal : (k : ℕ) → k + 1 < run_count kind bytes → (run_at kind bytes k).value ≢ (run_at kind bytes (k + 1)).value
  pub cells_are : cells ≡ cells_of (first_runs kind bytes (run_count kind bytes))

-- the bytes spell no list of so many cells in runs
abbrev pub IsNoSpelling : ℕ → FieldType → List ℕ → Type 0
IsNoSpelling count kind bytes = (list : List ℤ) → length list ≡ count → IsSpelling kind bytes list → ⊥

-- how many runs spell the cells: one more than there are cells that differ from the one before
abbrev pub runs_in : List ℤ → ℕ
runs_in [] = 0
runs_in (x ∷ []) = 1
runs_in (x ∷ y ∷ ys) = cond (int_eq x y) 0 1 + runs_in (y ∷ ys)
