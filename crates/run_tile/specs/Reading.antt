-- How far the runs of a tile were read.
use Rattle.std.specs.Prelude.{◌≡◌, ◌≢◌, ℕ, zero, suc, ◌+◌, ◌<◌, ◌≤◌, ℤ, List, length, take, Option, Some, None}
use Rattle.arr_core.specs.declared.cell.FieldType.{FieldType}
use Rattle.run_tile.specs.declared.reading.Progress.{Progress}
use Rattle.run_tile.specs.Runs.{run_at, first_runs, cells_of, IsRun}

-- the value of the last one of the first runs, if there is one
abbrev pub last_of : FieldType → List ℕ → ℕ → Option ℤ
last_of kind bytes zero = None
last_of kind bytes (suc n) = Some (run_at kind bytes n).value

-- The first runs are sound and each differs from the one before it, the first cells are theirs, and `last` is the
-- value of the last one.
pub record AreRead (kind : FieldType) (bytes : List ℕ) (cells : List ℤ) (at : Progress) : Type 0 where
  pub within : at.cells ≤ length cells
  pub cells_are : take at.cells cells ≡ cells_of (first_runs kind bytes at.runs)
  pub runs : (k : ℕ) → k < at.runs → IsRun kind (run_at kind bytes k)
  pub maximal : (k : ℕ) → k + 1 < at.runs → (run_at kind bytes k).value ≢ (run_at kind bytes (k + 1)).value
  pub last_is : at.last ≡ last_of kind bytes at.runs
