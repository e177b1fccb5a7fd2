-- The first runs of a tile, as values and counts.
use Rattle.std.specs.Prelude.{◌≡◌, ◌≢◌, ℕ, ◌+◌, ◌<◌, ℤ, pos, List, length, get_or, IsTrue, false}
use Rattle.arr_core.specs.declared.cell.FieldType.{FieldType}
use Rattle.run_tile.specs.Runs.{run_at, run_count, first_runs, cells_of, IsRun, IsSpelling}
use Rattle.run_tile.specs.declared.listing.Part.{Part}
use Rattle.file_bytes.specs.declared.form.Form.{Form}
use Rattle.file_bytes.specs.declared.form.Form.TheVariants.{Runs, Raw}

-- the first runs are sound and each differs from the one before it, and their values and counts stand in order
pub record AreListed (kind : FieldType) (bytes : List ℕ) (values : List ℤ) (counts : List ℕ) (n : ℕ) : Type 0 where
  pub runs : (k : ℕ) → k < n → IsRun kind (run_at kind bytes k)
  pub maximal : (k : ℕ) → k + 1 < n → (run_at kind bytes k).value ≢ (run_at kind bytes (k + 1)).value
  pub values_are : (k : ℕ) → k < n → get_or values k (pos 0) ≡ (run_at kind bytes k).value
  pub counts_are : (k : ℕ) → k < n → get_or counts k 0 ≡ (run_at kind bytes k).count

-- The runs from one place on up to another were listed behind those before them: with these they are sound and each
-- differs from the one before it, or there is no spelling, and they have so many cells.
pub record IsPart (kind : FieldType) (bytes : List ℕ) (values : List ℤ) (counts : List ℕ) (from end : ℕ)
    (part : Part) : Type 0 where
  pub sound : IsTrue part.sound → AreListed kind bytes values counts end
  pub unsound : (part.sound ≡ false) → (list : List ℤ) → IsSpelling kind bytes list → ⊥
  pub cells_are : length (cells_of (first_runs kind bytes from)) + part.cells ≡ length
      (cells_of (first_runs kind bytes end))

-- how many counts stand beside the cells that bytes read as in a form: one for each run, and none where each cell
-- stands by itself
abbrev pub counts_in : Form → FieldType → List ℕ → ℕ
counts_in Runs kind bytes = run_count kind bytes
counts_in Raw kind bytes = 0
