-- Tiles written as their cells one after the other, the two forms of a tile, and in which of them cells are written.
use Rattle.std.specs.Prelude.{◌≡◌, ℕ, ◌*◌, ◌/◌, ◌<◌, ◌≤◌, ℤ, List, length, drop, map, All, min, nat_lt, if◌then◌else◌, get_or, pos, Option, Vec, MatchOption}
use Rattle.std.specs.declared.alloc.Global.{Global}
use Rattle.std.specs.List.{range_with_len}
use Rattle.byteorder.specs.Endian.{little_number}
use Rattle.arr_core.specs.declared.cell.FieldType.{FieldType}
use Rattle.arr_core.specs.Cells.{Fits}
use Rattle.file_bytes.specs.declared.form.Form.{Form}
use Rattle.file_bytes.specs.declared.form.Form.TheVariants.{Runs, Raw}
use Rattle.run_tile.specs.Types.{width_of, value_of}
use Rattle.run_tile.specs.Runs.{run_size, run_count, first_runs, cells_of, runs_in, IsSpelling}

-- the value that stands at a place, counted from 0
unfoldable pub raw_at : FieldType → List ℕ → ℕ → ℤ
raw_at kind bytes place = value_of kind (little_number (width_of kind) (drop (place * width_of kind) bytes))

-- how many whole values the bytes have room for
abbrev pub raw_count : FieldType → List ℕ → ℕ
raw_count kind bytes = length bytes / width_of kind

-- the values that the bytes read as
unfoldable pub raw_cells : FieldType → List ℕ → List ℤ
raw_cells kind bytes = map (raw_at kind bytes) (range_with_len 0 (raw_count kind bytes))

-- how many bytes cells take one after the other, and how many in runs that are as long as they can be
abbrev pub raw_size : FieldType → List ℤ → ℕ
raw_size kind cells = length cells * width_of kind

abbrev pub runs_size : FieldType → List ℤ → ℕ
runs_size kind cells = runs_in cells * run_size kind

-- how many runs the values make from a place on
abbrev pub runs_from : FieldType → List ℕ → ℕ → ℕ
runs_from kind bytes place = runs_in (drop place (raw_cells kind bytes))

-- The bytes are the cells one after the other and nothing else, each in the type's range, and fewer than their runs
-- take.
pub record IsRawSpelling (kind : FieldType) (bytes : List ℕ) (cells : List ℤ) : Type 0 where
  pub whole : length bytes ≡ raw_size kind cells
  pub fit : All (Fits kind) cells
  pub shorter : length bytes < runs_size kind cells
  pub cells_are : cells ≡ raw_cells kind bytes

-- the bytes are no list of so many cells, one after the other
abbrev pub IsNoRawSpelling : ℕ → FieldType → List ℕ → Type 0
IsNoRawSpelling count kind bytes = (list : List ℤ) → length list ≡ count → IsRawSpelling kind bytes list → ⊥

-- the bytes spell the cells in a form; runs may be longer than the cells one after the other
abbrev pub Spells : Form → FieldType → List ℕ → List ℤ → Type 0
Spells Runs kind bytes cells = IsSpelling kind bytes cells
Spells Raw kind bytes cells = IsRawSpelling kind bytes cells

-- the cells that bytes read as in a form
abbrev pub cells_in : Form → FieldType → List ℕ → List ℤ
cells_in Runs kind bytes = cells_of (first_runs kind bytes (run_count kind bytes))
cells_in Raw kind bytes = raw_cells kind bytes

-- the bytes spell no list of so many cells
abbrev pub IsOfNone : ℕ → Form → FieldType → List ℕ → Type 0
IsOfNone count form kind bytes = (list : List ℤ) → length list ≡ count → Spells form kind bytes list → ⊥

-- the form that cells are written in: one after the other exactly where that takes fewer bytes
abbrev pub form_of : FieldType → List ℤ → Form
form_of kind cells = if nat_lt (raw_size kind cells) (runs_size kind cells) then Raw else Runs

-- the value that stands at each of the first places is the cell there
pub record IsRawWritten (kind : FieldType) (cells : List ℤ) (bytes : List ℕ) (at : ℕ) : Type 0 where
  pub whole : length bytes ≡ at * width_of kind
  pub each : (k : ℕ) → k < at → get_or cells k (pos 0) ≡ raw_at kind bytes k

-- how many bytes they take then
abbrev pub tile_size : FieldType → List ℤ → ℕ
tile_size kind cells = min (raw_size kind cells) (runs_size kind cells)

-- the bytes spell the cells in runs, each as long as it can be, and are no more than so many
pub record AreShortRuns (kind : FieldType) (cells : List ℤ) (most : ℕ) (bytes : List ℕ) : Type 0 where
  pub spelled : IsSpelling kind bytes cells
  pub size : length bytes ≡ runs_size kind cells
  pub short : length bytes ≤ most

-- such bytes, or none where they are more than so many
abbrev pub AreRunsUpTo : FieldType → List ℤ → ℕ → Option (Vec ℕ Global) → Type 0
AreRunsUpTo kind cells most it =
    MatchOption it (most < runs_size kind cells) (λ bytes. AreShortRuns kind cells most bytes.items)

-- the bytes of a tile as its cells are written
pub record IsTile (kind : FieldType) (cells : List ℤ) (form : Form) (bytes : List ℕ) : Type 0 where
  pub spelled : Spells form kind bytes cells
  pub shorter : form ≡ form_of kind cells
  pub size : length bytes ≡ tile_size kind cells
