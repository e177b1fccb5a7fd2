-- The cells of an item that is done a tile at a time.
use Rattle.std.specs.Prelude.{◌≡◌, ℕ, ◌*◌, ℤ, List, ◌++◌, map, length, slice_get, Some}
use Rattle.std.specs.List.{All, flat_map, enumerate_from, range_with_len}
use Rattle.arr_core.specs.declared.cell.Cell.{Cell}
use Rattle.arr_core.specs.Domains.{count, points, rank_of}
use Rattle.wcps_mean.specs.declared.cell.Outcome.{Outcome}
use Rattle.wcps_mean.specs.Answer.{cell_of}
use Rattle.plan_ir.specs.Plans.{FieldBody, ItemTree}
use Rattle.plan_ir.specs.Run.{run}
use Rattle.tile_kernel.specs.declared.first_fault.FirstFault.{FirstFault}
use Rattle.tile_kernel.specs.Told.{Told, IsFirstOf}
use Rattle.tile_columns.specs.Fields.{behind}
use Rattle.tile_columns.specs.TileOrder.{points_to}
pub use Rattle.tile_columns.specs.Windows.{value_of}
use Rattle.wcps_mean.specs.Reading.{CellsOf}

-- the outcomes of all fields at a point
abbrev pub row : CellsOf → List Outcome → ItemTree → List ℤ → List Outcome
row s regs i q = map (λ (f : FieldBody). run s regs (behind i.binds f.body) q) i.fields

-- the cells of all fields at a point; at a fault they mean nothing
abbrev pub row_cells : CellsOf → List Outcome → ItemTree → List ℤ → List Cell
row_cells s regs i q = map (λ (f : FieldBody). cell_of f.boolean (value_of (run s regs (behind i.binds f.body) q)))
    i.fields

-- the cells of all points in row-major order, the fields of a point in order
abbrev pub all_cells : CellsOf → List Outcome → ItemTree → List Cell
all_cells s regs i = flat_map (row_cells s regs i) (points i.domain)

-- what a point tells an item: the outcome of each field, with the place of its cell
abbrev pub told_to_item : CellsOf → List Outcome → ItemTree → List ℤ → List Told
told_to_item s regs i q = enumerate_from (rank_of i.domain q * length i.fields) (row s regs i q)

-- the places of a point's cells
abbrev pub places_of : ItemTree → List ℤ → List ℕ
places_of i q = range_with_len (rank_of i.domain q * length i.fields) (length i.fields)

-- at each of these places the cells are as they shall be
abbrev pub AreWritten : List Cell → List Cell → List ℕ → Type 0
AreWritten all cells places = All (λ k. slice_get cells k ≡ slice_get all k) places

-- cells with their places are as they shall be
abbrev pub ArePlaced : List Cell → List (ℕ × Cell) → Type 0
ArePlaced all placed = All (λ (w : ℕ × Cell). slice_get all w.0 ≡ Some w.1) placed

-- the places of such cells
abbrev pub places_written : List (ℕ × Cell) → List ℕ
places_written placed = map (λ (w : ℕ × Cell). w.0) placed

-- cells with their places are written: what they shall be is there, and stays where it was
abbrev pub AreWrittenTo : List Cell → List Cell → List (ℕ × Cell) → Type 0
AreWrittenTo old new placed =
    (all : List Cell) (places : List ℕ) → ArePlaced all placed → AreWritten all old places
    → AreWritten all new (places ++ places_written placed)

-- how many cells an item has
abbrev pub cell_count : ItemTree → ℕ
cell_count i = count i.domain * length i.fields

-- the first fault after further points
abbrev pub IsFirstAfter : FirstFault → FirstFault → List Told → Type 0
IsFirstAfter old new more = (told : List Told) → IsFirstOf old told → IsFirstOf new (told ++ more)

-- the cells and the first fault of the first t tiles of an item's domain
pub record Fills (s : CellsOf) (regs : List Outcome) (i : ItemTree) (t : ℕ) (cells : List Cell)
    (least : FirstFault) : Type 0 where
  pub written : AreWritten (all_cells s regs i) cells (flat_map (places_of i) (points_to i.domain t))
  pub first : IsFirstOf least (flat_map (told_to_item s regs i) (points_to i.domain t))
