-- Windows over a grid of cells.
use Rattle.std.specs.Prelude.{ℕ, ◌+◌, ◌-◌, ◌*◌, ◌<◌, ◌≤◌, ℤ, pos, List, map, length, slice_index_or}
use Rattle.std.specs.List.{flat_map, range_with_len}
use Rattle.wcps_text.specs.declared.operator.Aggregate.{Aggregate}
use Rattle.wcps_mean.specs.declared.cell.Outcome.{Outcome}
use Rattle.wcps_mean.specs.Condensers.{combined}
use Rattle.tile_kernel.specs.declared.windows.Span.{Span}
use Rattle.tile_kernel.specs.declared.windows.Grid.{Grid}

-- the numbers of the items of a span
abbrev pub in_span : Span → List ℕ
in_span s = range_with_len s.from (s.to - s.from)

-- the cell in a row and a column
abbrev pub cell_of : Grid → ℕ → ℕ → ℤ
cell_of g row column = slice_index_or g.cells.now (row * g.width + column) (pos 0)

-- the cells of a row in a span of columns
abbrev pub cells_across : Grid → Span → ℕ → List ℤ
cells_across g across row = map (cell_of g row) (in_span across)

-- the cells in a span of rows and a span of columns, row by row
abbrev pub window : Grid → Span → Span → List ℤ
window g down across = flat_map (cells_across g across) (in_span down)

-- the combination of each window of a span of rows
abbrev pub windows_of_rows : Aggregate → Grid → List Span → Span → List Outcome
windows_of_rows op g across down = map (λ a. combined op (window g down a)) across

-- the combination of each window: for each span of rows, of all spans of columns
abbrev pub windows : Aggregate → Grid → List Span → List Span → List Outcome
windows op g down across = flat_map (windows_of_rows op g across) down

-- the first n summaries are of the rows' cells: a row's in each span of columns, one row after the other
abbrev pub KeepsAcross : {S : Type 0} → (S → List ℤ → Type 0) → (S → ℕ) → Grid → List Span → ℕ → List S → Type 0
KeepsAcross keeps counted g across n kept =
    (row place : ℕ) (d : _) (e : Span) → place < length across → row * length across + place < n
    → keeps (slice_index_or kept (row * length across + place) d) (cells_across g (slice_index_or across place e) row)
    × (counted (slice_index_or kept (row * length across + place) d) ≤ g.width)
