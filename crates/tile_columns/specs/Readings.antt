-- What is read at the places of a frame.
use Rattle.std.specs.Prelude.{◌≡◌, ℕ, ◌<◌, ℤ, List, map, length, slice_get}
use Rattle.arr_core.specs.Domains.{points}
use Rattle.arr_core.specs.Tiles.{tile_boxes, tile_box}
use Rattle.arr_core.specs.Meeting.{tile_number}
use Rattle.wcps_mean.specs.declared.cell.Outcome.{Outcome}
use Rattle.wcps_mean.specs.declared.cell.Outcome.TheVariants.{Value}
use Rattle.plan_ir.specs.Run.{numbers_at}
use Rattle.tile_columns.specs.declared.gather.Reading.{Reading}
use Rattle.tile_columns.specs.Sources.{SourceState, IsRead, box_in}
use Rattle.tile_columns.specs.Locating.{AreInside, rank_in_tile}

-- the source has the coverage, with that field and that domain
abbrev pub IsThere : {K : Type 0} → SourceState K → Reading → Type 0
IsThere s r = IsRead (slice_get s.coverages r.coverage) r.field r.domain.now

-- the points that are read lie in the domain
abbrev pub ReadsInside : Reading → List (List ℤ) → Type 0
ReadsInside r envs = AreInside r.domain.now r.indexes.now envs

-- the numbers of the tiles that are read, place by place
abbrev pub tiles_of : Reading → List (List ℤ) → List ℕ
tiles_of r envs = map (λ e. tile_number r.domain.now (numbers_at e r.indexes.now)) envs

-- the ranks in these
abbrev pub ranks_of : Reading → List (List ℤ) → List ℕ
ranks_of r envs = map (λ e. rank_in_tile r.domain.now (numbers_at e r.indexes.now)) envs

-- the cell that is read under variables
abbrev pub cell_read : {K : Type 0} → SourceState K → Reading → List ℤ → ℤ
cell_read s r e = s.cells r.coverage r.field (numbers_at e r.indexes.now)

-- cells are those that are read
abbrev pub AreCellsRead : {K : Type 0} → SourceState K → Reading → List (List ℤ) → List ℤ → Type 0
AreCellsRead s r envs cells = s.intact → cells ≡ map (cell_read s r) envs

-- a column has the values of these
abbrev pub IsColumnRead : {K : Type 0} → SourceState K → Reading → List (List ℤ) → List Outcome → Type 0
IsColumnRead s r envs column = s.intact → column ≡ map (λ e. Value (cell_read s r e)) envs

-- the points that are read are those of the box of a tile
abbrev pub ReadsWhole : Reading → List (List ℤ) → ℕ → Type 0
ReadsWhole r envs n =
    (0 < length envs) × (n < length (tile_boxes r.domain.now))
    × (map (λ e. numbers_at e r.indexes.now) envs ≡ points (tile_box r.domain.now n))

-- a column has the values of the cells of a tile
abbrev pub IsTileColumn : {K : Type 0} → SourceState K → Reading → ℕ → List Outcome → Type 0
IsTileColumn s r n column = s.intact
    → column ≡ map (λ q. Value (s.cells r.coverage r.field q)) (points (box_in s r.coverage n))
