-- A field of a coverage that is held, and numbers for a box of it.
use Rattle.std.specs.Prelude.{◌≡◌, ℕ, ◌+◌, ◌-◌, ◌^◌, min, List, length, map, slice_get, slice_index_or}
use Rattle.std.specs.Prelude.{IsSomeAnd, Result}
use Rattle.arr_core.specs.declared.cell.Cell.{Cell}
use Rattle.arr_core.specs.declared.cell.FieldType.{FieldType}
use Rattle.arr_core.specs.declared.domain.Axis.{Axis}
use Rattle.arr_core.specs.declared.field.Field.{Field}
use Rattle.arr_core.specs.declared.signature.Signature.{Signature}
use Rattle.arr_core.specs.Cells.{stored}
use Rattle.arr_core.specs.Domains.{IsBoxOf, IsDomain}
use Rattle.arr_core.specs.Stores.{Store, found}
use Rattle.tile_store.specs.declared.field.FieldTiles.{FieldTiles}
use Rattle.tile_store.specs.declared.numbers.Numbers.{Numbers}
use Rattle.tile_store.specs.Numbers.{AreNumbers, numbers_in}
use Rattle.raster_store.specs.declared.held.Held.{Held}
use Rattle.raster_store.specs.declared.writing.Cells.{Cells}
use Rattle.raster_store.specs.declared.writing.Cells.TheVariants as written
use Rattle.raster_store.specs.Calls.{MayHaveCells, filled}
use Rattle.tile_index.specs.Bytes.{index_bytes}
use Rattle.tile_store.specs.declared.fault.Fault.{Fault}
use Rattle.tile_store.specs.Faults.{Refuses}
use Rattle.block_file.specs.State.{BlocksState}
use Rattle.raster_store.specs.Views.{RasterView, metadata_size}
use Rattle.raster_store.specs.Fetches.{IsDamagedUnder}
use Rattle.raster_store.specs.Words.{GrowsToWrite, LacksRoomToWrite, Writes, WritesBox, RefusesBox}
use Rattle.raster_store.specs.declared.fault.WriteFault.{WriteFault}
use Rattle.raster_store.specs.Holding.{index_at, indexes_of, IsNamedAt}

-- the field at a place has this type
abbrev pub HasKind : List Field → ℕ → FieldType → Type 0
HasKind fields j kind = IsSomeAnd (slice_get fields j) (λ (f : Field). f.kind ≡ kind)

-- this is the field at a place of a coverage: its type, the coverage's domain, and its index
pub record IsFieldOf (h : Held) (field : ℕ) (f : FieldTiles) : Type 0 where
  pub kind : HasKind h.signature.fields field f.kind
  pub domain : f.domain.now ≡ h.signature.domain
  pub is_domain : IsDomain h.signature.domain
  pub index : f.index.now ≡ index_at h field

-- a coverage is the one with a name
abbrev pub IsNamed : List ℕ → List Held → Held → Type 0
IsNamed name held h = (place : ℕ) × IsNamedAt name held place × (h ≡ slice_index_or held place h)

-- the cells for a box, one at each of its points in row-major order
abbrev pub cells_in : List Axis → Cells → List Cell
cells_in area (written.Each cells) = cells.now
cells_in area (written.Same cell) = filled area cell

-- such cells were written into a box of a field, how far the file has grown, and why they are not written
abbrev pub PutsCells : {B : Type 0} → (B → BlocksState) → List ℕ → ℕ → List Axis → Cells → ℕ
    → RasterView B → RasterView B → Type 0
PutsCells state name field area cells catalogue old new =
    WritesBox state name field area (cells_in area cells) catalogue old new

abbrev pub GrowsToPut : {B : Type 0} → (B → BlocksState) → List ℕ → ℕ → List Axis → Cells → RasterView B → RasterView B
    → Type 0
GrowsToPut state name field area cells old new =
    GrowsToWrite state name field area (map stored (cells_in area cells)) old new

abbrev pub RefusesPutCells : {B : Type 0} → (B → BlocksState) → List ℕ → ℕ → List Axis → Cells → ℕ
    → RasterView B → WriteFault → Type 0
RefusesPutCells state name field area cells catalogue v fault =
    RefusesBox state name field area (cells_in area cells) catalogue v fault

-- the field at a place may have cells in a box, and these numbers are what they are stored as
abbrev pub AreStored : Signature → ℕ → List Axis → List Cell → Numbers → Type 0
AreStored s field area cells numbers =
    MayHaveCells s field area cells
    × IsSomeAnd (slice_get s.fields field) (λ (f : Field). AreNumbers f.kind area numbers)
    × (numbers_in area numbers ≡ map stored cells)

-- a box of the coverage with a name, and numbers for one of its fields
abbrev pub HasPatch : List ℕ → ℕ → List Axis → Numbers → Store → Type 0
HasPatch name field area numbers coverages =
    IsSomeAnd (found name coverages)
    (λ c. IsBoxOf c.domain area × IsSomeAnd (slice_get c.fields field) (λ (f : Field). AreNumbers f.kind area numbers))

-- numbers were put into a box of a field
abbrev pub Puts : {B : Type 0} → (B → BlocksState) → List ℕ → ℕ → List Axis → Numbers → ℕ
    → RasterView B → RasterView B → Type 0
Puts state name field area numbers catalogue old new =
    Writes state name field area (numbers_in area numbers) catalogue old new

-- why numbers are not written: as damaged only where a tile was, and for room only where it was wanting
abbrev pub RefusesPut : {B T : Type 0} → Result T Fault → (B → BlocksState) → List ℕ → ℕ → List Axis → Numbers → ℕ
    → RasterView B → Type 0
RefusesPut result state name field area numbers catalogue v =
    Refuses result (IsDamagedUnder state name field area v)
    (LacksRoomToWrite state name field area (numbers_in area numbers) catalogue v)

-- how many bytes the metadata has without the index of a field of the coverage at a place, or the last value of a `u64`
abbrev pub IsRestSize : List Held → ℕ → ℕ → ℕ → ℕ → Type 0
IsRestSize held place field catalogue size =
    (h : Held) (rest : ℕ) → h ≡ slice_index_or held place h
    → rest + length (index_bytes (index_at h field)) ≡ metadata_size catalogue (indexes_of held)
    → size ≡ min (2 ^ 64 - 1) rest
