-- Which tiles of a store are listed, how many blocks each takes, which are spelled, and what a write of a box leaves of
-- all that. A tile is told by its coverage's name, its field and its number.
use Rattle.std.specs.Prelude.{◌≡◌, ◌⊎◌, ℕ, ℤ, IsTrue, List, [], map, slice_get, Option, Some, IsSomeAnd, unwrap_or}
use Rattle.arr_core.specs.declared.domain.Axis.{Axis}
use Rattle.arr_core.specs.declared.field.Field.{Field}
use Rattle.arr_core.specs.Domains.{points, IsBoxOf}
use Rattle.arr_core.specs.Stores.{Coverage, found, value_at}
use Rattle.arr_core.specs.Tiles.{tile_box, TileMeets}
use Rattle.block_file.specs.State.{BlocksState}
use Rattle.tile_index.specs.declared.entry.Entry.{Entry}
use Rattle.tile_index.specs.Index.{found_at}
use Rattle.tile_store.specs.Room.{entry_blocks, tile_blocks}
use Rattle.tile_store.specs.Stored.{IsPadded, HasForm}
use Rattle.raster_store.specs.Views.{RasterView}
use Rattle.raster_store.specs.Calls.{index_of}
use Rattle.raster_store.specs.Fetches.{IsSpelledOf}

-- the entry of a tile; none where it is not listed
abbrev pub entry_in : {B : Type 0} → List ℕ → ℕ → ℕ → RasterView B → Option Entry
entry_in name field tile v = found_at tile (unwrap_or (index_of name field v.coverages v.indexes) [])

-- how many blocks a tile takes
abbrev pub blocks_in : {B : Type 0} → List ℕ → ℕ → ℕ → RasterView B → ℕ
blocks_in name field tile v = entry_blocks (entry_in name field tile v)

-- the tile is one of a field that a box meets
abbrev pub IsMet : {B : Type 0} → List ℕ → ℕ → List Axis → RasterView B → List ℕ → ℕ → ℕ → Type 0
IsMet name field area v n f tile =
    (n ≡ name) × (f ≡ field) × IsSomeAnd (found name v.coverages) (λ c. TileMeets c.domain tile area)

-- a box has all points of a tile
abbrev pub IsCovered : {B : Type 0} → List Axis → RasterView B → List ℕ → ℕ → Type 0
IsCovered area v name tile = IsSomeAnd (found name v.coverages) (λ c. IsBoxOf area (tile_box c.domain tile))

-- the values of a field at the points of a tile, in row-major order
abbrev pub values_of_tile : Coverage → ℕ → ℕ → List ℤ
values_of_tile c field tile = map (value_at c field) (points (tile_box c.domain tile))

-- a tile takes as many blocks as its cells need: none where they are all 0
abbrev pub TakesItsBlocks : {B : Type 0} → List ℕ → ℕ → ℕ → RasterView B → Type 0
TakesItsBlocks name field tile v =
    IsSomeAnd (found name v.coverages) (λ c. IsSomeAnd (slice_get c.fields field) (λ (f : Field).
    blocks_in name field tile v ≡ tile_blocks f.kind (values_of_tile c field tile)))

-- a tile that is listed is in the form that its cells are written in: raw exactly where that takes fewer bytes
abbrev pub HasItsForm : {B : Type 0} → List ℕ → ℕ → ℕ → RasterView B → Type 0
HasItsForm name field tile v =
    IsSomeAnd (found name v.coverages) (λ c. IsSomeAnd (slice_get c.fields field) (λ (f : Field).
    HasForm f.kind (entry_in name field tile v) (values_of_tile c field tile)))

-- a tile is spelled; and it is not listed, or zeros follow its bytes to the end of its last block
abbrev pub IsSpelledTile : {B : Type 0} → (B → BlocksState) → RasterView B → List ℕ → ℕ → ℕ → Type 0
IsSpelledTile state v name field tile =
    IsSpelledOf name field tile (state v.blocks).content v.coverages v.indexes

abbrev pub IsPaddedTile : {B : Type 0} → (B → BlocksState) → RasterView B → List ℕ → ℕ → ℕ → Type 0
IsPaddedTile state v name field tile =
    (e : Entry) → entry_in name field tile v ≡ Some e → IsPadded (state v.blocks).content e

-- where the disk is honest, each tile that was spelled is
abbrev pub KeepsTiles : {B : Type 0} → (B → BlocksState) → RasterView B → RasterView B → Type 0
KeepsTiles state old new = IsTrue (state old.blocks).honest
    → (n : List ℕ) (f tile : ℕ) → IsSpelledTile state old n f tile → IsSpelledTile state new n f tile

-- What a write into a box of a field leaves of the tiles, where the disk is honest: each that the box meets takes as
-- many blocks as its cells then need, in the form of fewer bytes, and each other is listed as it was; and each that the
-- box meets is spelled and padded, and so is each that was. Each that the box meets and does not cover was spelled
-- before.
pub record WritesTiles {B : Type 0} (state : B → BlocksState) (name : List ℕ) (field : ℕ) (area : List Axis)
    (old new : RasterView B) : Type 0 where
  pub takes : (n : List ℕ) (f tile : ℕ) → IsMet name field area old n f tile → TakesItsBlocks n f tile new
  pub form : (n : List ℕ) (f tile : ℕ) → IsMet name field area old n f tile → HasItsForm n f tile new
  pub others : (n : List ℕ) (f tile : ℕ) → (IsMet name field area old n f tile → ⊥)
      → entry_in n f tile new ≡ entry_in n f tile old
  pub spelled : (n : List ℕ) (f tile : ℕ) → IsMet name field area old n f tile ⊎ IsSpelledTile state old n f tile
      → IsSpelledTile state new n f tile
  pub padded : (n : List ℕ) (f tile : ℕ) → IsMet name field area old n f tile ⊎ IsPaddedTile state old n f tile
      → IsPaddedTile state new n f tile
  pub read : (n : List ℕ) (f tile : ℕ) → IsMet name field area old n f tile
      → IsCovered area old n tile ⊎ IsSpelledTile state old n f tile
