-- Tiles that are fetched by their places in a store.
use Rattle.std.specs.Prelude.{◌≡◌, ℕ, ◌<◌, ℤ, IsTrue, List, [], map, length, slice_get, slice_index_or, Some, IsSomeAnd, All}
use Rattle.arr_core.specs.declared.field.Field.{Field}
use Rattle.arr_core.specs.declared.domain.Axis.{Axis}
use Rattle.arr_core.specs.Domains.{points, count, IsBoxOf}
use Rattle.arr_core.specs.Stores.{Coverage, Store, found, value_at}
use Rattle.arr_core.specs.Tiles.{tile_boxes, tile_box, TileMeets}
use Rattle.block_file.specs.State.{BlocksState}
use Rattle.tile_store.specs.Stored.{IsTileSpelled}
use Rattle.raster_store.specs.Views.{Index, RasterView}
use Rattle.raster_store.specs.Calls.{index_of}
use Rattle.raster_store.specs.declared.reading.TileAt.{TileAt}

-- the coverage with a name is the one at a place
abbrev pub IsPlaceOf : List ℕ → Store → ℕ → Type 0
IsPlaceOf name coverages place = (place < length coverages) × (found name coverages ≡ slice_get coverages place)

-- there is a coverage at the place, with that field and that tile
abbrev pub HasTile : TileAt → Store → Type 0
HasTile at coverages =
    IsSomeAnd (slice_get coverages at.coverage)
    (λ c. (at.field < length c.fields) × (at.tile < length (tile_boxes c.domain)))

-- the values of the field at the tile's points, in row-major order
abbrev pub AreTileCells : TileAt → Store → List ℤ → Type 0
AreTileCells at coverages cells =
    IsSomeAnd (slice_get coverages at.coverage)
    (λ c. cells ≡ map (value_at c at.field) (points (tile_box c.domain at.tile)))

-- as many cells as the tile has points
abbrev pub HasTileCount : TileAt → Store → List ℤ → Type 0
HasTileCount at coverages cells =
    IsSomeAnd (slice_get coverages at.coverage) (λ c. length cells ≡ length (points (tile_box c.domain at.tile)))

-- the tile is not listed, or its bytes spell as many cells of the field's type as it has points
abbrev pub IsSpelledAt : TileAt → List ℕ → Store → List (List Index) → Type 0
IsSpelledAt at content coverages indexes =
    IsSomeAnd (slice_get coverages at.coverage) (λ c. IsSomeAnd (slice_get c.fields at.field) (λ (f : Field).
    IsTileSpelled f.kind c.domain (slice_index_or (slice_index_or indexes at.coverage []) at.field []) content at.tile))

-- Cells are those of a tile of a store: as many as it has points, and, where the disk is honest, the values there, of a
-- tile that is spelled.
pub record IsDecoded (s : BlocksState) (coverages : Store) (indexes : List (List Index)) (at : TileAt)
    (cells : List ℤ) : Type 0 where
  pub counted : HasTileCount at coverages cells
  pub values : IsTrue s.honest → AreTileCells at coverages cells
  pub spelled : IsTrue s.honest → IsSpelledAt at s.content coverages indexes

-- each of these is a rank of the tile's points
abbrev pub HasRanks : TileAt → List ℕ → Store → Type 0
HasRanks at ranks coverages =
    IsSomeAnd (slice_get coverages at.coverage) (λ c. All (λ (r : ℕ). r < count (tile_box c.domain at.tile)) ranks)

-- the values of the field at the tile's points with these ranks, in row-major order
abbrev pub AreRankedCells : TileAt → List ℕ → Store → List ℤ → Type 0
AreRankedCells at ranks coverages cells =
    IsSomeAnd (slice_get coverages at.coverage)
    (λ c. cells ≡ map (λ (r : ℕ). value_at c at.field (slice_index_or (points (tile_box c.domain at.tile)) r [])) ranks)

-- Cells are those of a tile of a store at some ranks: one for each, and, where the disk is honest, the values there, of
-- a tile that is spelled, its other cells too.
pub record ArePickedIn (s : BlocksState) (coverages : Store) (indexes : List (List Index)) (at : TileAt)
    (ranks : List ℕ) (cells : List ℤ) : Type 0 where
  pub counted : length cells ≡ length ranks
  pub values : IsTrue s.honest → AreRankedCells at ranks coverages cells
  pub spelled : IsTrue s.honest → IsSpelledAt at s.content coverages indexes

abbrev pub ArePicked : {B : Type 0} → (B → BlocksState) → TileAt → List ℕ → RasterView B → List ℤ → Type 0
ArePicked state at ranks v cells = ArePickedIn (state v.blocks) v.coverages v.indexes at ranks cells

-- cells are those of a tile of a store
abbrev pub IsFetched : {B : Type 0} → (B → BlocksState) → TileAt → RasterView B → List ℤ → Type 0
IsFetched state at v cells = IsDecoded (state v.blocks) v.coverages v.indexes at cells

-- the tile is not spelled, if the disk is honest
abbrev pub IsDamagedAt : {B : Type 0} → (B → BlocksState) → TileAt → RasterView B → Type 0
IsDamagedAt state at v =
    IsTrue (state v.blocks).honest → IsSpelledAt at (state v.blocks).content v.coverages v.indexes → ⊥

-- A tile of a field of the coverage with a name is spelled: it is not listed, or its bytes spell as many cells of the
-- field's type as it has points.
abbrev pub IsSpelledOf : List ℕ → ℕ → ℕ → List ℕ → Store → List (List Index) → Type 0
IsSpelledOf name field tile content coverages indexes =
    (c : Coverage) (f : Field) (i : Index) → found name coverages ≡ Some c → slice_get c.fields field ≡ Some f
    → index_of name field coverages indexes ≡ Some i → IsTileSpelled f.kind c.domain i content tile

-- a tile of a field of the coverage with a name is not spelled
abbrev pub IsBadTile : {B : Type 0} → (B → BlocksState) → List ℕ → ℕ → ℕ → RasterView B → Type 0
IsBadTile state name field tile v =
    IsSpelledOf name field tile (state v.blocks).content v.coverages v.indexes → ⊥

-- where the disk is honest, a tile that a box meets and does not cover is not spelled
abbrev pub IsDamagedUnder : {B : Type 0} → (B → BlocksState) → List ℕ → ℕ → List Axis → RasterView B → Type 0
IsDamagedUnder state name field area v = IsTrue (state v.blocks).honest
    → IsSomeAnd (found name v.coverages)
    (λ c. (tile : ℕ) × TileMeets c.domain tile area × (IsBoxOf area (tile_box c.domain tile) → ⊥)
    × IsBadTile state name field tile v)
