-- A tile of one coverage that is fetched.
use Rattle.std.specs.Prelude.{ℕ, List, [], ◌∷◌, ℤ, IsTrue}
use Rattle.block_file.specs.State.{BlocksState}
use Rattle.raster_store.specs.declared.fetching.TileOf.{TileOf}
use Rattle.raster_store.specs.Fetches.{HasTile, HasTileCount, HasRanks, ArePickedIn, IsSpelledAt}
use Rattle.raster_store.specs.Holding.{coverages_of, indexes_of, tile_in, IsTileOf, IsDamagedIn}

-- the coverage has that field and that tile
abbrev pub HasTileOf : BlocksState → TileOf → Type 0
HasTileOf s t = HasTile (tile_in t.field t.tile) (coverages_of s.content (t.coverage.now ∷ []))

-- there are as many values as the tile has points
abbrev pub HasCountOf : BlocksState → TileOf → List ℤ → Type 0
HasCountOf s t values = HasTileCount (tile_in t.field t.tile) (coverages_of s.content (t.coverage.now ∷ [])) values

-- cells are those of the tile
abbrev pub IsFetchedOf : BlocksState → TileOf → List ℤ → Type 0
IsFetchedOf s t cells = IsTileOf s t.coverage.now t.field t.tile cells

-- the tile is not spelled, if the disk is honest
abbrev pub IsDamagedOf : BlocksState → TileOf → Type 0
IsDamagedOf s t = IsDamagedIn s t.coverage.now t.field t.tile

-- each of these is a rank of the tile's points
abbrev pub HasRanksOf : BlocksState → TileOf → List ℕ → Type 0
HasRanksOf s t ranks = HasRanks (tile_in t.field t.tile) ranks (coverages_of s.content (t.coverage.now ∷ []))

-- cells are those of the tile at ranks
abbrev pub ArePickedOf : BlocksState → TileOf → List ℕ → List ℤ → Type 0
ArePickedOf s t ranks cells =
    ArePickedIn s (coverages_of s.content (t.coverage.now ∷ [])) (indexes_of (t.coverage.now ∷ []))
    (tile_in t.field t.tile) ranks cells

-- the tile is spelled, if the disk is honest
abbrev pub IsTestedOf : BlocksState → TileOf → Type 0
IsTestedOf s t =
    IsTrue s.honest
    → IsSpelledAt (tile_in t.field t.tile) s.content (coverages_of s.content (t.coverage.now ∷ []))
    (indexes_of (t.coverage.now ∷ []))
