-- What a store keeps of tiles that were read, each by the version of its coverage: the cells of some, in row-major
-- order, and of more that they were tested.
use Rattle.std.specs.Prelude.{◌≡◌, ℤ, List, [], Option, Some, None, Contains, ◌⊎◌}
use Rattle.arr_core.specs.declared.runs.RunList.{RunList}
use Rattle.arr_core.specs.Runs.{cells_of}
use Rattle.lru.specs.LruCache.{LruCache}
use Rattle.raster_store.specs.declared.reading.TileKey.{TileKey}

-- what is known of a tile: its cells, or only that it was tested, which is to say read whole without a refusal
abbrev pub Known : Type 0
Known = Option (List ℤ)

-- the tiles with their cells, and those that were tested, each at some place
pub record Kept : Type 0 where
  pub tiles : List (TileKey × RunList)
  pub tested : List (Option TileKey)

-- the tiles of a cache that may be left out
abbrev pub entries_of : Option (LruCache TileKey RunList) → List (TileKey × RunList)
entries_of None = []
entries_of (Some cache) = cache.entries

abbrev pub kept_of : Option (LruCache TileKey RunList) → List (Option TileKey) → Kept
kept_of cache tested = record { tiles = entries_of cache; tested = tested }

-- nothing
abbrev pub nothing : Kept
nothing = record { tiles = []; tested = [] }

-- this is kept of a tile
abbrev pub IsKept : TileKey → Known → Kept → Type 0
IsKept at None kept = Contains kept.tested (Some at)
IsKept at (Some cells) kept = (tile : RunList) × Contains kept.tiles (at, tile) × (cells_of tile ≡ cells)

-- all that is kept was kept
abbrev pub NoneAdded : Kept → Kept → Type 0
NoneAdded old new = (at : TileKey) (known : Known) → IsKept at known new → IsKept at known old

-- all that is kept was kept, or is this, of this tile
abbrev pub Adds : TileKey → Known → Kept → Kept → Type 0
Adds at what old new =
    (j : TileKey) (known : Known) → IsKept j known new → IsKept j known old ⊎ ((j ≡ at) × (known ≡ what))
