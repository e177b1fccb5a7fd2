-- What reads give. Where the disk is honest: the numbers that the field has there, from tiles that are spelled as the
-- format says.
use Rattle.std.specs.Prelude.{◌≡◌, ℕ, ℤ, IsTrue, List, [], map, length, slice_index_or, All}
use Rattle.arr_core.specs.Cells.{Fits}
use Rattle.arr_core.specs.Domains.{points}
use Rattle.arr_core.specs.Tiles.{tile_box}
use Rattle.block_file.specs.State.{BlocksState}
use Rattle.tile_store.specs.declared.field.FieldTiles.{FieldTiles}
use Rattle.tile_store.specs.Stored.{number_at, IsTileSpelled}

-- the number that a field has at a point
abbrev pub number_in : FieldTiles → BlocksState → List ℤ → ℤ
number_in f s p = number_at f.kind f.domain.now f.index.now s.content p

-- a tile of a field is spelled
abbrev pub IsSpelledIn : FieldTiles → BlocksState → ℕ → Type 0
IsSpelledIn f s tile = IsTileSpelled f.kind f.domain.now f.index.now s.content tile

-- these are the cells of a tile, at its points in row-major order
pub record IsTileRead (f : FieldTiles) (tile : ℕ) (s : BlocksState) (cells : List ℤ) : Type 0 where
  pub counted : length cells ≡ length (points (tile_box f.domain.now tile))
  pub fit : All (Fits f.kind) cells
  pub numbers : IsTrue s.honest → cells ≡ map (number_in f s) (points (tile_box f.domain.now tile))
  pub spelled : IsTrue s.honest → IsSpelledIn f s tile

-- these are cells of a tile, one at each of some ranks of its points in row-major order
pub record ArePicked (f : FieldTiles) (tile : ℕ) (ranks : List ℕ) (s : BlocksState) (cells : List ℤ) : Type 0 where
  pub counted : length cells ≡ length ranks
  pub numbers : IsTrue s.honest
      → cells ≡ map (λ (r : ℕ). number_in f s (slice_index_or (points (tile_box f.domain.now tile)) r [])) ranks

-- the tile is not spelled as the format says
abbrev pub IsTileDamaged : FieldTiles → ℕ → BlocksState → Type 0
IsTileDamaged f tile s = IsTrue s.honest → IsSpelledIn f s tile → ⊥
