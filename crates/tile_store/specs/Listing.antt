-- Which blocks tiles, indexes and changes list: how often each block stands there.
use Rattle.std.specs.Prelude.{◌≡◌, ℕ, ◌+◌, ◌-◌, ◌<◌, ◌≤◌, max, IsTrue, List, length, map, sum_by, All, Option, Some, None}
use Rattle.file_bytes.specs.Limits.{block_bytes}
use Rattle.block_file.specs.State.{BlocksState, block, times, none, free_of}
use Rattle.block_file.specs.Words.{Moves, Covers}
use Rattle.block_file.specs.Growth.{GrowsBy}
use Rattle.arr_core.specs.declared.domain.Axis.{Axis}
use Rattle.arr_core.specs.Tiles.{tile_boxes}
use Rattle.tile_index.specs.declared.entry.Entry.{Entry}
use Rattle.tile_index.specs.Entries.{IsEntry}
use Rattle.tile_index.specs.Index.{found_at, IsRising}

-- an index, as the list of its pairs
abbrev pub Index : Type 0
Index = List (ℕ × Entry)

-- how often a tile has a block; a tile without an entry has none
abbrev pub entry_times : Option Entry → ℕ → ℕ
entry_times None k = 0
entry_times (Some e) k = times e.blocks k

-- how often an index lists a block
unfoldable pub listed : List (ℕ × Entry) → ℕ → ℕ
listed index k = sum_by (λ (x : ℕ × Entry). times x.1.blocks k) index

-- a list has the blocks of a tile besides
abbrev pub AddsBlocks : Option Entry → List ℕ → List ℕ → Type 0
AddsBlocks entry old new = (k : ℕ) → times new k ≡ times old k + entry_times entry k

-- how often an index has a block for some tiles
unfoldable pub listed_for : List (ℕ × Entry) → List ℕ → ℕ → ℕ
listed_for index tiles k = sum_by (λ t. entry_times (found_at t index) k) tiles

-- the tiles that are changed
abbrev pub tiles_of : List (ℕ × Option Entry) → List ℕ
tiles_of changes = map (λ (x : ℕ × Option Entry). x.0) changes

-- how often changes give tiles a block
unfoldable pub given : List (ℕ × Option Entry) → ℕ → ℕ
given changes k = sum_by (λ (x : ℕ × Option Entry). entry_times x.1 k) changes

-- changes of tiles that rise and are below a number, to entries or to none
pub record AreChanges (tiles : ℕ) (changes : List (ℕ × Option Entry)) : Type 0 where
  pub rising : IsRising changes
  pub below : All (λ (x : ℕ × Option Entry). x.0 < tiles) changes
  pub entries : All (λ (x : ℕ × Option Entry). (e : Entry) → x.1 ≡ Some e → IsEntry e) changes

-- an index lists only tiles below a number
abbrev pub IsBelow : ℕ → List (ℕ × Entry) → Type 0
IsBelow tiles index = All (λ (x : ℕ × Entry). x.0 < tiles) index

-- What is true of the index of a field with this domain: it lists tiles of the domain alone, and each listed block is
-- in use at least as often as it is listed, and whole on an honest disk.
pub record IsSound (domain : List Axis) (s : BlocksState) (index : List (ℕ × Entry)) : Type 0 where
  pub below : IsBelow (length (tile_boxes domain)) index
  pub counted : Covers s (listed index)
  pub whole : IsTrue s.honest → (k : ℕ) → 0 < listed index k → length (block s k) ≡ block_bytes

-- A block that was in no use is in use at most once, and each other at most as often as it was.
abbrev pub UsesOnce : BlocksState → BlocksState → Type 0
UsesOnce old new = (k : ℕ) → new.uses k ≤ max 1 (old.uses k)

-- The uses of one index became those of another, none twice, and nothing else in use has changed.
pub record Relists (index index' : Index) (old new : BlocksState) : Type 0 where
  pub moves : Moves (listed index) (listed index') old new
  pub once : UsesOnce old new

-- The blocks that came to those taken were free and taken once, no more have gone, and nothing else in use has changed.
-- The file has grown no further than they need.
pub record Takes (taken taken' : List ℕ) (old new : BlocksState) : Type 0 where
  pub more : (k : ℕ) → times taken k ≤ times taken' k
  pub moves : Moves none (λ k. times taken' k - times taken k) old new
  pub once : UsesOnce old new
  pub free : free_of old + length taken ≤ free_of new + length taken'
  pub longer : length taken ≤ length taken'
  pub grows : GrowsBy (length taken' - length taken) old new
