-- Numbers for a box of a field, and what their writing leaves.
use Rattle.std.specs.Prelude.{◌≡◌, ◌⊎◌, ℕ, ◌<◌, ℤ, IsTrue, List, Result}
use Rattle.arr_core.specs.Domains.{IsBoxOf}
use Rattle.arr_core.specs.Stores.{updated_values}
use Rattle.arr_core.specs.Tiles.{tile_box, TileMeets}
use Rattle.block_file.specs.State.{BlocksState, free_of}
use Rattle.block_file.specs.Growth.{GrowsBy}
use Rattle.tile_store.specs.declared.fault.Fault.{Fault}
use Rattle.tile_index.specs.Index.{found_at}
use Rattle.tile_store.specs.declared.numbers.Patch.{Patch}
use Rattle.tile_store.specs.Listing.{Index, IsSound}
use Rattle.tile_store.specs.Numbers.{AreNumbers, numbers_in}
use Rattle.tile_store.specs.Stored.{field_values, IsTileSpelled, IsTilePadded, HasForm}
use Rattle.tile_store.specs.Faults.{Refuses}
use Rattle.tile_store.specs.Room.{cells_after, tile_blocks, entry_blocks, new_blocks, room_for, AreMeeting}

-- a box of the domain, and numbers for it in the range of the field's type
pub record IsPatch (u : Patch) : Type 0 where
  pub box : IsBoxOf u.domain.now u.area.now
  pub numbers : AreNumbers u.kind u.area.now u.numbers.now

-- a patch may be written into a field with this index
pub record CanPatch (u : Patch) (s : BlocksState) (index : Index) : Type 0 where
  pub patch : IsPatch u
  pub sound : IsSound u.domain.now s index

-- the box has all points of a tile
abbrev pub CoversTile : Patch → ℕ → Type 0
CoversTile u tile = IsBoxOf u.area.now (tile_box u.domain.now tile)

-- the box has a point in common with a tile of the domain
abbrev pub MeetsTile : Patch → ℕ → Type 0
MeetsTile u tile = TileMeets u.domain.now tile u.area.now

-- the numbers for the box, in order of its points
abbrev pub numbers_of : Patch → List ℤ
numbers_of u = numbers_in u.area.now u.numbers.now

-- the values of the field that a patch is for
abbrev pub values_for : Patch → BlocksState → Index → List ℤ
values_for u s index = field_values u.kind u.domain.now index s.content

-- a tile of that field is spelled
abbrev pub IsSpelledFor : Patch → BlocksState → Index → ℕ → Type 0
IsSpelledFor u s index tile = IsTileSpelled u.kind u.domain.now index s.content tile

-- the cells of a tile after the numbers are put into it
abbrev pub patched : Patch → BlocksState → Index → ℕ → List ℤ
patched u s index tile =
    cells_after u.kind u.domain.now index s.content u.area.now (numbers_of u) tile

-- how many blocks a tile takes then
abbrev pub blocks_after : Patch → BlocksState → Index → ℕ → ℕ
blocks_after u s index tile = tile_blocks u.kind (patched u s index tile)

-- What a write of a patch leaves: the field's values, function update on the box; each tile that the box meets is
-- spelled, with zeros behind its bytes, in the form that its new cells are written in, and takes as many blocks as they
-- need, none where they are all 0; the others stay spelled and padded, and listed as they were; and each tile that was
-- read was spelled.
pub record IsPatched (u : Patch) (old : BlocksState) (index : Index) (new : BlocksState) (index' : Index) : Type 0 where
  pub numbers : values_for u new index' ≡ updated_values u.domain.now u.area.now (numbers_of u) (values_for u old index)
  pub written : (tile : ℕ) → MeetsTile u tile → IsSpelledFor u new index' tile
  pub others : (tile : ℕ) → IsSpelledFor u old index tile → IsSpelledFor u new index' tile
  pub same : (tile : ℕ) → (MeetsTile u tile → ⊥) → found_at tile index' ≡ found_at tile index
  pub form : (tile : ℕ) → MeetsTile u tile → HasForm u.kind (found_at tile index') (patched u old index tile)
  pub blocks : (tile : ℕ) → MeetsTile u tile → entry_blocks (found_at tile index') ≡ blocks_after u old index tile
  pub padded : (tile : ℕ) → MeetsTile u tile ⊎ IsTilePadded index old.content tile
      → IsTilePadded index' new.content tile
  pub read : (tile : ℕ) → MeetsTile u tile → CoversTile u tile ⊎ IsSpelledFor u old index tile

-- the same, where the disk is honest
abbrev pub Patches : Patch → BlocksState → Index → BlocksState → Index → Type 0
Patches u old index new index' = IsTrue old.honest → IsPatched u old index new index'

-- a tile that the box meets and does not cover is not spelled as the format says
abbrev pub HasDamaged : Patch → BlocksState → Index → Type 0
HasDamaged u s index =
    IsTrue s.honest → (tile : ℕ) × MeetsTile u tile × (CoversTile u tile → ⊥) × (IsSpelledFor u s index tile → ⊥)

-- fewer blocks are free than the new tiles and the metadata need, of which the other parts have `rest` bytes
abbrev pub LacksRoom : Patch → ℕ → BlocksState → Index → Type 0
LacksRoom u rest s index =
    IsTrue s.honest → (tiles : List ℕ) × AreMeeting u.domain.now u.area.now tiles
    × (free_of s < room_for (blocks_after u s index) index tiles rest)

-- however the write of a patch ended, the file of an honest disk has grown by no more than the blocks of the new tiles
abbrev pub GrowsFor : Patch → BlocksState → Index → BlocksState → Type 0
GrowsFor u old index new =
    IsTrue old.honest → (tiles : List ℕ) → AreMeeting u.domain.now u.area.now tiles
    → GrowsBy (new_blocks (blocks_after u old index) tiles) old new

-- why the write of a patch is refused
abbrev pub RefusesPatch : {T : Type 0} → Result T Fault → Patch → ℕ → BlocksState → Index → Type 0
RefusesPatch result u rest s index = Refuses result (HasDamaged u s index) (LacksRoom u rest s index)
