-- What a write has put into fresh blocks.
use Rattle.std.specs.Prelude.{◌≡◌, ◌⊎◌, ℕ, ◌+◌, ◌*◌, ◌<◌, ◌≤◌, ◌^◌, ℤ, pos, IsTrue, List, [], take, drop, length, slice_index_or, sum_by, All, Option, Some, Result, OnOk, false}
use Rattle.std.specs.List.{flat_map}
use Rattle.arr_core.specs.declared.cell.FieldType.{FieldType}
use Rattle.arr_core.specs.Cells.{Fits}
use Rattle.arr_core.specs.Domains.{count, IsDomain, IsInside, is_inside}
use Rattle.arr_core.specs.Limits.{max_points, max_tile}
use Rattle.arr_core.specs.Tiles.{tile_box}
use Rattle.file_bytes.specs.Limits.{block_bytes}
use Rattle.block_file.specs.State.{BlocksState, block, times, none, free_of}
use Rattle.block_file.specs.Words.{Recounts, Covers}
use Rattle.tile_index.specs.declared.entry.Entry.{Entry}
use Rattle.tile_index.specs.Bytes.{index_bytes}
use Rattle.tile_index.specs.Entries.{IsEntry}
use Rattle.tile_index.specs.Index.{found_at, changed_at, IsIndex}
use Rattle.tile_store.specs.declared.fault.Fault.{Fault}
use Rattle.tile_store.specs.declared.numbers.Patch.{Patch}
use Rattle.tile_store.specs.declared.update.Fresh.{Fresh}
use Rattle.tile_store.specs.declared.update.Ready.{Ready}
use Rattle.tile_store.specs.Faults.{Refuses}
use Rattle.tile_store.specs.Listing.{Index, entry_times, listed_for, tiles_of, given, AreChanges, IsBelow, Takes}
use Rattle.tile_store.specs.Overlays.{cell_at}
use Rattle.tile_store.specs.Patches.{CoversTile, IsSpelledFor, patched, HasDamaged, blocks_after}
use Rattle.tile_store.specs.Room.{tile_blocks, entry_blocks, new_blocks, replaced_bytes, given_bytes, AreMeeting}
use Rattle.tile_store.specs.Stored.{SpellsMany, entry_data, IsPadded, tile_cells, number_at, HasForm}

-- a block holds the part of some bytes that stands at a place, counted in blocks, and zeros behind the last of them
pub record HoldsPart (block : List ℕ) (place : ℕ) (bytes : List ℕ) : Type 0 where
  pub whole : length block ≡ block_bytes
  pub part : (j : ℕ) → j < block_bytes → block_bytes * place + j < length bytes
      → slice_index_or block j 0 ≡ slice_index_or bytes (block_bytes * place + j) 0
  pub padded : (j : ℕ) → j < block_bytes → length bytes ≤ block_bytes * place + j → slice_index_or block j 0 ≡ 0

-- each block is the one behind the one before it
abbrev pub AreNeighbours : List ℕ → Type 0
AreNeighbours ks = (i : ℕ) → i < length ks → slice_index_or ks i 0 ≡ slice_index_or ks 0 0 + i

-- on an honest disk these are the bytes of a tile
abbrev pub IsDataRead : BlocksState → Entry → List ℕ → Type 0
IsDataRead s entry bytes = IsTrue s.honest → bytes ≡ entry_data s.content entry

-- a tile's entry, where it has one, spells so many cells
abbrev pub EntrySpells : FieldType → List ℕ → Option Entry → ℕ → Type 0
EntrySpells kind content entry n = (e : Entry) → entry ≡ Some e → SpellsMany e.form kind (entry_data content e) n

-- zeros follow the bytes of a tile, where it has an entry
abbrev pub EntryPadded : List ℕ → Option Entry → Type 0
EntryPadded content entry = (e : Entry) → entry ≡ Some e → IsPadded content e

-- a tile has these cells, by their places
abbrev pub HasCells : FieldType → List ℕ → Option Entry → List ℤ → Type 0
HasCells kind content entry cells =
    (i : ℕ) → slice_index_or (tile_cells kind content entry) i (pos 0) ≡ slice_index_or cells i (pos 0)

-- these cells were written as a tile: it has them, its bytes spell them, in the form that takes fewer, it has as many
-- blocks as they need, and the last one is filled with zeros
pub record IsWritten (kind : FieldType) (content : List ℕ) (entry : Option Entry) (cells : List ℤ) : Type 0 where
  pub has : HasCells kind content entry cells
  pub spelled : EntrySpells kind content entry (length cells)
  pub form : HasForm kind entry cells
  pub size : entry_blocks entry ≡ tile_blocks kind cells
  pub padded : EntryPadded content entry

-- the cells of a tile were read by its entry
pub record IsRead (kind : FieldType) (n : ℕ) (s : BlocksState) (entry : Option Entry) (cells : List ℤ)
    : Type 0 where
  pub counted : length cells ≡ n
  pub fit : All (Fits kind) cells
  pub has : IsTrue s.honest → HasCells kind s.content entry cells
  pub spelled : IsTrue s.honest → EntrySpells kind s.content entry n

-- the bytes of a tile do not spell so many cells
abbrev pub IsEntryDamaged : FieldType → ℕ → BlocksState → Option Entry → Type 0
IsEntryDamaged kind n s entry = IsTrue s.honest → EntrySpells kind s.content entry n → ⊥

-- each of these blocks is in no use
abbrev pub AreUnused : List ℕ → BlocksState → Type 0
AreUnused ks s = (k : ℕ) → 0 < times ks k → s.uses k ≡ 0

-- each of these blocks is in use once and stands once in the list
abbrev pub AreFresh : List ℕ → BlocksState → Type 0
AreFresh ks s = (k : ℕ) → 0 < times ks k → (s.uses k ≡ 1) × (times ks k ≡ 1)

-- on an honest disk the blocks are whole and hold some bytes, in order, and zeros behind them
pub record HoldsBytes (ks bytes : List ℕ) (s : BlocksState) : Type 0 where
  pub bytes_are : IsTrue s.honest → take (length bytes) (flat_map (block s) ks) ≡ bytes
  pub padded : IsTrue s.honest → All (λ b. b ≡ 0) (drop (length bytes) (flat_map (block s) ks))
  pub whole : IsTrue s.honest → (k : ℕ) → 0 < times ks k → length (block s k) ≡ block_bytes

-- a tile was written to the blocks that came to those taken
pub record IsNewTile (kind : FieldType) (s : BlocksState) (taken taken' : List ℕ) (cells : List ℤ)
    (entry : Option Entry) : Type 0 where
  pub is_entry : (e : Entry) → entry ≡ Some e → IsEntry e
  pub added : (k : ℕ) → times taken' k ≡ times taken k + entry_times entry k
  pub size : length taken' ≡ length taken + entry_blocks entry
  pub written : IsTrue s.honest → IsWritten kind s.content entry cells
  pub whole : IsTrue s.honest → (k : ℕ) → 0 < entry_times entry k → length (block s k) ≡ block_bytes

-- the cells of a tile before a write: those inside the box may be any, and none was read where it has them all
pub record AreBefore (u : Patch) (s : BlocksState) (index : Index) (tile : ℕ) (cells : List ℤ) : Type 0 where
  pub counted : length cells ≡ count (tile_box u.domain.now tile)
  pub fit : All (Fits u.kind) cells
  pub numbers : IsTrue s.honest
      → (p : List ℤ) → IsInside (tile_box u.domain.now tile) p → is_inside u.area.now p ≡ false
      → cell_at (tile_box u.domain.now tile) cells p ≡ number_at u.kind u.domain.now index s.content p
  pub read : IsTrue s.honest → CoversTile u tile ⊎ IsSpelledFor u s index tile

-- the cells of a tile after a write
pub record AreAfter (u : Patch) (s : BlocksState) (index : Index) (tile : ℕ) (cells : List ℤ) : Type 0 where
  pub some : 1 ≤ length cells
  pub few : length cells ≤ max_tile
  pub fit : All (Fits u.kind) cells
  pub numbers : IsTrue s.honest → cells ≡ patched u s index tile
  pub read : IsTrue s.honest → CoversTile u tile ⊎ IsSpelledFor u s index tile

-- a tile that was to be read for a write is not spelled as the format says
abbrev pub IsCutDamaged : Patch → BlocksState → Index → ℕ → Type 0
IsCutDamaged u s index tile = IsTrue s.honest → (CoversTile u tile → ⊥) × (IsSpelledFor u s index tile → ⊥)

-- these tiles were written as they are after a write, to the blocks taken
pub record AreWritten (u : Patch) (old : BlocksState) (index : Index) (tiles : List ℕ) (fresh : Fresh)
    (new : BlocksState) : Type 0 where
  pub tiles_are : tiles_of fresh.changes.items ≡ tiles
  pub entries : All (λ (x : ℕ × Option Entry). (e : Entry) → x.1 ≡ Some e → IsEntry e) fresh.changes.items
  pub counted : (k : ℕ) → times fresh.blocks.items k ≡ given fresh.changes.items k
  pub size : length fresh.blocks.items ≡ sum_by (λ (x : ℕ × Option Entry). entry_blocks x.1) fresh.changes.items
  pub whole : IsTrue old.honest → (k : ℕ) → 0 < times fresh.blocks.items k → length (block new k) ≡ block_bytes
  pub written : IsTrue old.honest
      → All (λ (x : ℕ × Option Entry). IsWritten u.kind new.content x.1 (patched u old index x.0)) fresh.changes.items
  pub read : IsTrue old.honest
      → All (λ (x : ℕ × Option Entry). CoversTile u x.0 ⊎ IsSpelledFor u old index x.0) fresh.changes.items

-- the same, where nothing is refused
abbrev pub Writes : {T : Type 0} → Result T Fault → Patch → BlocksState → Index → List ℕ → Fresh → BlocksState → Type 0
Writes result u old index tiles fresh new = OnOk result (AreWritten u old index tiles fresh new)

-- on an honest disk the blocks are no more than those of the new tiles
abbrev pub TakesFew : Patch → BlocksState → Index → List ℕ → List ℕ → Type 0
TakesFew u s index tiles taken = IsTrue s.honest → length taken ≤ new_blocks (blocks_after u s index) tiles

-- why the writing of tiles is refused
abbrev pub RefusesTiles : {T : Type 0} → Result T Fault → Patch → List ℕ → BlocksState → Index → Type 0
RefusesTiles result u tiles s index =
    Refuses result (HasDamaged u s index) (IsTrue s.honest → free_of s < new_blocks (blocks_after u s index) tiles)

-- changes are few, what they replace takes no more than the index, and that is short
pub record IsSized (index : Index) (changes : List (ℕ × Option Entry)) (tiles : List ℕ) : Type 0 where
  pub entries : All (λ (x : ℕ × Option Entry). (e : Entry) → x.1 ≡ Some e → IsEntry e) changes
  pub few : length changes ≤ max_points
  pub few_tiles : length tiles ≤ max_points
  pub less : replaced_bytes index tiles ≤ length (index_bytes index)
  pub short : length (index_bytes index) ≤ 4 + 48 * 2 ^ 32

-- the size of an index with the new tiles
abbrev pub IsSizeWith : List (ℕ × Entry) → Ready → Type 0
IsSizeWith index r =
    r.size + replaced_bytes index (tiles_of r.fresh.changes.items)
    ≡ length (index_bytes index) + given_bytes r.fresh.changes.items

-- the tiles of a patch are ready to be exchanged: written, with the blocks that they replace, and the new size of the
-- index
pub record IsReady (u : Patch) (old : BlocksState) (index : Index) (new : BlocksState) (r : Ready) : Type 0 where
  pub domain : IsDomain u.domain.now
  pub is_index : IsIndex index
  pub meeting : AreMeeting u.domain.now u.area.now (tiles_of r.fresh.changes.items)
  pub replaced : (k : ℕ) → times r.replaced.items k ≡ listed_for index (tiles_of r.fresh.changes.items) k
  pub written : AreWritten u old index (tiles_of r.fresh.changes.items) r.fresh new
  pub takes : Takes [] r.fresh.blocks.items old new
  pub size : IsSizeWith index r

-- an index may be exchanged: the tiles are below a bound, and each block that is given back is in use
pub record CanExchange (index : Index) (r : Ready) (s : BlocksState) : Type 0 where
  pub below : IsBelow max_points index
  pub changes : AreChanges max_points r.fresh.changes.items
  pub size : IsSizeWith index r
  pub taken : Covers s (times r.fresh.blocks.items)
  pub replaced : Covers s (times r.replaced.items)

-- the blocks that were taken are given back
abbrev pub GivesBack : Ready → BlocksState → BlocksState → Type 0
GivesBack r = Recounts (times r.fresh.blocks.items) none

-- an index was exchanged, and the blocks that were replaced were given back
pub record Exchanges (r : Ready) (old : BlocksState) (index : Index) (new : BlocksState) (index' : Index) : Type 0 where
  pub is_index : IsIndex index'
  pub changed : (t : ℕ) → found_at t index' ≡ changed_at t r.fresh.changes.items index
  pub given_back : Recounts (times r.replaced.items) none old new
