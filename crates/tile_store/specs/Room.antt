-- How many blocks a write needs: those of the new tiles, and those that the metadata takes when the file is closed.
use Rattle.std.specs.Prelude.{◌↔◌, ℕ, zero, suc, ◌+◌, ◌-◌, ◌*◌, ◌≤◌, ℤ, pos, List, map, length, sum_by, slice_index_or, Contains, Option, Some, None, if◌then◌else◌}
use Rattle.std.specs.List.{list_all}
use Rattle.std.specs.List.Sorted.{IsStrictlyIncreasing}
use Rattle.std.specs.Ordering.{int_eq}
use Rattle.arr_core.specs.declared.cell.FieldType.{FieldType}
use Rattle.arr_core.specs.declared.domain.Axis.{Axis}
use Rattle.arr_core.specs.Domains.{points, is_inside, rank_of}
use Rattle.arr_core.specs.Tiles.{tile_box, TileMeets}
use Rattle.run_tile.specs.Raw.{tile_size}
use Rattle.tile_index.specs.declared.entry.Entry.{Entry}
use Rattle.file_bytes.specs.Limits.{blocks_filled}
use Rattle.tile_index.specs.Index.{found_at}
use Rattle.tile_index.specs.Bytes.{index_bytes}
use Rattle.block_file.specs.Format.{chain_blocks}
use Rattle.tile_store.specs.Stored.{number_at}
use Rattle.block_file.specs.State.{BlocksState, free_of}

-- the tiles that have a point in common with a box, rising
pub record AreMeeting (domain area : List Axis) (tiles : List ℕ) : Type 0 where
  pub rising : IsStrictlyIncreasing tiles
  pub exact : (n : ℕ) → Contains tiles n ↔ TileMeets domain n area

-- how many blocks a tile with these cells takes: none where all are 0, else those that its
-- bytes fill in the shorter form
abbrev pub tile_blocks : FieldType → List ℤ → ℕ
tile_blocks kind cells = if list_all (int_eq (pos 0)) cells then 0 else blocks_filled (tile_size kind cells)

-- how many bytes a tile with so many blocks takes in an index; one without blocks is not listed
abbrev pub listed_bytes : ℕ → ℕ
listed_bytes zero = 0
listed_bytes (suc n) = 8 + 4 * suc n

abbrev pub entry_blocks : Option Entry → ℕ
entry_blocks None = 0
entry_blocks (Some e) = length e.blocks

-- the number at a point after a box's numbers are put there
abbrev pub patched_at : List Axis → List ℤ → (List ℤ → ℤ) → List ℤ → ℤ
patched_at area numbers old p = if is_inside area p then slice_index_or numbers (rank_of area p) (pos 0) else old p

-- the cells of a tile after a box's numbers are put into it
abbrev pub cells_after : FieldType → List Axis → List (ℕ × Entry) → List ℕ → List Axis → List ℤ → ℕ → List ℤ
cells_after kind domain index content area numbers tile =
    map (patched_at area numbers (number_at kind domain index content)) (points (tile_box domain tile))

-- how many blocks the new tiles take, if a tile's new cells take so many
abbrev pub new_blocks : (ℕ → ℕ) → List ℕ → ℕ
new_blocks blocks tiles = sum_by blocks tiles

-- how many bytes the entries of tiles take in an index, and how many changes give it
abbrev pub replaced_bytes : List (ℕ × Entry) → List ℕ → ℕ
replaced_bytes index tiles = sum_by (λ t. listed_bytes (entry_blocks (found_at t index))) tiles

abbrev pub given_bytes : List (ℕ × Option Entry) → ℕ
given_bytes changes = sum_by (λ (x : ℕ × Option Entry). listed_bytes (entry_blocks x.1)) changes

-- how many bytes the index has after the new tiles have come
abbrev pub index_size_after : (ℕ → ℕ) → List (ℕ × Entry) → List ℕ → ℕ
index_size_after blocks index tiles =
    (length (index_bytes index) + sum_by (λ t. listed_bytes (blocks t)) tiles) - replaced_bytes index tiles

-- how many blocks a write needs, where the rest of the metadata has `rest` bytes
abbrev pub room_for : (ℕ → ℕ) → List (ℕ × Entry) → List ℕ → ℕ → ℕ
room_for blocks index tiles rest = new_blocks blocks tiles + chain_blocks (rest + index_size_after blocks index tiles)

-- so many blocks stay free for an index and metadata of `rest` bytes besides
abbrev pub HasRoom : ℕ → List (ℕ × Entry) → BlocksState → Type 0
HasRoom rest index s = chain_blocks (rest + length (index_bytes index)) ≤ free_of s
