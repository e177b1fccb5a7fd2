-- What the tiles of a field say: a number at each point of its domain.
use Rattle.std.specs.Prelude.{◌≡◌, ℕ, ◌<◌, ℤ, pos, List, [], map, take, drop, length, slice_index_or, All, Option, Some, None}
use Rattle.std.specs.List.{flat_map}
use Rattle.arr_core.specs.declared.cell.FieldType.{FieldType}
use Rattle.arr_core.specs.declared.domain.Axis.{Axis}
use Rattle.arr_core.specs.Domains.{points, count, rank_of}
use Rattle.arr_core.specs.Tiles.{tile_box}
use Rattle.arr_core.specs.Meeting.{tile_number}
use Rattle.file_bytes.specs.declared.form.Form.{Form}
use Rattle.run_tile.specs.Raw.{Spells, cells_in, form_of}
use Rattle.tile_index.specs.declared.entry.Entry.{Entry}
use Rattle.tile_index.specs.Index.{found_at}
use Rattle.block_file.specs.State.{block_at}
use Rattle.tile_store.specs.Listing.{listed}

-- the bytes of a tile: those of its blocks in order, as many as its entry says
unfoldable pub entry_data : List ℕ → Entry → List ℕ
entry_data content e = take e.length (flat_map (block_at content) e.blocks)

-- what follows the bytes of a tile, to the end of its last block, is zeros
unfoldable pub IsPadded : List ℕ → Entry → Type 0
IsPadded content e = All (λ b. b ≡ 0) (drop e.length (flat_map (block_at content) e.blocks))

-- the cells that bytes read as in a form
unfoldable pub cells_read : Form → FieldType → List ℕ → List ℤ
cells_read form kind bytes = cells_in form kind bytes

-- the cells of a tile; one that is not listed has none
abbrev pub tile_cells : FieldType → List ℕ → Option Entry → List ℤ
tile_cells kind content None = []
tile_cells kind content (Some e) = cells_read e.form kind (entry_data content e)

-- bytes spell so many cells in a form
abbrev pub SpellsMany : Form → FieldType → List ℕ → ℕ → Type 0
SpellsMany form kind bytes n =
    Spells form kind bytes (cells_read form kind bytes) × (length (cells_read form kind bytes) ≡ n)

-- the stored number at a point: the one that its tile has there, and 0 where that tile is not listed
unfoldable pub number_at : FieldType → List Axis → List (ℕ × Entry) → List ℕ → List ℤ → ℤ
number_at kind domain index content p =
    let tile = tile_number domain p in
    slice_index_or (tile_cells kind content (found_at tile index)) (rank_of (tile_box domain tile) p) (pos 0)

-- the stored numbers of a field, one at each point of its domain in row-major order
unfoldable pub field_values : FieldType → List Axis → List (ℕ × Entry) → List ℕ → List ℤ
field_values kind domain index content = map (number_at kind domain index content) (points domain)

-- a tile is not listed, or its bytes spell as many cells as it has points
abbrev pub IsTileSpelled : FieldType → List Axis → List (ℕ × Entry) → List ℕ → ℕ → Type 0
IsTileSpelled kind domain index content tile =
    (e : Entry) → found_at tile index ≡ Some e
    → SpellsMany e.form kind (entry_data content e) (count (tile_box domain tile))

-- a tile is not listed, or zeros follow its bytes
abbrev pub IsTilePadded : List (ℕ × Entry) → List ℕ → ℕ → Type 0
IsTilePadded index content tile = (e : Entry) → found_at tile index ≡ Some e → IsPadded content e

-- a tile has no entry, or is in the form that its cells are written in: raw exactly where that takes fewer bytes
abbrev pub HasForm : FieldType → Option Entry → List ℤ → Type 0
HasForm kind entry cells = (e : Entry) → entry ≡ Some e → e.form ≡ form_of kind cells

-- each listed tile's bytes spell as many cells as the tile has points
unfoldable pub IsSpelled : FieldType → List Axis → List (ℕ × Entry) → List ℕ → Type 0
IsSpelled kind domain index content = (tile : ℕ) → IsTileSpelled kind domain index content tile

-- the listed blocks of one content are those of another
abbrev pub KeepsListed : List (ℕ × Entry) → List ℕ → List ℕ → Type 0
KeepsListed index old new = (k : ℕ) → 0 < listed index k → block_at new k ≡ block_at old k
