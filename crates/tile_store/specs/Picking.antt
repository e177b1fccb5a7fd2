-- Cells of a tile at ranks, read without the others.
use Rattle.std.specs.Prelude.{◌≡◌, ℕ, ◌<◌, ℤ, pos, IsTrue, List, length, slice_index_or, Option, Some}
use Rattle.arr_core.specs.declared.cell.FieldType.{FieldType}
use Rattle.block_file.specs.State.{BlocksState, block, times}
use Rattle.block_file.specs.Words.{Covers}
use Rattle.file_bytes.specs.declared.form.Form.{Form}
use Rattle.file_bytes.specs.Limits.{block_bytes}
pub use Rattle.run_tile.specs.Picking.{picked, AreRanks}
use Rattle.tile_index.specs.declared.entry.Entry.{Entry}
use Rattle.tile_index.specs.Entries.{IsEntry}
use Rattle.tile_store.specs.Stored.{entry_data, cells_read}

-- the blocks of an entry are in use, and whole on an honest disk
pub record IsEntryIn (s : BlocksState) (e : Entry) : Type 0 where
  pub is_entry : IsEntry e
  pub used : Covers s (times e.blocks)
  pub whole : IsTrue s.honest → (k : ℕ) → 0 < times e.blocks k → length (block s k) ≡ block_bytes

-- the cells that the bytes of an entry read as in a form
abbrev pub cells_as : Form → FieldType → BlocksState → Entry → List ℤ
cells_as form kind s e = cells_read form kind (entry_data s.content e)

-- the bytes that were read last, if any were, are what the block with their number holds
abbrev pub IsLast : BlocksState → Option ℕ → List ℕ → Type 0
IsLast s last bytes = IsTrue s.honest → (k : ℕ) → last ≡ Some k → bytes ≡ block s k

-- on an honest disk this is the cell at a rank of an entry's
abbrev pub IsPick : Form → FieldType → BlocksState → Entry → ℕ → ℤ → Type 0
IsPick form kind s e rank z = IsTrue s.honest → z ≡ slice_index_or (cells_as form kind s e) rank (pos 0)

-- these are the cells at ranks of an entry's; or there is none at one of them
abbrev pub ArePicks : Form → FieldType → BlocksState → Entry → List ℕ → List ℤ → Type 0
ArePicks form kind s e ranks cells = IsTrue s.honest → cells ≡ picked (cells_as form kind s e) ranks

abbrev pub LackPicks : Form → FieldType → BlocksState → Entry → List ℕ → Type 0
LackPicks form kind s e ranks = IsTrue s.honest → AreRanks (cells_as form kind s e) ranks → ⊥
