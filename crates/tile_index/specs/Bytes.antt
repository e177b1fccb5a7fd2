-- The bytes of an index, every number in 32 bits with the lowest byte first: how many entries there
-- are, and then for each entry its tile, its form and length, and its blocks.
use Rattle.std.specs.Prelude.{◌≡◌, ℕ, ◌+◌, ◌^◌, List, ◌++◌, length, flat_map}
use Rattle.byteorder.specs.Endian.{little_bytes}
use Rattle.tile_index.specs.declared.entry.Entry.{Entry}
use Rattle.file_bytes.specs.declared.form.Form.{Form}
use Rattle.file_bytes.specs.declared.form.Form.TheVariants.{Runs, Raw}
use Rattle.file_bytes.specs.declared.form.Version.{Version}
use Rattle.tile_index.specs.Entries.{AreOf}
use Rattle.tile_index.specs.Index.{IsIndex}

-- the bytes of one number
abbrev pub number_bytes : ℕ → List ℕ
number_bytes n = little_bytes 4 n

-- the number that tells a tile's form and length: its highest bit is set for raw cells
abbrev pub length_number : Form → ℕ → ℕ
length_number Runs n = n
length_number Raw n = 2 ^ 31 + n

-- the bytes of one tile and its entry
unfoldable pub entry_bytes : ℕ × Entry → List ℕ
entry_bytes x = number_bytes x.0 ++
    (number_bytes (length_number x.1.form x.1.length) ++ flat_map number_bytes x.1.blocks)

-- the bytes of an index
unfoldable pub index_bytes : List (ℕ × Entry) → List ℕ
index_bytes index = number_bytes (length index) ++ flat_map entry_bytes index

-- the bytes are those of no index in a file of this version
abbrev pub IsOfNoIndex : Version → List ℕ → Type 0
IsOfNoIndex version bytes =
    (index : List (ℕ × Entry)) → IsIndex index → AreOf version index → bytes ≡ index_bytes index → ⊥

-- the bytes are those of no other index
abbrev pub IsOfNoOther : List ℕ → List (ℕ × Entry) → Type 0
IsOfNoOther bytes index = (other : List (ℕ × Entry)) → IsIndex other → bytes ≡ index_bytes other → other ≡ index
