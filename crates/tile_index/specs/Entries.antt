-- Where the bytes of a tile lie.
use Rattle.std.specs.Prelude.{◌≡◌, ℕ, ◌<◌, ◌≤◌, ◌^◌, List, length, All}
use Rattle.file_bytes.specs.declared.form.Form.{Form}
use Rattle.file_bytes.specs.declared.form.Form.TheVariants.{Runs, Raw}
use Rattle.file_bytes.specs.declared.form.Version.{Version}
use Rattle.file_bytes.specs.declared.form.Version.TheVariants.{One, Two}
use Rattle.file_bytes.specs.Limits.{blocks_filled}
use Rattle.tile_index.specs.declared.entry.Entry.{Entry}

-- the most bytes of a tile: 4,096 runs of 10, or 4,096 cells of 8
abbrev pub most_bytes : Form → ℕ
most_bytes Runs = 40960
most_bytes Raw = 32768

-- an entry: 1 to so many bytes, in as many blocks as they fill, whose numbers have 32 bits
pub record IsEntry (e : Entry) : Type 0 where
  pub some : 1 ≤ e.length
  pub few : e.length ≤ most_bytes e.form
  pub filled : length e.blocks ≡ blocks_filled e.length
  pub numbers : All (λ b. b < 2 ^ 32) e.blocks

-- the tiles of a file of version 1 are runs
abbrev pub AreOf : Version → List (ℕ × Entry) → Type 0
AreOf One index = All (λ (x : ℕ × Entry). x.1.form ≡ Runs) index
AreOf Two index = Unit {0}
