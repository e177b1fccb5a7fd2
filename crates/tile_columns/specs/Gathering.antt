-- Cells that are gathered tile by tile.
use Rattle.std.specs.Prelude.{◌≡◌, ◌≢◌, ℕ, ◌+◌, ◌<◌, nat_eq, ℤ, pos, List, [], length, take, true, slice_index_or}
use Rattle.std.specs.List.{list_any}
use Rattle.plan_ir.specs.Units.{distinct}
use Rattle.tile_columns.specs.declared.gather.Reading.{Reading}
use Rattle.tile_columns.specs.declared.scratch.Scratch.{Scratch}
use Rattle.tile_columns.specs.Sources.{SourceState}
use Rattle.tile_columns.specs.Readings.{tiles_of, ranks_of, cell_read}

-- a number is in the list
abbrev pub IsSeen : List ℕ → ℕ → Type 0
IsSeen seen n = list_any (λ m. nat_eq m n) seen ≡ true

-- the ranks at the places whose tile is this one are within its cells
abbrev pub HasRanks : ℕ → List ℕ → List ℕ → List ℤ → Type 0
HasRanks number numbers ranks tile =
    (j : ℕ) → j < length numbers → slice_index_or numbers j 0 ≡ number → slice_index_or ranks j 0 < length tile

-- the cells of a tile were written at the places whose tile it is, and there alone
pub record CopiesTile (number : ℕ) (numbers ranks : List ℕ) (tile before cells : List ℤ) : Type 0 where
  pub places : length cells ≡ length before
  pub copied : (j : ℕ) → j < length numbers → slice_index_or numbers j 0 ≡ number
      → slice_index_or cells j (pos 0) ≡ slice_index_or tile (slice_index_or ranks j 0) (pos 0)
  pub kept : (j : ℕ) → j < length numbers → slice_index_or numbers j 0 ≢ number
      → slice_index_or cells j (pos 0) ≡ slice_index_or before j (pos 0)

-- the scratch has the tiles of the places, the ranks in these, and as many cells
pub record IsLocated (r : Reading) (envs : List (List ℤ)) (s : Scratch) : Type 0 where
  pub tiles : s.numbers.items ≡ tiles_of r envs
  pub ranks : s.ranks.items ≡ ranks_of r envs
  pub cells : length s.cells.items ≡ length envs

-- the different tiles of the places are listed, and more than k of them
abbrev pub AreListed : Reading → List (List ℤ) → Scratch → Type 0
AreListed r envs s = s.seen.items ≡ distinct (tiles_of r envs)

abbrev pub IsListed : Reading → List (List ℤ) → ℕ → Scratch → Type 0
IsListed r envs k s = (k < length s.seen.items) × AreListed r envs s

-- the scratch has the cells of the first n of the tiles that are listed
abbrev pub HasGathered : {K : Type 0} → SourceState K → Reading → List (List ℤ) → ℕ → Scratch → Type 0
HasGathered s r envs n scratch =
    (j : ℕ) → j < length scratch.numbers.items
    → IsSeen (take n scratch.seen.items) (slice_index_or scratch.numbers.items j 0)
    → slice_index_or scratch.cells.items j (pos 0) ≡ cell_read s r (slice_index_or envs j [])

-- if it has them before a call, it has those of the next tile too after it
abbrev pub KeepsGathered : {K : Type 0} → SourceState K → Reading → List (List ℤ) → ℕ → Scratch → Scratch → Type 0
KeepsGathered s r envs n old new = s.intact → HasGathered s r envs n old → HasGathered s r envs (n + 1) new

-- the cells of the tile that was fetched were written at the places whose tile it is, and nothing else has changed
pub record WritesTile (number : ℕ) (old new : Scratch) : Type 0 where
  pub cells : CopiesTile number old.numbers.items old.ranks.items old.tile.items old.cells.items new.cells.items
  pub tiles : new.numbers.items ≡ old.numbers.items
  pub ranks : new.ranks.items ≡ old.ranks.items
  pub seen : new.seen.items ≡ old.seen.items
