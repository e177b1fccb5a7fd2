-- Cells that are read at places in the order of their tiles.
use Rattle.std.specs.Prelude.{◌≡◌, ℕ, ◌<◌, ℤ, pos, List, [], length, slice_get, slice_index_or}
use Rattle.std.specs.List.{All}
use Rattle.arr_core.specs.Domains.{count}
use Rattle.tile_columns.specs.declared.gather.Reading.{Reading}
use Rattle.tile_columns.specs.declared.scratch.Scratch.{Scratch}
use Rattle.tile_columns.specs.declared.spots.Spot.{Spot}
use Rattle.tile_columns.specs.Sources.{SourceState, HasTile, box_in, ArePicked}
use Rattle.tile_columns.specs.Readings.{tiles_of, ranks_of, cell_read}
use Rattle.tile_columns.specs.Spots.{AreInOrder}

-- there is such a tile of the field that is read, and ranks are within it
abbrev pub IsTileRead : {K : Type 0} → SourceState K → Reading → ℕ → Type 0
IsTileRead s r tile = HasTile (slice_get s.coverages r.coverage) r.field tile

abbrev pub AreRanksOf : {K : Type 0} → SourceState K → Reading → ℕ → List ℕ → Type 0
AreRanksOf s r tile ranks = All (λ (n : ℕ). n < count (box_in s r.coverage tile)) ranks

-- the cells of a tile at the ranks that were wanted have been picked
abbrev pub PicksWanted : {K : Type 0} → SourceState K → Reading → ℕ → Scratch → Scratch → Type 0
PicksWanted s r tile old new = ArePicked s r.coverage r.field tile old.wanted.items new.picked.items

-- the places in their order and the cells stay as they are
pub record KeepsPlaces (old new : Scratch) : Type 0 where
  pub spots : new.spots.items ≡ old.spots.items
  pub cells : new.cells.items ≡ old.cells.items

-- the scratch has the places in the order of their tiles, and as many cells
pub record IsOrdered (r : Reading) (envs : List (List ℤ)) (s : Scratch) : Type 0 where
  pub spots : AreInOrder (tiles_of r envs) (ranks_of r envs) s.spots.items
  pub cells : length s.cells.items ≡ length envs

-- the places stay in their order, and there are as many cells
pub record KeepsSpots (old new : Scratch) : Type 0 where
  pub spots : new.spots.items ≡ old.spots.items
  pub cells : length new.cells.items ≡ length old.cells.items

-- the scratch has the cells that are read at the first n places in their order
abbrev pub HasRead : {K : Type 0} → SourceState K → Reading → List (List ℤ) → Scratch → ℕ → Type 0
HasRead s r envs scratch n =
    (k : ℕ) (d : Spot) → k < n → k < length scratch.spots.items
    → slice_index_or scratch.cells.items (slice_index_or scratch.spots.items k d).place (pos 0) ≡ cell_read s r
    (slice_index_or envs (slice_index_or scratch.spots.items k d).place [])

-- if it has those of the first places before a call, it has those up to another one after it
abbrev pub KeepsRead : {K : Type 0} → SourceState K → Reading → List (List ℤ) → Scratch → Scratch → ℕ → ℕ → Type 0
KeepsRead s r envs old new from to = s.intact → HasRead s r envs old from → HasRead s r envs new to
