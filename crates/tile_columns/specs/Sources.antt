-- Where tiles come from.
use Rattle.std.specs.Prelude.{◌≡◌, ℕ, ◌+◌, ◌-◌, ◌^◌, ◌<◌, ◌≤◌, min, ℤ, List, [], map, length, slice_get, slice_index_or, Option, Some, None, Result}
use Rattle.arr_core.specs.declared.domain.Axis.{Axis}
use Rattle.arr_core.specs.declared.signature.Signature.{Signature}
use Rattle.arr_core.specs.Domains.{points}
use Rattle.arr_core.specs.Tiles.{tile_boxes, tile_box}
use Rattle.wcps_mean.specs.declared.cells.CellError.{CellError}
use Rattle.wcps_mean.specs.Reports.{Reports}

-- a count in a `u64`, which stays at its last value, after one more
abbrev pub OneMore : ℕ → ℕ → Type 0
OneMore old new = new ≡ min (2 ^ 64 - 1) (old + 1)

-- there is such a coverage, field and tile
abbrev pub HasTile : Option Signature → ℕ → ℕ → Type 0
HasTile None field tile = ⊥
HasTile (Some c) field tile = (field < length c.fields) × (tile < length (tile_boxes c.domain))

-- the box of a tile
abbrev pub box_of : Option Signature → ℕ → List Axis
box_of None tile = []
box_of (Some c) tile = tile_box c.domain tile

-- the coverage is there, and has that field and that domain
abbrev pub IsRead : Option Signature → ℕ → List Axis → Type 0
IsRead None field domain = ⊥
IsRead (Some c) field domain = (field < length c.fields) × (c.domain ≡ domain)

-- A source of tiles, as of one moment: its coverages, by their places; the cell of a coverage and of a field, by their
-- places, at each point, a Boolean as 0 or 1; how many tiles were fetched, and how many calls of the disk below have
-- failed, both in a `u64`; whether what is kept is given back as it was written, without which nothing is said of the
-- cells; and what calls leave as it is besides.
pub record SourceState (K : Type 0) : Type 1 where
  pub coverages : List Signature
  pub cells : ℕ → ℕ → List ℤ → ℤ
  pub fetched : ℕ
  pub failures : ℕ
  pub intact : Type 0
  pub kept : K

-- Tiles were read, and nothing has changed but the two counts and what is cached.
pub record OnlyReads {K : Type 0} (old new : SourceState K) : Type 0 where
  pub coverages : new.coverages ≡ old.coverages
  pub cells : new.cells ≡ old.cells
  pub kept : new.kept ≡ old.kept
  pub rises : old.fetched ≤ new.fetched
  pub intact : old.intact → new.intact

-- A call that was done leaves the count of failures. A refused one tells a failed disk only where that count rose or
-- stands at its last value, and damage only where what is kept is not spelled, each tile in its format.
abbrev pub Tells : {A K : Type 0} → (K → Type 0) → Result A CellError → SourceState K → SourceState K → Type 0
Tells spelled result old new = Reports result (spelled old.kept) old.failures new.failures

-- so many tiles were fetched at most
abbrev pub FetchesAtMost : {K : Type 0} → ℕ → SourceState K → SourceState K → Type 0
FetchesAtMost n old new = new.fetched ≤ old.fetched + n

-- the box of a tile of a source
abbrev pub box_in : {K : Type 0} → SourceState K → ℕ → ℕ → List Axis
box_in s coverage tile = box_of (slice_get s.coverages coverage) tile

-- cells are those of a tile
abbrev pub AreOfTile : {K : Type 0} → SourceState K → ℕ → ℕ → ℕ → List ℤ → Type 0
AreOfTile s coverage field tile cells =
    s.intact → cells ≡ map (s.cells coverage field) (points (box_in s coverage tile))

-- cells are those of a tile at ranks in its box
abbrev pub ArePicked : {K : Type 0} → SourceState K → ℕ → ℕ → ℕ → List ℕ → List ℤ → Type 0
ArePicked s coverage field tile ranks cells =
    s.intact → cells ≡ map (λ r. s.cells coverage field (slice_index_or (points (box_in s coverage tile)) r [])) ranks
