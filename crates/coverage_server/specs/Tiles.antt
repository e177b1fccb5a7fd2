-- The coverages that a query reads, by their places, and the cells that are fetched of them.
use Rattle.std.specs.Prelude.{◌≡◌, ℕ, ℤ, nat_eq, cond, IsTrue, List, [], map, All, Option, Some, None}
use Rattle.std.specs.Prelude.{option_and_then, slice_get}
use Rattle.arr_core.specs.declared.signature.Signature.{Signature}
use Rattle.arr_core.specs.Domains.{IsDomain}
use Rattle.arr_core.specs.Stores.{Coverage, Store, found}
use Rattle.raster_store.specs.Calls.{signature_of}
use Rattle.raster_store.specs.Fetches.{IsSpelledAt, AreRankedCells}
use Rattle.raster_store.specs.Snapshots.{held_for}
use Rattle.raster_store.specs.Views.{Index, SnapshotView}
use Rattle.raster_store.specs.declared.reading.TileAt.{TileAt}
use Rattle.tile_columns.specs.Sources.{SourceState}
use Rattle.tile_store.specs.declared.fault.Fault.{Fault}
use Rattle.tile_store.specs.declared.fault.Fault.TheVariants as device
use Rattle.wcps_mean.specs.declared.cells.CellError.{CellError}
use Rattle.wcps_mean.specs.declared.cells.CellError.TheVariants.{NoMemory, DiskFault, Damaged}
use Rattle.coverage_server.specs.Asking.{cells_of, number_in}
use Rattle.coverage_server.specs.Damage.{IsSpelledPlace}
use Rattle.coverage_server.specs.Views.{ServerView, still_of}

-- the coverages that are held, and where nothing is held others
abbrev pub held_or : Option SnapshotView → Store → Store
held_or None store = store
held_or (Some x) store = x.coverages

-- What a number reads: the coverages that are held for it, and for number 0 those of the store as it is where nothing
-- is.
abbrev pub store_for : ℕ → ServerView → Store
store_for job v = held_or (held_for job v.held) (cond (nat_eq job 0) v.store [])

-- and the indexes of these
abbrev pub indexes_or : Option SnapshotView → List (List Index) → List (List Index)
indexes_or None indexes = indexes
indexes_or (Some x) indexes = x.indexes

abbrev pub indexes_for : ℕ → ServerView → List (List Index)
indexes_for job v = indexes_or (held_for job v.held) (cond (nat_eq job 0) v.indexes [])

-- on an honest disk cells are those of a tile of what a number reads, at ranks
abbrev pub ArePickedFor : ℕ → TileAt → List ℕ → ServerView → List ℤ → Type 0
ArePickedFor job at ranks v cells = IsTrue v.honest → AreRankedCells at ranks (store_for job v) cells

-- a tile of what a number reads is spelled; and so is each tile of the coverages at places there
abbrev pub IsSpelledFor : ℕ → TileAt → ServerView → Type 0
IsSpelledFor job at v = IsSpelledAt at v.content (store_for job v) (indexes_for job v)

abbrev pub ArePlacesSpelled : ℕ → List ℕ → ServerView → Type 0
ArePlacesSpelled job places v = All (IsSpelledPlace v.content (store_for job v) (indexes_for job v)) places

-- the signature of a coverage, and where there is none one without fields
abbrev pub signature_or_none : Option Coverage → Signature
signature_or_none None = record { name = []; domain = []; fields = [] }
signature_or_none (Some c) = signature_of c

-- the signatures of the coverages at places of a store
abbrev pub signatures_at : Store → List ℕ → List Signature
signatures_at store places = map (λ (place : ℕ). signature_or_none (slice_get store place)) places

-- the cells of the coverages at places of a store: by a place among these, a field's place in the coverage, and a point
abbrev pub cells_at : Store → List ℕ → ℕ → ℕ → List ℤ → ℤ
cells_at store places n field point =
    number_in (option_and_then (λ (place : ℕ). slice_get store place) (slice_get places n)) field point

-- at the places are the coverages with the names of these
abbrev pub ArePlaces : Store → List Signature → List ℕ → Type 0
ArePlaces store asked places =
    map (λ (place : ℕ). slice_get store place) places ≡ map (λ (s : Signature). found s.name store) asked

-- each has a domain
abbrev pub HaveDomains : List Signature → Type 0
HaveDomains asked = All (λ (s : Signature). IsDomain s.domain) asked

-- Coverages of a store are read by their places: they have these signatures, and their cells are those of the coverages
-- with these names.
pub record AreRead (store : Store) (asked : List Signature) (places : List ℕ) : Type 0 where
  pub coverages : signatures_at store places ≡ asked
  pub cells : cells_at store places ≡ cells_of store asked
  pub domains : HaveDomains asked

-- the disk is honest, and the coverages that are read have domains
pub record ReadsHonest (v : ServerView) (asked : List Signature) : Type 0 where
  pub honest : IsTrue v.honest
  pub domains : HaveDomains asked

-- the disk is honest, and each tile of the coverages that are read is spelled
pub record ReadsSpelled (v : ServerView) (job : ℕ) (places : List ℕ) : Type 0 where
  pub honest : IsTrue v.honest
  pub spelled : ArePlacesSpelled job places v

-- what reading leaves as it is: of the coverages all but counts and caches, the number that reads, and the places
abbrev pub AskedKept : Type 0
AskedKept = ServerView × ℕ × List ℕ

-- the coverages at places of what a number reads, as a source of tiles
abbrev pub asked_state : ℕ → List ℕ → ServerView → SourceState AskedKept
asked_state job places v = record {
  coverages = signatures_at (store_for job v) places;
  cells = cells_at (store_for job v) places;
  fetched = v.fetched;
  failures = v.failures;
  intact = ReadsHonest v (signatures_at (store_for job v) places);
  kept = (still_of v, job, places);
}

-- how a fault is told to a query; room is never wanting there
abbrev pub TellsCells : Fault → CellError → Type 0
TellsCells device.NoMemory e = e ≡ NoMemory
TellsCells device.DiskFault e = e ≡ DiskFault
TellsCells device.NoRoom e = ⊥
TellsCells device.Damaged e = e ≡ Damaged
