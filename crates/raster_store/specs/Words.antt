-- What the calls of a store do to it, from its view before to its view after. Of the blocks below, what their state
-- tells.
use Rattle.std.specs.Prelude.{◌≡◌, ℕ, ◌<◌, ◌≤◌, ℤ, IsTrue, List, [], ◌∷◌, ◌++◌, map, replicate, IsSomeAnd}
use Rattle.arr_core.specs.declared.cell.Cell.{Cell}
use Rattle.arr_core.specs.declared.domain.Axis.{Axis}
use Rattle.arr_core.specs.declared.signature.Signature.{Signature}
use Rattle.arr_core.specs.Cells.{stored}
use Rattle.arr_core.specs.Domains.{count}
use Rattle.arr_core.specs.Stores.{found, inserted, deleted, updated}
use Rattle.block_file.specs.State.{BlocksState, free_of, none}
use Rattle.block_file.specs.Words.{OnlyReads, Recounts, Moves}
use Rattle.block_file.specs.Growth.{GrowsBy}
use Rattle.disk_face.specs.Disk.{Tells}
use Rattle.tile_store.specs.declared.fault.Fault.TheVariants as device
use Rattle.tile_store.specs.Listing.{UsesOnce}
use Rattle.raster_store.specs.declared.fault.WriteFault.{WriteFault}
use Rattle.raster_store.specs.declared.fault.WriteFault.TheVariants.{Device}
use Rattle.raster_store.specs.Views.{Index, RasterView, coverage_in, AreIntact, AreBelow, listed_all, reserve}
use Rattle.raster_store.specs.Calls.{signature_of, AreSameSignatures, HasNumbers, NeedBlocks, RefusesCells, LacksRoomFor, blocks_with}
use Rattle.raster_store.specs.Calls.{filled, indexes_with, indexes_without}
use Rattle.raster_store.specs.Fetches.{IsDamagedUnder}
use Rattle.raster_store.specs.Tiles.{KeepsTiles, WritesTiles}

-- something is true of the states of the blocks before and after
abbrev pub OnBlocks : {B : Type 0} → (B → BlocksState) → (BlocksState → BlocksState → Type 0)
    → RasterView B → RasterView B → Type 0
OnBlocks state R old new = R (state old.blocks) (state new.blocks)

-- what an answer tells of the disk's failures
abbrev pub TellsFault : {B : Type 0} → Type 0 → (B → BlocksState) → RasterView B → RasterView B → Type 0
TellsFault fault state old new = Tells fault (state old.blocks).failures (state new.blocks).failures

-- every listed tile spells its cells
abbrev pub IsIntact : {B : Type 0} → (B → BlocksState) → RasterView B → Type 0
IsIntact state v = AreIntact (state v.blocks).content v.coverages v.indexes

-- a call that only fetches has left the coverages, their indexes and the blocks as they were, and read no block that is
-- not whole
pub record OnlyFetches {B : Type 0} (state : B → BlocksState) (old new : RasterView B) : Type 0 where
  pub coverages : new.coverages ≡ old.coverages
  pub indexes : new.indexes ≡ old.indexes
  pub snapshots : new.snapshots ≡ old.snapshots
  pub reads : OnlyReads none (state old.blocks) (state new.blocks)

-- The coverages are what they were, on an honest disk with their values, and so are their indexes and the count of
-- fetched tiles.
pub record SameCoverages {B : Type 0} (state : B → BlocksState) (old new : RasterView B) : Type 0 where
  pub signatures : AreSameSignatures old.coverages new.coverages
  pub coverages : IsTrue (state old.blocks).honest → new.coverages ≡ old.coverages
  pub indexes : new.indexes ≡ old.indexes
  pub fetched : new.fetched ≡ old.fetched

-- a call that may have written to free blocks has left the coverages, and each block in use, as they were, and each
-- tile that was spelled is
pub record Stays {B : Type 0} (state : B → BlocksState) (old new : RasterView B) : Type 0 where
  pub same : SameCoverages state old new
  pub moves : Moves none none (state old.blocks) (state new.blocks)
  pub tiles : KeepsTiles state old new

-- where every listed tile spelled its cells, every one does
abbrev pub Keeps : {B : Type 0} → (B → BlocksState) → RasterView B → RasterView B → Type 0
Keeps state old new = IsTrue (state old.blocks).honest → IsIntact state old → IsIntact state new

-- a coverage came whose tiles lie in the blocks already
pub record Attaches {B : Type 0} (state : B → BlocksState) (s : Signature) (fields : List Index)
    (old new : RasterView B) : Type 0 where
  pub coverages : new.coverages ≡ old.coverages ++ coverage_in (state old.blocks).content s fields ∷ []
  pub indexes : new.indexes ≡ old.indexes ++ fields ∷ []
  pub below : AreBelow s.domain fields
  pub fetched : new.fetched ≡ old.fetched

-- a coverage came that is 0 or false everywhere, and so many blocks are free that the metadata has room
pub record Creates {B : Type 0} (state : B → BlocksState) (s : Signature) (catalogue : ℕ)
    (old new : RasterView B) : Type 0 where
  pub coverages : new.coverages ≡ inserted s.name s.domain s.fields old.coverages
  pub indexes : new.indexes ≡ indexes_with s old.indexes
  pub room : reserve catalogue new.indexes ≤ free_of (state new.blocks)
  pub intact : IsIntact state old → IsIntact state new

-- fewer blocks are free than the metadata takes with a coverage more
abbrev pub LacksRoomToCreate : {B : Type 0} → (B → BlocksState) → Signature → ℕ → RasterView B → Type 0
LacksRoomToCreate state s catalogue v = free_of (state v.blocks) < reserve catalogue (indexes_with s v.indexes)

-- What a write of numbers, as these cells are stored, into a box of a field has done: function update on the box, and
-- what becomes of the tiles, where the disk is honest. What other indexes list is kept, a block that was free is in use
-- once at most, and so many blocks are free that the metadata has room.
pub record Writes {B : Type 0} (state : B → BlocksState) (name : List ℕ) (field : ℕ) (area : List Axis)
    (numbers : List ℤ) (catalogue : ℕ) (old new : RasterView B) : Type 0 where
  pub coverages : IsTrue (state old.blocks).honest → new.coverages ≡ updated name field area numbers old.coverages
  pub signatures : AreSameSignatures old.coverages new.coverages
  pub tiles : IsTrue (state old.blocks).honest → WritesTiles state name field area old new
  pub moves : Moves (listed_all old.indexes) (listed_all new.indexes) (state old.blocks) (state new.blocks)
  pub once : UsesOnce (state old.blocks) (state new.blocks)
  pub room : reserve catalogue new.indexes ≤ free_of (state new.blocks)

-- cells were written into a box of a field
abbrev pub WritesBox : {B : Type 0} → (B → BlocksState) → List ℕ → ℕ → List Axis → List Cell → ℕ
    → RasterView B → RasterView B → Type 0
WritesBox state name field area cells catalogue old new =
    HasNumbers name field area cells old.coverages × Writes state name field area (map stored cells) catalogue old new

-- one cell was written at every point of a box of a field
abbrev pub FillsBox : {B : Type 0} → (B → BlocksState) → List ℕ → ℕ → List Axis → Cell → ℕ
    → RasterView B → RasterView B → Type 0
FillsBox state name field area cell catalogue old new =
    HasNumbers name field area (filled area cell) old.coverages
    × Writes state name field area (replicate (count area) (stored cell)) catalogue old new

-- fewer blocks are free than a write of numbers needs, if the disk is honest
abbrev pub LacksRoomToWrite : {B : Type 0} → (B → BlocksState) → List ℕ → ℕ → List Axis → List ℤ → ℕ
    → RasterView B → Type 0
LacksRoomToWrite state name field area numbers catalogue v =
    IsTrue (state v.blocks).honest
    → LacksRoomFor name field area numbers catalogue (state v.blocks) v.coverages v.indexes

-- However a write of numbers into a box of a field ended, the file of an honest disk has grown by no more than the
-- blocks of the new tiles.
abbrev pub GrowsToWrite : {B : Type 0} → (B → BlocksState) → List ℕ → ℕ → List Axis → List ℤ
    → RasterView B → RasterView B → Type 0
GrowsToWrite state name field area numbers old new =
    IsTrue (state old.blocks).honest
    → (n : ℕ) → NeedBlocks (λ c f i. blocks_with c f i (state old.blocks).content area numbers) name field area
    old.coverages
    old.indexes n
    → GrowsBy n (state old.blocks) (state new.blocks)

-- the same of one cell at every point of a box
abbrev pub GrowsToFill : {B : Type 0} → (B → BlocksState) → List ℕ → ℕ → List Axis → Cell → RasterView B → RasterView B
    → Type 0
GrowsToFill state name field area cell old new =
    GrowsToWrite state name field area (replicate (count area) (stored cell)) old new

-- Why cells are not written into a box: for the first that is wrong of the box, the number of cells, and their types;
-- and where these are right, for the device, for room only where it was wanting, and as damaged only where a tile was
-- that the box meets and does not cover.
pub record RefusesWrite {B : Type 0} (state : B → BlocksState) (name : List ℕ) (field : ℕ) (area : List Axis)
    (cells : List Cell) (numbers : List ℤ) (catalogue : ℕ) (v : RasterView B) (fault : WriteFault) : Type 0 where
  pub for_cells : IsSomeAnd (found name v.coverages) (λ c. RefusesCells (signature_of c) field area cells fault)
  pub for_room : fault ≡ Device device.NoRoom → LacksRoomToWrite state name field area numbers catalogue v
  pub for_damage : fault ≡ Device device.Damaged → IsDamagedUnder state name field area v

abbrev pub RefusesBox : {B : Type 0} → (B → BlocksState) → List ℕ → ℕ → List Axis → List Cell → ℕ
    → RasterView B → WriteFault → Type 0
RefusesBox state name field area cells catalogue v fault =
    RefusesWrite state name field area cells (map stored cells) catalogue v fault

abbrev pub RefusesFill : {B : Type 0} → (B → BlocksState) → List ℕ → ℕ → List Axis → Cell → ℕ
    → RasterView B → WriteFault → Type 0
RefusesFill state name field area cell catalogue v fault =
    RefusesWrite state name field area (filled area cell) (replicate (count area) (stored cell)) catalogue v fault

-- the coverage with a name went, if there was one, and gave up what its indexes list
pub record Removes {B : Type 0} (state : B → BlocksState) (name : List ℕ) (old new : RasterView B) : Type 0 where
  pub coverages : new.coverages ≡ deleted name old.coverages
  pub indexes : new.indexes ≡ indexes_without name old.coverages old.indexes
  pub snapshots : new.snapshots ≡ old.snapshots
  pub recounts : Recounts (listed_all old.indexes) (listed_all new.indexes) (state old.blocks) (state new.blocks)
  pub intact : IsIntact state old → IsIntact state new
  pub fetched : new.fetched ≡ old.fetched
