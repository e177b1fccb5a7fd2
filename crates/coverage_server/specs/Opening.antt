-- What the parts of an opening make of a file.
use Rattle.std.specs.Prelude.{◌≡◌, ℕ, ◌+◌, ◌<◌, ◌≤◌, IsTrue, List, [], ◌∷◌, ◌++◌, length, ⊤}
use Rattle.arr_core.specs.declared.signature.Signature.{Signature}
use Rattle.block_file.specs.State.{BlocksState, times}
use Rattle.block_file.specs.Uses.{CanClaim, Claims, uses_of}
use Rattle.block_file.specs.View.{BlockFileView}
use Rattle.catalogue.specs.Bytes.{catalogue_bytes}
use Rattle.file_bytes.specs.declared.form.Version.{Version}
use Rattle.metadata.specs.Metadata.{IsMetadata, IsOfVersion, indexes_of}
use Rattle.metadata.specs.declared.reading.Metadata.{Metadata}
use Rattle.tile_store.specs.declared.fault.Fault.{Fault}
use Rattle.tile_store.specs.declared.fault.Fault.TheVariants as device
use Rattle.raster_store.specs.Calls.{MayAttach}
use Rattle.raster_store.specs.Views.{Index, RasterView, coverages_in, listed_all, reserve}
use Rattle.block_file.specs.declared.fault.OpenFault.{OpenFault}
use Rattle.block_file.specs.declared.fault.OpenFault.TheVariants as opening
use Rattle.coverage_server.specs.Disk.{AreTiles, DiskView, IsLaidOut, Lists}
use Rattle.coverage_server.specs.Views.{ServerView, free_in}

-- what metadata of a file of a version lists, and nothing else: without a byte no coverage
pub record IsListed (version : Version) (metadata : List ℕ) (signatures : List Signature)
    (indexes : List (List Index)) : Type 0 where
  pub new_file : metadata ≡ [] → (signatures ≡ []) × (indexes ≡ [])
  pub read : 0 < length metadata → IsMetadata metadata signatures indexes
  pub of_version : 0 < length metadata → IsOfVersion version signatures indexes
  pub only : 0 < length metadata → (s : List Signature) (i : List (List Index)) → IsMetadata metadata s i
      → IsOfVersion version s i
      → (s ≡ signatures) × (i ≡ indexes)

-- The blocks that indexes list were claimed, and are in use as often as they are listed besides.
pub record ClaimsListed (indexes : List (List Index)) (old new : List ℕ) : Type 0 where
  pub blocks : List ℕ
  pub each : (k : ℕ) → times blocks k ≡ listed_all indexes k
  pub claims : Claims blocks old new
  pub counts : (k : ℕ) → uses_of new k ≡ uses_of old k + listed_all indexes k

-- the blocks that indexes list may not be claimed
pub record CannotClaim (indexes : List (List Index)) (marks : List ℕ) : Type 0 where
  pub blocks : List ℕ
  pub each : (k : ℕ) → times blocks k ≡ listed_all indexes k
  pub refused : CanClaim blocks marks → ⊥

-- each coverage may be attached after those before it
abbrev pub MayAttachAll : BlocksState → List (List Index) → Type 0
MayAttachAll s indexes =
    (before : List (List Index)) (new : List Index) (after : List (List Index)) → indexes ≡ before ++ new ∷ after
    → MayAttach s before new

-- The coverages of a catalogue are attached: those that these indexes list, which list tiles of their domains.
pub record Attaches {B : Type 0} (s : BlocksState) (signatures : List Signature) (listed : List (List Index))
    (cells : RasterView B) : Type 0 where
  pub coverages : cells.coverages ≡ coverages_in s.content signatures listed
  pub indexes : cells.indexes ≡ listed
  pub tiles : AreTiles signatures listed

-- What metadata lists was claimed, and as many blocks are free as the metadata takes.
pub record ClaimsLayout (version : Version) (metadata : List ℕ) (signatures : List Signature)
    (indexes : List (List Index)) (old new : List ℕ) : Type 0 where
  pub listed : IsListed version metadata signatures indexes
  pub claims : ClaimsListed indexes old new
  pub room : reserve (length (catalogue_bytes signatures)) indexes ≤ free_in indexes []

-- so it is with what was read of metadata
abbrev pub ClaimsRead : Version → List ℕ → List ℕ → List ℕ → Metadata → Type 0
ClaimsRead version metadata old new m = ClaimsLayout version metadata m.catalogue (indexes_of m.indexes.items) old new

-- no metadata of any signatures and indexes is laid out
abbrev pub IsNotLaidOut : List ℕ → Type 0
IsNotLaidOut content = (metadata : List ℕ) (signatures : List Signature) (indexes : List (List Index))
    → IsLaidOut content metadata signatures indexes → ⊥

-- metadata is none of any signatures and indexes such as a file of a version has
abbrev pub IsUnread : Version → List ℕ → Type 0
IsUnread version metadata = (0 < length metadata) × ((signatures : List Signature) (indexes : List (List Index))
    → IsMetadata metadata signatures indexes → IsOfVersion version signatures indexes → ⊥)

-- an honest disk lists the coverages that come of its file, and no others
abbrev pub ListsFile : BlockFileView → ServerView → Type 0
ListsFile file v = IsTrue file.honest → Lists file.content v.store v.indexes

-- the disk of a file, with nothing held for jobs, and no tile fetched
pub record ShowsFile (file : BlockFileView) (v : ServerView) : Type 0 where
  pub content : v.content ≡ file.content
  pub honest : v.honest ≡ file.honest
  pub unheld : v.held ≡ []
  pub failures : v.failures ≡ file.failures
  pub overreads : v.overreads ≡ file.overreads
  pub unfetched : v.fetched ≡ 0

-- the disk that a file is on, as it was
pub record GivesBack (file : BlockFileView) (disk : DiskView) : Type 0 where
  pub content : disk.content ≡ file.content
  pub honest : disk.honest ≡ file.honest
  pub failures : disk.failures ≡ file.failures
  pub overreads : disk.overreads ≡ file.overreads

-- after the header is read: want of memory, or a departure from the format
abbrev pub Departs : Type 0 → OpenFault → Type 0
Departs departure opening.NoMemory = ⊤
Departs departure opening.DiskFault = ⊥
Departs departure opening.Damaged = departure
Departs departure opening.NotAStore = ⊥
Departs departure opening.NotClosed = ⊥

-- why an opened file holds no store, if its disk is honest
abbrev pub IsNoLayout : BlockFileView → OpenFault → Type 0
IsNoLayout file fault = Departs (IsTrue file.honest → (0 < length file.content) × IsNotLaidOut file.content) fault

-- how it is told why coverages are not attached; the disk is not asked then, and room is never wanting
abbrev pub TellsAttach : Fault → OpenFault → Type 0
TellsAttach device.NoMemory told = told ≡ opening.NoMemory
TellsAttach device.DiskFault told = ⊥
TellsAttach device.NoRoom told = ⊥
TellsAttach device.Damaged told = told ≡ opening.Damaged
