-- What it is that a disk holds a store.
use Rattle.std.specs.Prelude.{◌≡◌, ◌≢◌, ℕ, ◌/◌, ◌<◌, ◌⊎◌, Bool, List, [], ◌∷◌, length, ⊤}
use Rattle.arr_core.specs.declared.signature.Signature.{Signature}
use Rattle.arr_core.specs.Stores.{Store}
use Rattle.block_file.specs.State.{block_at, overreads_of}
use Rattle.disk_face.specs.declared.Disk.{Ghosts}
use Rattle.block_file.specs.declared.header.State.TheVariants.{Open}
use Rattle.file_bytes.specs.declared.form.Version.{Version}
use Rattle.file_bytes.specs.declared.form.Version.TheVariants.{Two}
use Rattle.file_bytes.specs.Limits.{block_bytes}
use Rattle.block_file.specs.Format.{IsHeader, IsStoreFile, TellsVersion, IsClosed, number_at, link, first_of, chain_blocks}
use Rattle.metadata.specs.Metadata.{IsMetadata, IsOfVersion}
use Rattle.block_file.specs.declared.fault.OpenFault.{OpenFault}
use Rattle.block_file.specs.declared.fault.OpenFault.TheVariants as opening
use Rattle.raster_store.specs.Views.{Index, AreBelow, AreIntact, coverages_in, listed_all}

-- What a disk tells: the bytes that it holds, whether it is honest, how many of its calls have failed, and how often an
-- honest one was read past its end.
pub record DiskView : Type 0 where
  pub content : List ℕ
  pub honest : Bool
  pub failures : ℕ
  pub overreads : ℕ

-- so it is with a disk, by what its type tells
abbrev pub disk_view : {D : Type 0} → Ghosts D → D → DiskView
disk_view g disk = record {
  content = g.content disk;
  honest = g.honest disk;
  failures = g.failures disk;
  overreads = overreads_of (g.honest disk) (g.overreads disk);
}

-- each index lists only tiles of its coverage's domain
abbrev pub AreTiles : List Signature → List (List Index) → Type 0
AreTiles [] indexes = Unit {0}
AreTiles (s ∷ signatures) [] = Unit {0}
AreTiles (s ∷ signatures) (i ∷ indexes) = AreBelow s.domain i × AreTiles signatures indexes

-- a block of the file that holds a tile: listed once, not the header, within the file, and none of the metadata's
pub record IsTileBlock (content : List ℕ) (size : ℕ) (indexes : List (List Index)) (k : ℕ) : Type 0 where
  pub once : listed_all indexes k ≡ 1
  pub above_zero : 0 < k
  pub within : k < length content / block_bytes
  pub apart : (i : ℕ) → i < chain_blocks size → link (block_at content) (first_of content) i ≢ k

-- A closed file: its metadata is that of these signatures and indexes, which are such as a file of its version has, and
-- which list tiles of the domains, in blocks of their own.
pub record IsLaidOut (content metadata : List ℕ) (signatures : List Signature) (indexes : List (List Index)) : Type 0
  where
    pub closed : IsClosed content metadata
    pub written : IsMetadata metadata signatures indexes
    pub version : (version : Version) → TellsVersion version content → IsOfVersion version signatures indexes
    pub tiles : AreTiles signatures indexes
    pub blocks : (k : ℕ) → 0 < listed_all indexes k → IsTileBlock content (length metadata) indexes k

-- a closed file of these coverages, whether or not their tiles spell cells
pub record ListsCoverages (content : List ℕ) (store : Store) (indexes : List (List Index)) : Type 0 where
  pub metadata : List ℕ
  pub signatures : List Signature
  pub laid_out : IsLaidOut content metadata signatures indexes
  pub is : store ≡ coverages_in content signatures indexes

-- without a byte a disk lists no coverages, else it is the closed file of those that it lists
abbrev pub ListsStore : List ℕ → Store → List (List Index) → Type 0
ListsStore content store indexes =
    ((content ≡ []) × (store ≡ []) × (indexes ≡ [])) ⊎ ListsCoverages content store indexes

-- the disk lists these coverages, and no others
pub record Lists (content : List ℕ) (store : Store) (indexes : List (List Index)) : Type 0 where
  pub lists : ListsStore content store indexes
  pub only : (s : Store) (i : List (List Index)) → ListsStore content s i → (store ≡ s) × (indexes ≡ i)

-- it lists none, not even the empty store
abbrev pub ListsNone : List ℕ → Type 0
ListsNone content = (store : Store) (indexes : List (List Index)) → ¬ (ListsStore content store indexes)

-- The disk holds the store: it lists its coverages, and each of their tiles spells its cells.
pub record HoldsStore (content : List ℕ) (store : Store) : Type 0 where
  pub indexes : List (List Index)
  pub lists : ListsStore content store indexes
  pub intact : AreIntact content store indexes

-- the header is that of an open file of version 2 with as many blocks as there are
abbrev pub IsOpenFile : List ℕ → Type 0
IsOpenFile content = IsHeader content Open (length content / block_bytes) 0 0 × TellsVersion Two content

-- what may be told of any disk
abbrev pub IsWant : OpenFault → Type 0
IsWant opening.NoMemory = ⊤
IsWant opening.DiskFault = ⊤
IsWant opening.Damaged = ⊥
IsWant opening.NotAStore = ⊥
IsWant opening.NotClosed = ⊥

-- Why a disk without a failure is not opened: it is no store file; it was not closed; or it departs from the format in
-- another way.
abbrev pub IsNoStore : List ℕ → OpenFault → Type 0
IsNoStore content opening.NoMemory = ⊤
IsNoStore content opening.DiskFault = ⊤
IsNoStore content opening.NotAStore = (0 < length content) × (¬ (IsStoreFile content))
IsNoStore content opening.NotClosed = IsStoreFile content × (number_at 12 4 content ≡ 1)
IsNoStore content opening.Damaged =
    IsStoreFile content × (number_at 12 4 content ≢ 1) × ListsNone content
