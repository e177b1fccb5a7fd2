-- A block file as callers see it, and what its opening gives.
use Rattle.std.specs.Prelude.{◌≡◌, ℕ, ◌*◌, ◌/◌, ◌<◌, ◌≤◌, max, Bool, IsTrue, List, [], length, ⊤}
use Rattle.file_bytes.specs.declared.form.Version.{Version}
use Rattle.file_bytes.specs.declared.form.Version.TheVariants.{Two}
use Rattle.file_bytes.specs.Limits.{block_bytes}
use Rattle.block_file.specs.declared.fault.OpenFault.{OpenFault}
use Rattle.block_file.specs.declared.fault.OpenFault.TheVariants.{NoMemory, DiskFault, Damaged, NotAStore, NotClosed}
use Rattle.block_file.specs.State.{BlocksState, block_at, overreads_of}
use Rattle.block_file.specs.Format.{number_at, first_of, TellsVersion, IsStoreFile, IsClosed, IsDamaged}
use Rattle.block_file.specs.Uses.{uses_of, MarksChain}
use Rattle.block_file.specs.Limits.{max_blocks, max_metadata}

-- The file's bytes and those that are synced, a mark for each of its blocks, and what is known of the disk.
-- A mark is how often the block is in use, or `kept_mark` for a free block that holds metadata and may not be claimed.
pub record BlockFileView : Type 0 where
  pub content : List ℕ
  pub synced : List ℕ
  pub marks : List ℕ
  pub failures : ℕ
  pub overreads : ℕ
  pub honest : Bool

-- the blocks of a block file, of which there are at most 1,048,576
abbrev pub state_of : BlockFileView → BlocksState
state_of file = record {
  content = file.content;
  synced = file.synced;
  uses = uses_of file.marks;
  size = max_blocks;
  failures = file.failures;
  overreads = file.overreads;
  honest = file.honest;
}

-- a file shows what the disk holds that it was opened from, and an honest one was read nowhere past its end
pub record Shows {D : Type 0} (content synced : D → List ℕ) (honest : D → Bool) (overreads : D → ℕ) (disk : D)
    (file : BlockFileView) : Type 0 where
  pub same_content : file.content ≡ content disk
  pub same_synced : file.synced ≡ synced disk
  pub same_honest : file.honest ≡ honest disk
  pub same_overreads : file.overreads ≡ overreads_of (honest disk) (overreads disk)

-- What an opened file says of its metadata and of its blocks: without a byte there is no metadata, else it is that of
-- the closed file, which is not too long, and no other; its chain is marked; and the file has a mark for each of its
-- blocks, which are whole.
pub record IsOpened (content metadata marks : List ℕ) : Type 0 where
  pub new_file : content ≡ [] → metadata ≡ []
  pub closed : 0 < length content → IsClosed content metadata
  pub short : length metadata ≤ max_metadata
  pub unique : (other : List ℕ) → IsClosed content other → metadata ≡ other
  pub marked : 0 < length content → MarksChain (block_at content) (first_of content) (length metadata) marks
  pub blocks : length marks ≡ max 1 (length content / block_bytes)
  pub whole : (k : ℕ) → 0 < k → k < length marks → length (block_at content k) ≡ block_bytes

-- what an opened file says of the content of an honest disk
abbrev pub Opens : Bool → List ℕ → List ℕ → List ℕ → Type 0
Opens honest content metadata marks = IsTrue honest → IsOpened content metadata marks

-- the version of an opened file: that of its header, and the newest where there is none yet
pub record IsOfVersion (version : Version) (content : List ℕ) : Type 0 where
  pub told : 0 < length content → TellsVersion version content
  pub new_file : content ≡ [] → version ≡ Two

-- Why the content of a disk is not opened. Want of memory and a fault of the disk say nothing of it.
abbrev pub IsRefused : OpenFault → List ℕ → Type 0
IsRefused NoMemory content = ⊤
IsRefused DiskFault content = ⊤
IsRefused NotAStore content = (0 < length content) × (IsStoreFile content → ⊥)
IsRefused NotClosed content = IsStoreFile content × (number_at 12 4 content ≡ 1)
IsRefused Damaged content = IsDamaged content

-- there is a mark, and not too many, and an honest disk has no bytes past the last block
pub record IsWithin (content : List ℕ) (honest : Bool) (marks : List ℕ) : Type 0 where
  pub some : 0 < length marks
  pub few : length marks ≤ max_blocks
  pub bytes : IsTrue honest → length content ≤ block_bytes * length marks
