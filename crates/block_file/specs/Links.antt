-- The header of a closed file and the links of its chain, as they are read and written.
use Rattle.std.specs.Prelude.{◌≡◌, ◌≢◌, ℕ, ◌+◌, ◌*◌, ◌<◌, IsTrue, List, length, slice_index, ⊤}
use Rattle.block_file.specs.declared.chain.Layout.{Layout}
use Rattle.block_file.specs.declared.fault.OpenFault.{OpenFault}
use Rattle.block_file.specs.declared.fault.OpenFault.TheVariants.{NoMemory, DiskFault, Damaged, NotAStore, NotClosed}
use Rattle.block_file.specs.declared.header.Header.{Header}
use Rattle.block_file.specs.declared.header.State.TheVariants.{Closed}
use Rattle.block_file.specs.State.{BlocksState, block, block_at}
use Rattle.block_file.specs.Format.{number_at, TellsVersion, IsStoreFile, IsHeader, IsChain}
use Rattle.block_file.specs.Uses.{IsFresh, MarksChain}
use Rattle.file_bytes.specs.Limits.{block_bytes}
use Rattle.block_file.specs.Limits.{chain_bytes}

-- the header of a closed file whose length is the number of blocks that it tells, and its version
pub record IsClosedHeader (header : Header) (content : List ℕ) : Type 0 where
  pub is : IsHeader content Closed header.blocks header.first header.length
  pub version : TellsVersion header.version content
  pub whole : length content ≡ block_bytes * header.blocks

-- why a block of bytes is no header of a closed file
abbrev pub IsNoHeader : OpenFault → List ℕ → Type 0
IsNoHeader NoMemory bytes = ⊥
IsNoHeader DiskFault bytes = ⊥
IsNoHeader NotAStore bytes = IsStoreFile bytes → ⊥
IsNoHeader NotClosed bytes = IsStoreFile bytes × (number_at 12 4 bytes ≡ 1)
IsNoHeader Damaged bytes =
    IsStoreFile bytes × (number_at 12 4 bytes ≢ 1)
    × ((blocks first size : ℕ) → IsHeader bytes Closed blocks first size → ⊥)

-- The layout has what a header tells: its version, so many bytes of metadata, and a mark for each block, of which none
-- is in use.
pub record IsLayoutOf (header : Header) (layout : Layout) : Type 0 where
  pub version : layout.version ≡ header.version
  pub size : length layout.metadata.items ≡ header.length
  pub blocks : length layout.marks ≡ header.blocks
  pub fresh : IsFresh layout.marks

-- the chain that a header tells of was read: its metadata, and marks for its blocks
pub record ReadsChain (content : List ℕ) (header : Header) (layout : Layout) : Type 0 where
  pub chain : IsChain (block_at content) header.first layout.metadata.items
  pub marks : MarksChain (block_at content) header.first header.length layout.marks

-- why the chain that a header tells of is not read: only where there is none, or for a want that may come at any time
abbrev pub IsNoChain : OpenFault → List ℕ → Header → Type 0
IsNoChain NoMemory content header = ⊤
IsNoChain DiskFault content header = ⊤
IsNoChain NotAStore content header = ⊥
IsNoChain NotClosed content header = ⊥
IsNoChain Damaged content header =
    (metadata : List ℕ) → length metadata ≡ header.length → IsChain (block_at content) header.first metadata → ⊥

-- the bytes of a block of a chain: the number of the next one, and a part of the metadata, which was added
pub record AddsLink (bytes : List ℕ) (following part : ℕ) (old new : List ℕ) : Type 0 where
  pub next : following ≡ number_at 0 4 bytes
  pub size : length new ≡ length old + part
  pub kept : (j : ℕ) → j < length old → slice_index new j ≡ slice_index old j
  pub added : (j : ℕ) → j < part → slice_index new (length old + j) ≡ slice_index bytes (4 + j)

-- These are the bytes of the block at place i of a chain that lies in the blocks ks: the number of the next one, or 0
-- at the last, then its part of the metadata, and zeros.
pub record HoldsLink (bytes : List ℕ) (i : ℕ) (ks metadata : List ℕ) : Type 0 where
  pub whole : length bytes ≡ block_bytes
  pub next : number_at 0 4 bytes ≡ slice_index ks (i + 1)
  pub part : (j : ℕ) → j < chain_bytes → slice_index bytes (4 + j) ≡ slice_index metadata (chain_bytes * i + j)

-- on an honest disk the blocks ks hold the links of a chain
abbrev pub HoldsLinks : List ℕ → List ℕ → BlocksState → Type 0
HoldsLinks ks metadata s =
    IsTrue s.honest → (i : ℕ) → i < length ks → HoldsLink (block s (slice_index ks i)) i ks metadata
