-- The bytes of a store file, of either version. Numbers stand lowest byte first. Blocks have 4,096 bytes, and block 0
-- is the header.
use Rattle.std.specs.Prelude.{◌≡◌, ◌≢◌, ℕ, zero, suc, ◌+◌, ◌-◌, ◌*◌, ◌/◌, ◌%◌, ◌<◌, ◌≤◌, max, List, length, take, slice_index, codes}
use Rattle.byteorder.specs.Endian.{little_from}
use Rattle.file_bytes.specs.declared.form.Version.{Version}
use Rattle.file_bytes.specs.declared.form.Version.TheVariants.{One, Two}
use Rattle.block_file.specs.State.{block_at}
use Rattle.block_file.specs.declared.header.State.{State}
use Rattle.block_file.specs.declared.header.State.TheVariants.{Open, Closed}
use Rattle.file_bytes.specs.Limits.{block_bytes, blocks_filled}
use Rattle.block_file.specs.Limits.{chain_bytes, max_blocks, max_metadata}

-- the number in the n bytes from place `at` on, the lowest first
unfoldable pub number_at : ℕ → ℕ → List ℕ → ℕ
number_at at n bytes = little_from at n bytes

-- a number of n bytes was written at a place, and nothing else
pub record Put (at n x : ℕ) (old new : List ℕ) : Type 0 where
  pub number : number_at at n new ≡ x
  pub below : (i : ℕ) → i < at → slice_index new i ≡ slice_index old i
  pub above : (i : ℕ) → at + n ≤ i → slice_index new i ≡ slice_index old i
  pub same_length : length new ≡ length old

-- the bytes that each store file begins with
abbrev pub magic_bytes : List ℕ
magic_bytes = codes "WCPSTORE"

-- the number by which a header tells the version of its format
abbrev pub version_number : Version → ℕ
version_number One = 1
version_number Two = 2

-- the header tells this version
abbrev pub TellsVersion : Version → List ℕ → Type 0
TellsVersion version content = number_at 8 4 content ≡ version_number version

-- a header is there, of a store file of one of the two versions
pub record IsStoreFile (content : List ℕ) : Type 0 where
  pub whole : block_bytes ≤ length content
  pub magic : take 8 content ≡ magic_bytes
  pub version : (version : Version) × TellsVersion version content

-- how a header writes its state
abbrev pub state_number : State → ℕ
state_number Open = 1
state_number Closed = 2

-- the header of a file in this state, with so many blocks, whose metadata of so many bytes begins in block `from`
pub record IsHeader (content : List ℕ) (in_state : State) (block_count from byte_count : ℕ) : Type 0 where
  pub store : IsStoreFile content
  pub state : number_at 12 4 content ≡ state_number in_state
  pub blocks : number_at 16 4 content ≡ block_count
  pub first : number_at 20 4 content ≡ from
  pub size : number_at 24 8 content ≡ byte_count
  pub zeros : (i : ℕ) → 32 ≤ i → i < block_bytes → slice_index content i ≡ 0

-- the block after block k in a chain, or 0 at the last: the number in its first four bytes
abbrev pub next_of : (ℕ → List ℕ) → ℕ → ℕ
next_of block k = number_at 0 4 (block k)

-- the block that stands at place i of the chain from block `first` on
unfoldable pub link : (ℕ → List ℕ) → ℕ → ℕ → ℕ
link block first zero = first
link block first (suc i) = next_of block (link block first i)

-- how many blocks a chain needs for so many bytes: each holds 4,092 behind the number of the next
abbrev pub chain_blocks : ℕ → ℕ
chain_blocks size = (size + (chain_bytes - 1)) / chain_bytes

-- The metadata lies in a chain of blocks from block `first` on: whole blocks, distinct, none of them the header,
-- exactly as many as it fills.
pub record IsChain (block : ℕ → List ℕ) (first : ℕ) (metadata : List ℕ) : Type 0 where
  pub some : 0 < length metadata
  pub above_zero : (i : ℕ) → i < chain_blocks (length metadata) → 0 < link block first i
  pub whole : (i : ℕ) → i < chain_blocks (length metadata) → length (block (link block first i)) ≡ block_bytes
  pub distinct : (i j : ℕ) → i < chain_blocks (length metadata) → j < chain_blocks (length metadata)
      → link block first i ≡ link block first j → i ≡ j
  pub ends : link block first (chain_blocks (length metadata)) ≡ 0
  pub bytes : (j : ℕ) → j < length metadata
      → slice_index metadata j ≡ slice_index (block (link block first (j / chain_bytes))) (4 + j % chain_bytes)

-- what a chain of so many bytes has behind them is zeros
abbrev pub IsPadded : (ℕ → List ℕ) → ℕ → ℕ → Type 0
IsPadded block first size =
    (i j : ℕ) → i < chain_blocks size → j < chain_bytes → size ≤ chain_bytes * i + j
    → slice_index (block (link block first i)) (4 + j) ≡ 0

-- the first metadata block, as the header has it
abbrev pub first_of : List ℕ → ℕ
first_of content = number_at 20 4 content

-- a closed store file with this metadata
pub record IsClosed (content metadata : List ℕ) : Type 0 where
  pub header : IsHeader content Closed (length content / block_bytes) (first_of content) (length metadata)
  pub whole : block_bytes * (length content / block_bytes) ≡ length content
  pub few : length content / block_bytes ≤ max_blocks
  pub chain : IsChain (block_at content) (first_of content) metadata

-- a store file that is not open, and that is not closed with any metadata of at most 15,000,000 bytes: its header or
-- its chain departs from the format
pub record IsDamaged (content : List ℕ) : Type 0 where
  pub store : IsStoreFile content
  pub not_open : number_at 12 4 content ≢ 1
  pub not_closed : (metadata : List ℕ) → length metadata ≤ max_metadata → IsClosed content metadata → ⊥

-- How a header is written, as one of version 2: the file then has whole blocks, as few as hold what it held and the
-- header. What was added past its end are zeros, and no byte outside the header has changed.
pub record HeaderWritten (state : State) (first size : ℕ) (old new : List ℕ) : Type 0 where
  pub header : IsHeader new state (length new / block_bytes) first size
  pub version : TellsVersion Two new
  pub whole : block_bytes * (length new / block_bytes) ≡ length new
  pub fewest : length new / block_bytes ≡ max 1 (blocks_filled (length old))
  pub kept : (i : ℕ) → block_bytes ≤ i → i < length old → slice_index new i ≡ slice_index old i
  pub filled : (i : ℕ) → block_bytes ≤ i → length old ≤ i → slice_index new i ≡ 0
  pub few : length new / block_bytes ≤ max_blocks
  pub inside : (k : ℕ) → length (block_at old k) ≡ block_bytes → k < length new / block_bytes

-- However the write of a header ended: no byte behind the header has changed, and no block was begun but the header.
pub record HeaderTorn (old new : List ℕ) : Type 0 where
  pub no_shorter : length old ≤ length new
  pub no_longer : length new ≤ block_bytes * max 1 (blocks_filled (length old))
  pub kept : (i : ℕ) → block_bytes ≤ i → i < length old → slice_index new i ≡ slice_index old i

-- a header that was there still is
abbrev pub KeepsHeader : List ℕ → List ℕ → Type 0
KeepsHeader old new =
    (state : State) (block_count from byte_count : ℕ) → IsHeader old state block_count from byte_count
    → IsHeader new state block_count from byte_count

-- a closed file with this metadata, whose chain has the blocks that it had from block `first` on
pub record ClosedWith (first : ℕ) (old new metadata : List ℕ) : Type 0 where
  pub closed : IsClosed new metadata
  pub links : (i : ℕ) → i < chain_blocks (length metadata)
      → link (block_at new) (first_of new) i ≡ link (block_at old) first i

-- Closing makes the metadata that a chain from block `first` on held before that of the closed file.
abbrev pub Closes : ℕ → ℕ → List ℕ → List ℕ → Type 0
Closes first size old new =
    (metadata : List ℕ) → length metadata ≡ size → IsChain (block_at old) first metadata
    → ClosedWith first old new metadata

-- a last block that was cut short is filled with zeros; the number of blocks counts the header
pub record Filled (old new : List ℕ) (blocks : ℕ) : Type 0 where
  pub whole : length new ≡ block_bytes * blocks_filled (length old)
  pub count : blocks ≡ max 1 (blocks_filled (length old))
  pub zeros : (i : ℕ) → length old ≤ i → slice_index new i ≡ 0

-- what was there still is, and no block was begun
pub record Extends (old new : List ℕ) : Type 0 where
  pub no_shorter : length old ≤ length new
  pub no_longer : length new ≤ block_bytes * blocks_filled (length old)
  pub kept : (i : ℕ) → i < length old → slice_index new i ≡ slice_index old i

-- A byte of the header has changed only where all that lies behind the header was synced before.
abbrev pub HeaderLast : List ℕ → List ℕ → List ℕ → Type 0
HeaderLast old new synced =
    (i : ℕ) → i < block_bytes → i < length old → slice_index new i ≢ slice_index old i
    → (j : ℕ) → block_bytes ≤ j → slice_index synced j ≡ slice_index new j
