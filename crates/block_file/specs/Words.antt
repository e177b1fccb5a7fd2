-- What calls do to blocks. Blocks are given up and taken by counts: so many uses of each block.
use Rattle.std.specs.Prelude.{◌≡◌, ◌≢◌, ℕ, ◌+◌, ◌/◌, ◌<◌, ◌≤◌, IsTrue, List, length}
use Rattle.std.specs.List.{flat_map, range_with_len}
use Rattle.block_file.specs.declared.header.State.{State}
use Rattle.block_file.specs.declared.header.State.TheVariants.{Closed}
use Rattle.block_file.specs.State.{BlocksState, block, IsFree, times}
use Rattle.block_file.specs.Format.{IsChain, IsPadded, link, chain_blocks, HeaderWritten, HeaderTorn, HeaderLast, Closes}
use Rattle.file_bytes.specs.Limits.{block_bytes}

-- Blocks were asked for, so often each. Nothing has changed but the count of failures; and where they are whole, none
-- was read past the end of an honest disk.
pub record OnlyReads (asked : ℕ → ℕ) (old new : BlocksState) : Type 0 where
  pub content : new.content ≡ old.content
  pub synced : new.synced ≡ old.synced
  pub uses : new.uses ≡ old.uses
  pub size : new.size ≡ old.size
  pub honest : new.honest ≡ old.honest
  pub overreads : (IsTrue old.honest → (k : ℕ) → 0 < asked k → length (block old k) ≡ block_bytes)
      → new.overreads ≡ old.overreads

-- uses were given up and taken, and nothing else has changed
pub record Recounts (given taken : ℕ → ℕ) (old new : BlocksState) : Type 0 where
  pub uses : (k : ℕ) → new.uses k + given k ≡ old.uses k + taken k
  pub content : new.content ≡ old.content
  pub synced : new.synced ≡ old.synced
  pub size : new.size ≡ old.size
  pub failures : new.failures ≡ old.failures
  pub overreads : new.overreads ≡ old.overreads
  pub honest : new.honest ≡ old.honest

-- Uses were given up and taken. Each whole block that is in use beyond what was given up holds what it held, and so
-- does the header; and no read went past the end of an honest disk.
pub record Moves (given taken : ℕ → ℕ) (old new : BlocksState) : Type 0 where
  pub uses : (k : ℕ) → new.uses k + given k ≡ old.uses k + taken k
  pub kept : (k : ℕ) → given k < old.uses k → length (block old k) ≡ block_bytes → block new k ≡ block old k
  pub header : length (block old 0) ≡ block_bytes → block new 0 ≡ block old 0
  pub overreads : new.overreads ≡ old.overreads
  pub size : new.size ≡ old.size
  pub honest : new.honest ≡ old.honest

-- as many blocks, from one on, as bytes have room for
abbrev pub blocks_from : ℕ → List ℕ → List ℕ
blocks_from k bytes = range_with_len k (length bytes / block_bytes)

-- on an honest disk the bytes are what these blocks hold, one behind the other
abbrev pub AreBytesOf : List ℕ → BlocksState → List ℕ → Type 0
AreBytesOf ks s bytes = IsTrue s.honest → bytes ≡ flat_map (block s) ks

-- these are n free blocks, each once, and below each other block that is free
pub record AreLowestFree (n : ℕ) (ks : List ℕ) (s : BlocksState) : Type 0 where
  pub count : length ks ≡ n
  pub once : (k : ℕ) → times ks k ≤ 1
  pub free : (k : ℕ) → 0 < times ks k → IsFree s k
  pub lowest : (k j : ℕ) → 0 < times ks k → IsFree s j → times ks j ≡ 0 → k < j

-- each block is in use at least so often
abbrev pub Covers : BlocksState → (ℕ → ℕ) → Type 0
Covers s counts = (k : ℕ) → counts k ≤ s.uses k

-- each of these blocks is in use
abbrev pub AreUsed : List ℕ → BlocksState → Type 0
AreUsed ks s = (k : ℕ) → 0 < times ks k → 0 < s.uses k

-- Each block but k that was whole holds what it held. A block that a write has not filled may lie in the gap of a later
-- write.
abbrev pub OthersKept : ℕ → (ℕ → List ℕ) → (ℕ → List ℕ) → Type 0
OthersKept k old new = (j : ℕ) → j ≢ k → length (old j) ≡ block_bytes → new j ≡ old j

-- The write of a header, which is in no use, was tried. No use has changed; on an honest disk each other whole block
-- holds what it held, no byte behind the header has changed, and one of the header only after all the rest was synced.
pub record OnlyHeader (old new : BlocksState) : Type 0 where
  pub others : IsTrue old.honest → OthersKept 0 (block old) (block new)
  pub torn : IsTrue old.honest → HeaderTorn old.content new.content
  pub last : IsTrue old.honest → HeaderLast old.content new.content new.synced
  pub unused : old.uses 0 ≡ 0
  pub uses : new.uses ≡ old.uses
  pub overreads : new.overreads ≡ old.overreads
  pub size : new.size ≡ old.size
  pub honest : new.honest ≡ old.honest

-- A header was written, and all is synced. A file is closed by a header that tells so: with the metadata that a chain
-- held.
pub record WritesHeader (session : State) (first size : ℕ) (old new : BlocksState) : Type 0 where
  pub synced : new.synced ≡ new.content
  pub written : IsTrue old.honest → HeaderWritten session first size old.content new.content
  pub closes : IsTrue old.honest → session ≡ Closed → Closes first size old.content new.content

-- on an honest disk metadata lies in a chain from block `first` on, in blocks that are in no use, with zeros behind it
pub record HoldsChain (first : ℕ) (metadata : List ℕ) (s : BlocksState) : Type 0 where
  pub chain : IsTrue s.honest → IsChain (block s) first metadata
  pub padded : IsTrue s.honest → IsPadded (block s) first (length metadata)
  pub unused : IsTrue s.honest → (i : ℕ) → i < chain_blocks (length metadata) → s.uses (link (block s) first i) ≡ 0
