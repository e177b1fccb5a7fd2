-- How often each block of a file is in use, by its mark: a number, or that of a free block that holds metadata and may
-- not be claimed. The header has the mark 1.
use Rattle.std.specs.Prelude.{◌≡◌, ◌≢◌, ℕ, zero, suc, ◌+◌, ◌<◌, ◌≤◌, nat_lt, if◌then◌else◌, List, length, slice_index}
use Rattle.block_file.specs.State.{free_up_to, times}
use Rattle.block_file.specs.Format.{link, chain_blocks}
use Rattle.block_file.specs.Limits.{max_blocks, last_block}

-- the mark of a free block that holds metadata
abbrev pub kept_mark : ℕ
kept_mark = 4294967295

-- how often a block with this mark is in use
abbrev pub use_count : ℕ → ℕ
use_count mark = if nat_lt mark kept_mark then mark else 0

-- how often block k is in use; the header is in no use, and neither are blocks past the last
abbrev pub uses_of : List ℕ → ℕ → ℕ
uses_of marks zero = 0
uses_of marks (suc k) = use_count (slice_index marks (suc k))

-- no block is in use
abbrev pub IsFresh : List ℕ → Type 0
IsFresh marks = (k : ℕ) → uses_of marks k ≡ 0

-- the blocks of a chain that holds so many bytes are marked as metadata, and of the others but the header none is
-- marked
pub record MarksChain (block : ℕ → List ℕ) (first size : ℕ) (marks : List ℕ) : Type 0 where
  pub chain : (i : ℕ) → i < chain_blocks size → slice_index marks (link block first i) ≡ kept_mark
  pub others : (k : ℕ) → 0 < k → ((i : ℕ) → i < chain_blocks size → link block first i ≢ k) → slice_index marks k ≡ 0

-- these blocks may be claimed: each once, inside the file, and neither the header nor claimed nor metadata
pub record CanClaim (ks marks : List ℕ) : Type 0 where
  pub once : (k : ℕ) → times ks k ≤ 1
  pub above_zero : (k : ℕ) → 0 < times ks k → 0 < k
  pub inside : (k : ℕ) → 0 < times ks k → k < length marks
  pub unmarked : (k : ℕ) → 0 < times ks k → slice_index marks k ≡ 0

-- these blocks could be claimed and are in use now, and the others are marked as before
pub record Claims (ks old new : List ℕ) : Type 0 where
  pub could : CanClaim ks old
  pub blocks : length new ≡ length old
  pub marks : (k : ℕ) → slice_index new k ≡ slice_index old k + times ks k

-- these blocks are in use so often more, and no other mark has changed
pub record Raises (ks old new : List ℕ) : Type 0 where
  pub marks : (k : ℕ) → slice_index new k ≡ slice_index old k + times ks k
  pub uses : (k : ℕ) → uses_of new k ≡ uses_of old k + times ks k
  pub blocks : length new ≡ length old

-- these blocks were the lowest free ones, each of the file's, and are in use once; the others are marked as before
pub record TakesLowest (ks old new : List ℕ) : Type 0 where
  pub once : (k : ℕ) → times ks k ≤ 1
  pub inside : (k : ℕ) → 0 < times ks k → (0 < k) × (k < length old)
  pub free : (k : ℕ) → 0 < times ks k → uses_of old k ≡ 0
  pub lowest : (k j : ℕ) → 0 < times ks k → 0 < j → uses_of old j ≡ 0 → times ks j ≡ 0 → k < j
  pub are_used : (k : ℕ) → 0 < times ks k → slice_index new k ≡ 1
  pub others : (k : ℕ) → times ks k ≡ 0 → slice_index new k ≡ slice_index old k
  pub blocks : length new ≡ length old

-- a block of the file or that behind its last, below which none is free
pub record NoneFreeBelow (lowest : ℕ) (marks : List ℕ) : Type 0 where
  pub above_zero : 0 < lowest
  pub within : lowest ≤ length marks
  pub used : (k : ℕ) → 0 < k → k < lowest → 0 < uses_of marks k

-- What is true of the marks of blocks: the header has one, there are not too many, the free blocks are counted, and no
-- block below `lowest` is free.
pub record AreMarks (marks : List ℕ) (free lowest : ℕ) : Type 0 where
  pub header : slice_index marks 0 ≡ 1
  pub few : length marks ≤ max_blocks
  pub counted : free ≡ free_up_to last_block (uses_of marks)
  pub below : NoneFreeBelow lowest marks
