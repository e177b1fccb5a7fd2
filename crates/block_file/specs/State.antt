-- What is known of the blocks of a file, as of one moment.
use Rattle.std.specs.Prelude.{◌≡◌, ℕ, zero, suc, ◌+◌, ◌-◌, ◌*◌, ◌<◌, nat_eq, if◌then◌else◌, Bool, List, take, drop, sum_by}
use Rattle.file_bytes.specs.Limits.{block_bytes}

-- The bytes of the file, and those that are there whatever comes; how often each block is in use; how many blocks there
-- are at most; how many calls of the disk have failed; an honest disk's count of reads past the end; and whether it
-- gives back what was written. Block 0 is the header, which is in no use.
pub record BlocksState : Type 0 where
  pub content : List ℕ
  pub synced : List ℕ
  pub uses : ℕ → ℕ
  pub size : ℕ
  pub failures : ℕ
  pub overreads : ℕ
  pub honest : Bool

-- the count of reads past the end of an honest disk; of another disk's end nothing is known
abbrev pub overreads_of : Bool → ℕ → ℕ
overreads_of honest count = if honest then count else 0

-- block k of a file's bytes: 4,096 of them where the file reaches so far, else fewer
unfoldable pub block_at : List ℕ → ℕ → List ℕ
block_at content k = take block_bytes (drop (block_bytes * k) content)

-- what a block holds
abbrev pub block : BlocksState → ℕ → List ℕ
block s = block_at s.content

-- the block may be taken: it is one of the file's, not the header, and in no use
pub record IsFree (s : BlocksState) (k : ℕ) : Type 0 where
  pub above_zero : 0 < k
  pub within : k < s.size
  pub unused : s.uses k ≡ 0

-- how many of the blocks from 1 to n are in no use
unfoldable pub free_up_to : ℕ → (ℕ → ℕ) → ℕ
free_up_to zero uses = 0
free_up_to (suc n) uses = free_up_to n uses + (1 - uses (suc n))

-- how many blocks are free
abbrev pub free_of : BlocksState → ℕ
free_of s = free_up_to (s.size - 1) s.uses

-- one use of block b
abbrev pub one : ℕ → ℕ → ℕ
one b k = if nat_eq b k then 1 else 0

-- how often a block stands in a list
unfoldable pub times : List ℕ → ℕ → ℕ
times ks k = sum_by (λ b. one b k) ks

-- no use of any block
abbrev pub none : ℕ → ℕ
none k = 0
