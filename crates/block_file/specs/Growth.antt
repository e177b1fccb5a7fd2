-- How long a file may become.
use Rattle.std.specs.Prelude.{ℕ, ◌+◌, ◌-◌, ◌*◌, ◌<◌, ◌≤◌, max, List, length}
use Rattle.file_bytes.specs.Limits.{block_bytes}
use Rattle.block_file.specs.State.{BlocksState, free_of, times}

-- how many blocks are not free, the header counted
abbrev pub occupied : BlocksState → ℕ
occupied s = s.size - free_of s

-- the content is no longer than it was, or than so many blocks
abbrev pub EndsWithin : ℕ → List ℕ → List ℕ → Type 0
EndsWithin n old new = length new ≤ max (length old) (block_bytes * n)

-- these are some of the first n blocks
abbrev pub AreWithin : ℕ → List ℕ → Type 0
AreWithin n ks = (k : ℕ) → 0 < times ks k → k < n

-- the content is no longer than it was, or than to the end of the last of these blocks
abbrev pub EndsWith : List ℕ → List ℕ → List ℕ → Type 0
EndsWith ks old new = (n : ℕ) → AreWithin n ks → EndsWithin n old new

-- The file has grown no further than one that has the header, the blocks that were in use and n more, and no free block
-- before the last of them.
abbrev pub GrowsBy : ℕ → BlocksState → BlocksState → Type 0
GrowsBy n old new = EndsWithin (occupied old + n) old.content new.content
