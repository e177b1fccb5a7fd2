-- The pages that a pool keeps: each with the number of its block, the one that was used last first.
use Rattle.std.specs.Prelude.{◌≡◌, ◌≢◌, ℕ, Bool, IsTrue, List, [], length, Option, Some, None, nat_eq}
use Rattle.std.specs.Map.{lookup}
use Rattle.lru.specs.LruCache.{LruCache}
use Rattle.file_bytes.specs.Limits.{block_bytes}
use Rattle.block_file.specs.State.{block_at}

-- the pages of a cache that may be left out
abbrev pub entries_of : Option (LruCache ℕ (List ℕ)) → List (ℕ × List ℕ)
entries_of None = []
entries_of (Some cache) = cache.entries

-- the page of block k, where one is kept
abbrev pub page_of : List (ℕ × List ℕ) → ℕ → Option (List ℕ)
page_of pages k = lookup (nat_eq k) pages

-- the pages are those that were there, in whatever order
abbrev pub SamePages : List (ℕ × List ℕ) → List (ℕ × List ℕ) → Type 0
SamePages old new = (j : ℕ) → page_of new j ≡ page_of old j

-- each page was there
abbrev pub NoneAdded : List (ℕ × List ℕ) → List (ℕ × List ℕ) → Type 0
NoneAdded old new = (j : ℕ) (page : List ℕ) → page_of new j ≡ Some page → page_of old j ≡ Some page

-- of block k there is no page now; the others are as they were
pub record Forgets (k : ℕ) (old new : List (ℕ × List ℕ)) : Type 0 where
  pub gone : page_of new k ≡ None
  pub others : (j : ℕ) → j ≢ k → page_of new j ≡ page_of old j

-- a page of block k has these bytes now; each other page was there
pub record Renews (k : ℕ) (bytes : List ℕ) (old new : List (ℕ × List ℕ)) : Type 0 where
  pub here : (page : List ℕ) → page_of new k ≡ Some page → page ≡ bytes
  pub others : (j : ℕ) (page : List ℕ) → j ≢ k → page_of new j ≡ Some page → page_of old j ≡ Some page

-- each page is whole, and has what its block holds where the disk is honest
pub record ArePages (content : List ℕ) (honest : Bool) (pages : List (ℕ × List ℕ)) : Type 0 where
  pub whole : (k : ℕ) (page : List ℕ) → page_of pages k ≡ Some page → length page ≡ block_bytes
  pub held : IsTrue honest
      → (k : ℕ) (page : List ℕ) → page_of pages k ≡ Some page → page ≡ block_at content k
