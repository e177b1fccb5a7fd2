-- A server as callers see it: its store, the disk below, and its jobs.
use Rattle.std.specs.Prelude.{◌≡◌, ℕ, ◌+◌, ◌≤◌, Bool, IsTrue, IsSomeAnd, List, [], map, length}
use Rattle.arr_core.specs.declared.signature.Signature.{Signature}
use Rattle.arr_core.specs.Stores.{Store, found}
use Rattle.block_file.specs.Limits.{last_block}
use Rattle.block_file.specs.State.{free_up_to}
use Rattle.catalogue.specs.Bytes.{catalogue_bytes}
use Rattle.job_desk.specs.Desks.{DeskView}
use Rattle.raster_store.specs.Views.{Index, SnapshotView, AreIntact, listed_all, listed_snapshots, reserve}
use Rattle.raster_store.specs.Calls.{signature_of, AreSameSignatures}
use Rattle.raster_store.specs.Snapshots.{AreIntactSnapshots, AreSameSnapshots}

-- The store; the index of each field of each coverage; what is held for jobs; what the disk holds, whether it is
-- honest, how many of its calls have failed, and how often an honest one was read past its end; and how many tiles were
-- fetched.
pub record ServerView : Type 0 where
  pub store : Store
  pub indexes : List (List Index)
  pub held : List SnapshotView
  pub content : List ℕ
  pub honest : Bool
  pub failures : ℕ
  pub overreads : ℕ
  pub fetched : ℕ

-- A server in a session: its coverages, and its jobs.
pub record SessionView : Type 0 where
  pub coverages : ServerView
  pub desk : DeskView

abbrev pub session : ServerView → DeskView → SessionView
session coverages desk = record { coverages = coverages; desk = desk }

-- the signatures of a store
abbrev pub signatures_of : Store → List Signature
signatures_of store = map signature_of store

-- the store has a coverage of this signature
abbrev pub IsHeld : Store → Signature → Type 0
IsHeld store s = IsSomeAnd (found s.name store) (λ c. signature_of c ≡ s)

-- the disk is honest, and every listed tile spells its cells, of the store and of what is held
pub record IsSound (v : ServerView) : Type 0 where
  pub honest : IsTrue v.honest
  pub intact : AreIntact v.content v.store v.indexes
  pub held : AreIntactSnapshots v.content v.held

-- What is held for jobs is what it was, on an honest disk with its values.
pub record KeepsHeld (old new : ServerView) : Type 0 where
  pub told : AreSameSnapshots old.held new.held
  pub values : IsTrue old.honest → new.held ≡ old.held

-- What a refusal leaves: the signatures, the indexes and what is held as they were, and on an honest disk the store.
pub record IsUnchanged (old new : ServerView) : Type 0 where
  pub indexes : new.indexes ≡ old.indexes
  pub signatures : AreSameSignatures old.store new.store
  pub store : IsTrue old.honest → new.store ≡ old.store
  pub held : KeepsHeld old new

-- how often a block is in use: as often as the indexes list it, and what is held for jobs
abbrev pub uses_in : List (List Index) → List SnapshotView → ℕ → ℕ
uses_in indexes held k = listed_all indexes k + listed_snapshots held k

-- How many blocks of a disk are free: of those behind the header as many as no index lists and nothing that is held for
-- jobs.
abbrev pub free_in : List (List Index) → List SnapshotView → ℕ
free_in indexes held = free_up_to last_block (uses_in indexes held)

abbrev pub free_blocks : ServerView → ℕ
free_blocks v = free_in v.indexes v.held

-- The catalogue is that of the store; each block is in use exactly as often as the indexes and what is held list it, of
-- which the indexes list it once at most; and as many blocks are free as the metadata takes.
pub record IsClosable (catalogue : List Signature) (store : Store) (indexes : List (List Index))
    (held : List SnapshotView) (uses : ℕ → ℕ) : Type 0 where
  pub signatures : catalogue ≡ signatures_of store
  pub counted : (k : ℕ) → uses k ≡ uses_in indexes held k
  pub once : (k : ℕ) → listed_all indexes k ≤ 1
  pub room : reserve (length (catalogue_bytes catalogue)) indexes ≤ free_in indexes held

-- what reading leaves as it is: all but the counts
abbrev pub still_of : ServerView → ServerView
still_of v = record v { failures = 0; fetched = 0 }

-- what holding and releasing leave as it is besides: all but what is held
abbrev pub without_held : ServerView → ServerView
without_held v = record v { held = [] }

-- a server whose jobs were let go: nothing is held for one
abbrev pub without_jobs : SessionView → SessionView
without_jobs v = session (without_held v.coverages) (record { jobs = []; next = v.desk.next })
