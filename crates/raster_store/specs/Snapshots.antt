-- What is held for jobs: coverages as they were.
use Rattle.std.specs.Prelude.{◌≡◌, ℕ, nat_eq, not, cond, IsTrue, List, [], ◌∷◌, ◌++◌, map, All}
use Rattle.std.specs.Prelude.{Option, Some, None, option_map, slice_get, IsSomeAnd}
use Rattle.std.specs.List.{AllByRecursion as Each, filter, find}
use Rattle.std.specs.Option.{option_or}
use Rattle.std.specs.Str.{bytes_eq}
use Rattle.arr_core.specs.Stores.{Coverage, Store, found}
use Rattle.block_file.specs.State.{BlocksState, none}
use Rattle.block_file.specs.Words.{Recounts}
use Rattle.raster_store.specs.Views.{Index, SnapshotView, RasterView, AreIntact, listed_all, listed_snapshots}
use Rattle.raster_store.specs.Calls.{AreSameSignatures}

-- what is held for a job
abbrev pub held_for : ℕ → List SnapshotView → Option SnapshotView
held_for job snapshots = find (λ (x : SnapshotView). nat_eq x.job job) snapshots

-- what is held without what is held for a job
abbrev pub without_job : ℕ → List SnapshotView → List SnapshotView
without_job job [] = []
without_job job (x ∷ snapshots) = cond (nat_eq x.job job) snapshots (x ∷ without_job job snapshots)

-- a store as it was when a job began to hold coverages of it
abbrev pub as_held : {B : Type 0} → RasterView B → SnapshotView → RasterView B
as_held v x = record v { coverages = x.coverages; indexes = x.indexes }

abbrev pub job_view : {B : Type 0} → ℕ → RasterView B → Option (RasterView B)
job_view job v = option_map (as_held v) (held_for job v.snapshots)

-- what a number reads: what is held for it, and for number 0 the store as it is where nothing is
abbrev pub held_view : {B : Type 0} → ℕ → RasterView B → Option (RasterView B)
held_view job v = option_or (job_view job v) (cond (nat_eq job 0) (Some v) None)

-- there is what a number reads, and a fact is true of it
abbrev pub OnHeldFor : {B : Type 0} → ℕ → RasterView B → (RasterView B → Type 0) → Type 0
OnHeldFor job v fact = IsSomeAnd (held_view job v) fact

-- each is the name of a coverage
abbrev pub AreNames : List (List ℕ) → Store → Type 0
AreNames names coverages = All (λ (n : List ℕ). found n coverages ≡ None → ⊥) names

-- these are coverages of a store, with the indexes that they have there
abbrev pub AreCopied : Store → List (List Index) → Store → List (List Index) → Type 0
AreCopied coverages indexes [] [] = Unit {0}
AreCopied coverages indexes (c ∷ copies) (i ∷ chosen) =
    ((place : ℕ) × (slice_get coverages place ≡ Some c) × (slice_get indexes place ≡ Some i))
    × AreCopied coverages indexes copies chosen
AreCopied coverages indexes [] (i ∷ chosen) = ⊥
AreCopied coverages indexes (c ∷ copies) [] = ⊥

-- names, each at its first place alone
unfoldable pub distinct : List (List ℕ) → List (List ℕ)
distinct [] = []
distinct (n ∷ names) = n ∷ filter (λ (m : List ℕ). not (bytes_eq m n)) (distinct names)

-- What is held for a job are the coverages with these names, each as it is and once, and nothing else.
pub record IsSnapshot (names : List (List ℕ)) (coverages : Store) (indexes : List (List Index)) (x : SnapshotView)
    : Type 0 where
  pub named : All (λ (n : List ℕ). found n x.coverages ≡ found n coverages) names
  pub copied : AreCopied coverages indexes x.coverages x.indexes
  pub once : map (λ (c : Coverage). c.name) x.coverages ≡ distinct names

-- every listed tile of what is held spells its cells
abbrev pub AreIntactSnapshots : List ℕ → List SnapshotView → Type 0
AreIntactSnapshots content snapshots = Each (λ (x : SnapshotView). AreIntact content x.coverages x.indexes) snapshots

-- the same is held for the same jobs, but for the values
abbrev pub AreSameSnapshots : List SnapshotView → List SnapshotView → Type 0
AreSameSnapshots [] [] = Unit {0}
AreSameSnapshots (x ∷ old) (y ∷ new) =
    (y.job ≡ x.job) × AreSameSignatures x.coverages y.coverages × (y.indexes ≡ x.indexes) × AreSameSnapshots old new
AreSameSnapshots [] (y ∷ new) = ⊥
AreSameSnapshots (x ∷ old) [] = ⊥

-- What is held for jobs is what it was, on an honest disk with its values, and spelled where it was.
pub record KeepsSnapshots {B : Type 0} (state : B → BlocksState) (old new : RasterView B) : Type 0 where
  pub told : AreSameSnapshots old.snapshots new.snapshots
  pub values : IsTrue (state old.blocks).honest → new.snapshots ≡ old.snapshots
  pub intact : IsTrue (state old.blocks).honest → AreIntactSnapshots (state old.blocks).content old.snapshots
      → AreIntactSnapshots (state new.blocks).content new.snapshots

-- the coverages, their indexes and the count of fetched tiles are what they were
pub record SameStore {B : Type 0} (old new : RasterView B) : Type 0 where
  pub coverages : new.coverages ≡ old.coverages
  pub indexes : new.indexes ≡ old.indexes
  pub fetched : new.fetched ≡ old.fetched

-- Coverages are held for a job: each of their blocks is in use so often more.
pub record Holds {B : Type 0} (state : B → BlocksState) (number : ℕ) (names : List (List ℕ)) (old new : RasterView B)
    : Type 0 where
  pub snapshot : SnapshotView
  pub job : snapshot.job ≡ number
  pub is : IsSnapshot names old.coverages old.indexes snapshot
  pub intact : AreIntact (state old.blocks).content old.coverages old.indexes
      → AreIntact (state old.blocks).content snapshot.coverages snapshot.indexes
  pub snapshots : new.snapshots ≡ old.snapshots ++ snapshot ∷ []
  pub same : SameStore old new
  pub recounts : Recounts none (listed_all snapshot.indexes) (state old.blocks) (state new.blocks)

-- nothing is held that was not
pub record HoldsNone {B : Type 0} (state : B → BlocksState) (old new : RasterView B) : Type 0 where
  pub snapshots : new.snapshots ≡ old.snapshots
  pub same : SameStore old new
  pub blocks : state new.blocks ≡ state old.blocks

-- Nothing is held for a job any more, and each block is in use as often less as it was held for it.
pub record Releases {B : Type 0} (state : B → BlocksState) (number : ℕ) (old new : RasterView B) : Type 0 where
  pub snapshots : new.snapshots ≡ without_job number old.snapshots
  pub same : SameStore old new
  pub recounts : Recounts (listed_snapshots old.snapshots) (listed_snapshots new.snapshots)
      (state old.blocks) (state new.blocks)
