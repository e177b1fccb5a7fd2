-- What is held for jobs: how it comes and goes, and for which jobs it is.
use Rattle.std.specs.Prelude.{◌≡◌, ℕ, ◌<◌, nat_lt, List, [], ◌∷◌, ◌++◌, map, All, None, Some, IsSomeAnd}
use Rattle.std.specs.List.{filter}
use Rattle.job_desk.specs.declared.job.Job.{Job as Held}
use Rattle.job_desk.specs.Desks.{DeskView}
use Rattle.arr_core.specs.declared.signature.Signature.{Signature}
use Rattle.arr_core.specs.Stores.{Coverage}
use Rattle.raster_store.specs.Snapshots.{held_for, without_job, distinct, AreNames, IsSnapshot}
use Rattle.raster_store.specs.Views.{SnapshotView}
use Rattle.tile_exec.specs.Standing.{plan_of}
use Rattle.coverage_server.specs.Views.{IsHeld, ServerView, IsSound, without_held}

-- nothing is held for the number yet, and the store has coverages with the names
abbrev pub MayHold : ℕ → List (List ℕ) → ServerView → Type 0
MayHold number names v = (held_for number v.held ≡ None) × AreNames names v.store

-- The coverages with names came to be held for a number, each as it is, and nothing else has changed.
pub record HoldsFor (number : ℕ) (names : List (List ℕ)) (old new : ServerView) : Type 0 where
  pub snapshot : SnapshotView
  pub job : snapshot.job ≡ number
  pub is : IsSnapshot names old.store old.indexes snapshot
  pub held : new.held ≡ old.held ++ snapshot ∷ []
  pub others : without_held new ≡ without_held old
  pub sound : IsSound old → IsSound new

-- What was held for a number is held no more, and nothing else has changed.
pub record ReleasesFor (number : ℕ) (old new : ServerView) : Type 0 where
  pub held : new.held ≡ without_job number old.held
  pub others : without_held new ≡ without_held old
  pub sound : IsSound old → IsSound new

-- the numbers of the jobs that have units left, in their order
abbrev pub reading : List Held → List ℕ
reading jobs = map (λ (j : Held). j.number) (filter (λ (j : Held). nat_lt 0 j.left) jobs)

-- what is held are these coverages, each once, and nothing else
pub record AreHeldOnce (x : SnapshotView) (asked : List Signature) : Type 0 where
  pub held : All (IsHeld x.coverages) asked
  pub once : map (λ (c : Coverage). c.name) x.coverages ≡ distinct (map (λ (s : Signature). s.name) asked)

-- for a job that has units left the coverages of its plan are held
abbrev pub HoldsPlan : List SnapshotView → Held → Type 0
HoldsPlan held j = 0 < j.left → IsSomeAnd (held_for j.number held) (λ x. AreHeldOnce x (plan_of j.exec).coverages)

-- Between two requests coverages are held for the jobs that have units left, in their order, and for nothing else; for
-- each of them those of its plan, each once. No job has number 0.
pub record IsHolding (desk : DeskView) (held : List SnapshotView) : Type 0 where
  pub jobs : map (λ (x : SnapshotView). x.job) held ≡ reading desk.jobs
  pub plans : All (HoldsPlan held) desk.jobs
  pub numbers : All (λ (j : Held). 0 < j.number) desk.jobs
  pub next : (n : ℕ) → desk.next ≡ Some n → 0 < n
