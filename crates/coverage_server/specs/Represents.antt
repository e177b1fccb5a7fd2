-- Which state of the machine a server represents, and that an answer is a step of the machine. The answer of a job is
-- not stored while it runs: it is the one that the plan of its executor has over the cells for which the executor
-- stands.
use Rattle.std.specs.Prelude.{◌≡◌, ◌⊎◌, ℕ, ◌<◌, ℤ, List, [], ◌∷◌, All, IsSomeAnd, IsTrue}
use Rattle.arr_core.specs.declared.refusal.Refusal.TheVariants.{Damaged}
use Rattle.http_front.specs.declared.reply.Reply.{Reply}
use Rattle.job_desk.specs.declared.job.Job.{Job as Held}
use Rattle.kvp_front.specs.Requests.{Asks}
use Rattle.plan_ir.specs.Planned.{planned}
use Rattle.raster_store.specs.Views.{SnapshotView}
use Rattle.raster_store.specs.Snapshots.{held_for}
use Rattle.tile_exec.specs.Standing.{StandsFor, plan_of}
use Rattle.coverage_server.specs.Asking.{cells_of, items_answer}
use Rattle.coverage_server.specs.Damage.{IsIntactNamed, AreIntactHeld, AreHeldWhole, Spoils}
use Rattle.coverage_server.specs.Layouts.{layout_of}
use Rattle.coverage_server.specs.Machine.{Job, State, Refuses}
use Rattle.coverage_server.specs.Runs.{Placed, Fails, ServesPlaced, LacksRoomAt}
use Rattle.coverage_server.specs.Views.{SessionView}

-- these are the cells, of what is held for a job, that the job reads
abbrev pub IsReading : SnapshotView → (ℕ → ℕ → List ℤ → ℤ) → Held → Type 0
IsReading x cells held = cells ≡ cells_of x.coverages (plan_of held.exec).coverages

-- A job of the desk stands for one of the machine: its executor stands for some cells, over which its plan has the
-- job's answer. While it has units left these are the cells of what is held for it.
pub record StandsAs (snapshots : List SnapshotView) (held : Held) (job : Job) : Type 0 where
  pub number : job.number ≡ held.number
  pub names : job.names ≡ held.names
  pub left : job.left ≡ held.left
  pub cells : ℕ → ℕ → List ℤ → ℤ
  pub stands : StandsFor cells held.exec
  pub answer : job.answer ≡ items_answer (planned cells (plan_of held.exec))
  pub reading : 0 < held.left → IsSomeAnd (held_for held.number snapshots) (λ x. IsReading x cells held)

-- one for one, in their order
abbrev pub AreJobs : List SnapshotView → List Held → List Job → Type 0
AreJobs snapshots [] [] = Unit {0}
AreJobs snapshots (h ∷ helds) (j ∷ jobs) = StandsAs snapshots h j × AreJobs snapshots helds jobs
AreJobs snapshots [] (j ∷ jobs) = ⊥
AreJobs snapshots (h ∷ helds) [] = ⊥

-- the store, the jobs and the next number of the state are those of the server
pub record Represents (v : SessionView) (s : State) : Type 0 where
  pub store : s.store ≡ v.coverages.store
  pub jobs : AreJobs v.coverages.held v.desk.jobs s.jobs
  pub next : s.next ≡ v.desk.next

-- So is the state, its tiles lie as those of the server do, its count of failures is the disk's, and where the disk is
-- honest the coverages that are told to be intact are, and the blocks of what is held are whole.
pub record Places (v : SessionView) (p : Placed) : Type 0 where
  pub state : Represents v p.state
  pub layout : p.layout ≡ layout_of v.coverages
  pub intact : IsTrue v.coverages.honest → All (IsIntactNamed v.coverages) p.intact
  pub held : IsTrue v.coverages.honest → AreIntactHeld v.coverages.content v.coverages.held p.held
  pub blocks : IsTrue v.coverages.honest → AreHeldWhole v.coverages.content v.coverages.held
  pub failures : p.failures ≡ v.coverages.failures

-- Refinement: on an honest disk each state of the machine that the server represents, with its tiles where they lie,
-- leads by a step to one that it then represents.
abbrev pub Refines : (Placed → Placed → Type 0) → SessionView → SessionView → Type 0
Refines step old new =
    IsTrue old.coverages.honest → (p : Placed) → Places old p → (q : Placed) × Places new q × step p q

-- A reply of the machine, or a failure: want of memory at any time, a disk fault where the disk's count of failures
-- rose or stands at its last value, want of room where the request asks for more blocks than are free, and damage where
-- a tile that is in the way of the request is not spelled.
abbrev pub Steps : Asks → SessionView → Placed → Reply → Placed → Type 0
Steps asks old p reply q =
    ServesPlaced asks p reply q ⊎ Fails (LacksRoomAt asks p) p reply q
    ⊎ (Spoils asks old.coverages p.state × Refuses Damaged p reply q)
