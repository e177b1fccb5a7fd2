-- What a step makes of a job.
use Rattle.std.specs.Prelude.{◌≡◌, ℕ, zero, suc, ◌-◌, ◌<◌, min, List, Some, None, Result, Ok, Err, IfSome}
use Rattle.arr_core.specs.declared.signature.Signature.{Signature}
use Rattle.tile_columns.specs.Sources.{SourceState, OnlyReads, Tells}
use Rattle.tile_exec.specs.Standing.{plan_of, left_of}
use Rattle.tile_exec.specs.Running.{HasRun, FetchesWithin}
use Rattle.job_desk.specs.declared.job.Job.{Job}
use Rattle.job_desk.specs.declared.error.StepError.{StepError}
use Rattle.job_desk.specs.declared.error.StepError.TheVariants.{NoSuchJob, Cells}
use Rattle.job_desk.specs.declared.error.FetchError.{FetchError}
use Rattle.job_desk.specs.declared.error.FetchError.TheVariants as fetching
use Rattle.job_desk.specs.declared.error.SubmitError.{SubmitError}
use Rattle.job_desk.specs.declared.error.SubmitError.TheVariants as submitting
use Rattle.job_desk.specs.Desks.{DeskView, job_of, replaced, IsFull}

-- the same job, whose executor has done units, or none
pub record IsSameJob {K : Type 0} (source : SourceState K) (was is : Job) : Type 0 where
  pub number : is.number ≡ was.number
  pub names : is.names ≡ was.names
  pub run : HasRun source was.exec is.exec

-- the coverages of a job's plan
abbrev pub coverages_of : Job → List Signature
coverages_of j = (plan_of j.exec).coverages

-- the source has the coverages of the job's plan, if there is such a job and it has units left
abbrev pub HasCoverages : ℕ → List Job → List Signature → Type 0
HasCoverages n jobs coverages = IfSome (job_of n jobs) (λ (j : Job). 0 < j.left → coverages ≡ coverages_of j)

-- A job shows so many units less, but not below 0. Its executor does units until it has no more left than is shown. A
-- job without units left stays as it is.
pub record IsLowered {K : Type 0} (source : SourceState K) (units left : ℕ) (was is : Job) : Type 0 where
  pub same : IsSameJob source was is
  pub shown : (is.left ≡ left) × (left ≡ was.left - units)
  pub done : left_of is.exec ≡ min (left_of was.exec) left
  pub rest : was.left ≡ 0 → is ≡ was

-- A unit of a job failed: what it shows stays, and its executor keeps the units before the failed one.
pub record IsHeldUp {K : Type 0} (source : SourceState K) (units : ℕ) (was is : Job) : Type 0 where
  pub same : IsSameJob source was is
  pub shown : is.left ≡ was.left
  pub more : was.left - units < left_of is.exec

-- the job with a number became another, and nothing else changed
pub record IsChanged (Change : Job → Job → Type 0) (n : ℕ) (old new : DeskView) : Type 0 where
  pub was : Job
  pub is : Job
  pub held : job_of n old.jobs ≡ Some was
  pub change : Change was is
  pub desk : new ≡ record { jobs = replaced n is old.jobs; next = old.next }

-- why a step is refused
abbrev pub IsRefusedStep : {K : Type 0} → SourceState K → ℕ → ℕ → DeskView → DeskView → StepError → Type 0
IsRefusedStep source n units old new NoSuchJob = (job_of n old.jobs ≡ None) × (new ≡ old)
IsRefusedStep source n units old new (Cells e) = IsChanged (IsHeldUp source units) n old new

-- a job that there is not leaves the source's count of failures; a unit's report is told as it is
abbrev pub StepReports : {K : Type 0} → Result ℕ StepError → (K → Type 0) → SourceState K → SourceState K → Type 0
StepReports (Ok left) spelled old new = new.failures ≡ old.failures
StepReports (Err NoSuchJob) spelled old new = new.failures ≡ old.failures
StepReports (Err (Cells e)) spelled old new = Tells {A = ℕ} spelled (Err e) old new

-- How many tiles a step fetches: for the units that it does no more than the bounds of their boxes together, and none
-- where there is no such job. How many a unit that failed has fetched is not bounded.
abbrev pub StepFetches : {K : Type 0} → Result ℕ StepError → ℕ → DeskView → DeskView → SourceState K → SourceState K
    → Type 0
StepFetches (Ok left) n was is old new = IsChanged (λ was is. FetchesWithin was.exec is.exec old new) n was is
StepFetches (Err NoSuchJob) n was is old new = new.fetched ≡ old.fetched
StepFetches (Err (Cells e)) n was is old new = Unit {0}

-- a job without units left lets go of what was held for it; any other one, and one that failed, does not
abbrev pub Ends : Result ℕ StepError → Type 0 → Type 0 → Type 0
Ends (Ok zero) same gone = gone
Ends (Ok (suc left)) same gone = same
Ends (Err e) same gone = same

-- What a step makes of the source that it reads: once it is read, a job without units left lets go of what was held for
-- it.
pub record StepsSource {S K : Type 0} (state : S → SourceState K) (spelled : K → Type 0) (releases : S → ℕ → S → Type 0)
    (result : Result ℕ StepError) (n : ℕ) (was is : DeskView) (old new : S) : Type 0 where
  pub read : S
  pub reads : OnlyReads (state old) (state read)
  pub reports : StepReports result spelled (state old) (state read)
  pub ends : Ends result (new ≡ read) (releases read n new)
  pub fetched : StepFetches result n was is (state old) (state read)

-- why no answer is fetched
abbrev pub IsRefusedFetch : ℕ → List Job → FetchError → Type 0
IsRefusedFetch n jobs fetching.NoSuchJob = job_of n jobs ≡ None
IsRefusedFetch n jobs fetching.NotReady = (job : Job) × (job_of n jobs ≡ Some job) × (0 < job.left)
IsRefusedFetch n jobs fetching.NoMemory = (job : Job) × (job_of n jobs ≡ Some job) × (job.left ≡ 0)

-- why a plan is not taken
abbrev pub IsRefusedSubmit : DeskView → SubmitError → Type 0
IsRefusedSubmit desk submitting.TooManyJobs = IsFull desk
IsRefusedSubmit desk submitting.NoMemory = ¬ IsFull desk
