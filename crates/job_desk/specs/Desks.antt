-- The desk: the jobs that are held, in the order of their numbers, and the number that the next one gets.
use Rattle.std.specs.Prelude.{◌≡◌, ℕ, ◌<◌, ◌≤◌, nat_eq, cond, ◌⊎◌, List, [], ◌∷◌, ◌++◌, length, Option, Some, None}
use Rattle.std.specs.List.{find, All, AllPairs}
use Rattle.arr_core.specs.Numbers.{number_after}
use Rattle.plan_ir.specs.Plans.{PlanTree}
use Rattle.tile_exec.specs.declared.exec.Exec.{Exec}
use Rattle.tile_exec.specs.declared.answer.Answer.{Answer}
use Rattle.tile_exec.specs.Answering.{AnswersFor}
use Rattle.tile_exec.specs.Standing.{IsBegun, left_of}
use Rattle.job_desk.specs.declared.job.Job.{Job}

-- the jobs, and the number of the next one: none where the last `u64` has been given
pub record DeskView : Type 0 where
  pub jobs : List Job
  pub next : Option ℕ

-- the job with a number
abbrev pub job_of : ℕ → List Job → Option Job
job_of n jobs = find (λ (j : Job). nat_eq j.number n) jobs

-- the jobs, where the one with a number is made another
abbrev pub replaced : ℕ → Job → List Job → List Job
replaced n job [] = []
replaced n job (j ∷ jobs) = cond (nat_eq j.number n) (job ∷ jobs) (j ∷ replaced n job jobs)

-- the jobs without the one with a number
abbrev pub without : ℕ → List Job → List Job
without n [] = []
without n (j ∷ jobs) = cond (nat_eq j.number n) jobs (j ∷ without n jobs)

-- the desk without the job with a number
abbrev pub taken_out : ℕ → DeskView → DeskView
taken_out n desk = record { jobs = without n desk.jobs; next = desk.next }

-- how many jobs are held at most
abbrev pub max_jobs : ℕ
max_jobs = 64

-- no job is taken: so many are held, or no number is left
abbrev pub IsFull : DeskView → Type 0
IsFull desk = (max_jobs ≤ length desk.jobs) ⊎ (desk.next ≡ None)

-- A job that is held: its executor has no more units left than it shows.
pub record IsJob (j : Job) : Type 0 where
  pub ahead : left_of j.exec ≤ j.left

-- no more jobs than that, whose numbers rise and are below the next one
pub record IsDesk (desk : DeskView) : Type 0 where
  pub each : All IsJob desk.jobs
  pub few : length desk.jobs ≤ max_jobs
  pub rising : AllPairs (λ (a b : Job). a.number < b.number) desk.jobs
  pub below : (n : ℕ) → desk.next ≡ Some n → All (λ (j : Job). j.number < n) desk.jobs

-- a plan was taken as a job: it stands last, has the next number, those names, and an executor that has done nothing
pub record IsSubmitted (tree : PlanTree) (coverages : List (List ℕ)) (n units : ℕ) (old new : DeskView) : Type 0 where
  pub job : Job
  pub room : length old.jobs < max_jobs
  pub given : old.next ≡ Some n
  pub number : job.number ≡ n
  pub names : job.names ≡ coverages
  pub left : (job.left ≡ units) × (left_of job.exec ≡ units)
  pub begun : IsBegun tree job.exec
  pub desk : new ≡ record { jobs = old.jobs ++ job ∷ []; next = number_after n }

-- what does a plan's units came to be a job, whatever the plan is
abbrev pub IsTakenIn : Exec → List (List ℕ) → ℕ → ℕ → DeskView → DeskView → Type 0
IsTakenIn exec coverages n units old new =
    (tree : PlanTree) → IsBegun tree exec → IsSubmitted tree coverages n units old new

-- a job without units left was taken out, and its answer is what its plan gives over what its executor stands for
pub record IsFetched (n : ℕ) (given : Answer) (old new : DeskView) : Type 0 where
  pub job : Job
  pub held : job_of n old.jobs ≡ Some job
  pub done : job.left ≡ 0
  pub answer : AnswersFor job.exec given
  pub desk : new ≡ taken_out n old
