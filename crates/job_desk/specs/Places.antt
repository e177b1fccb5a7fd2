-- Where a job stands among the jobs.
use Rattle.std.specs.Prelude.{◌≡◌, ℕ, ◌<◌, List, length, slice_get, slice_set}
use Rattle.std.specs.List.{remove}
use Rattle.job_desk.specs.declared.job.Job.{Job}
use Rattle.job_desk.specs.Desks.{job_of, replaced, without}

-- the job with a number stands at a place, where it is made another or taken out
pub record IsPlace (n : ℕ) (jobs : List Job) (place : ℕ) : Type 0 where
  pub within : place < length jobs
  pub held : job_of n jobs ≡ slice_get jobs place
  pub replaced : (job : Job) → slice_set jobs place job ≡ replaced n job jobs
  pub without : remove jobs place ≡ without n jobs
