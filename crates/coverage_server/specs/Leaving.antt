-- What calls leave of the coverages, and what a refused request leaves, on any disk.
use Rattle.std.specs.Prelude.{◌≡◌, ◌⊎◌, ℕ, ◌≤◌, Result, Ok, Err, ⊤}
use Rattle.arr_core.specs.declared.refusal.Refusal.{Refusal}
use Rattle.arr_core.specs.declared.refusal.Refusal.TheVariants as refusal
use Rattle.arr_core.specs.Refusals.{number_of}
use Rattle.block_file.specs.Format.{KeepsHeader}
use Rattle.tile_exec.specs.declared.answer.Answer.TheVariants as given
use Rattle.job_desk.specs.declared.job.Job.{Job as Held}
use Rattle.job_desk.specs.Desks.{DeskView, IsFetched}
use Rattle.job_desk.specs.Steps.{IsChanged}
use Rattle.tile_exec.specs.Standing.{plan_of, left_of}
use Rattle.wcps_mean.specs.declared.cell.PointFault.{PointFault}
use Rattle.wcps_mean.specs.Faults.{refusal_of as fault_refusal}
use Rattle.http_front.specs.declared.reply.Reply.{Reply}
use Rattle.http_front.specs.declared.reply.Reply.TheVariants.{Text, Csv, Refused}
use Rattle.kvp_front.specs.Requests.{Asks, insert_coverage, update_coverage, delete_coverage, list_coverages, describe_coverage, process_coverages, submit_query, step_job, fetch_job, cancel_job, expand_template, process_template}
use Rattle.coverage_server.specs.declared.error.AnswerError.{AnswerError}
use Rattle.coverage_server.specs.declared.error.AnswerError.TheVariants.{Named, NoMemory, DiskFault, NoRoom, Damaged}
use Rattle.coverage_server.specs.Views.{ServerView, SessionView, IsSound, IsUnchanged, still_of, without_held}

-- What every call leaves: what was sound is so, the header tells what it told, the disk is as honest as it was, its
-- count of failures has not fallen, and an honest one was read nowhere past its end.
pub record Continues (old new : ServerView) : Type 0 where
  pub sound : IsSound old → IsSound new
  pub header : KeepsHeader old.content new.content
  pub honest : new.honest ≡ old.honest
  pub no_fewer : old.failures ≤ new.failures
  pub overreads : new.overreads ≡ old.overreads

-- What a call leaves that changes the coverages in memory alone: what was sound is so, the disk, what is held for jobs
-- and the count of tiles that were fetched are as they were.
pub record KeepsDisk (old new : ServerView) : Type 0 where
  pub sound : IsSound old → IsSound new
  pub content : new.content ≡ old.content
  pub honest : new.honest ≡ old.honest
  pub failures : new.failures ≡ old.failures
  pub overreads : new.overreads ≡ old.overreads
  pub held : new.held ≡ old.held
  pub fetched : new.fetched ≡ old.fetched

-- nothing has changed but what is held for jobs, and what was sound is so
pub record ChangesHeld (old new : ServerView) : Type 0 where
  pub others : without_held new ≡ without_held old
  pub sound : IsSound old → IsSound new

-- nothing has changed but what is held for jobs and the counts, of which that of failures has not fallen, and what was
-- sound is so
pub record ReadsHeld (old new : ServerView) : Type 0 where
  pub others : still_of (without_held new) ≡ still_of (without_held old)
  pub sound : IsSound old → IsSound new
  pub no_fewer : old.failures ≤ new.failures

-- A job is as it was, but that its executor may have done some of the units that it shows as left.
pub record IsStill (was is : Held) : Type 0 where
  pub number : is.number ≡ was.number
  pub names : is.names ≡ was.names
  pub left : is.left ≡ was.left
  pub plan : plan_of is.exec ≡ plan_of was.exec
  pub fewer : left_of is.exec ≤ left_of was.exec

-- the jobs are as they were, but for one that is so
abbrev pub LeavesJob : ℕ → DeskView → DeskView → Type 0
LeavesJob n old new = (new ≡ old) ⊎ IsChanged IsStill n old new

-- The jobs are as they were; or the refusal is the fault that was the answer of a job that was done, and which was
-- fetched.
abbrev pub LeavesFetched : ℕ → ℕ → DeskView → DeskView → Type 0
LeavesFetched n code old new =
    (new ≡ old) ⊎ ((f : PointFault) × (code ≡ number_of (fault_refusal f)) × IsFetched n (given.Refused f) old new)

-- what a request that is refused by a number leaves of the jobs
abbrev pub LeavesJobs : Asks → ℕ → DeskView → DeskView → Type 0
LeavesJobs (insert_coverage name intervals fields) code old new = new ≡ old
LeavesJobs (update_coverage name field intervals cells) code old new = new ≡ old
LeavesJobs (delete_coverage name) code old new = new ≡ old
LeavesJobs list_coverages code old new = new ≡ old
LeavesJobs (describe_coverage name) code old new = new ≡ old
LeavesJobs (process_coverages query) code old new = new ≡ old
LeavesJobs (submit_query query) code old new = new ≡ old
LeavesJobs (step_job number units) code old new = LeavesJob number old new
LeavesJobs (fetch_job number) code old new = LeavesFetched number code old new
LeavesJobs (cancel_job number) code old new = new ≡ old
LeavesJobs (expand_template template) code old new = new ≡ old
LeavesJobs (process_template template) code old new = new ≡ old

-- What a request that is refused by a number leaves: the coverages as they were, and the jobs.
pub record Leaves (asks : Asks) (code : ℕ) (old new : SessionView) : Type 0 where
  pub coverages : IsUnchanged old.coverages new.coverages
  pub jobs : LeavesJobs asks code old.desk new.desk

-- the refusal that is told of it that a request is not answered
abbrev pub refusal_of : AnswerError → Refusal
refusal_of (Named r) = r
refusal_of NoMemory = refusal.NoMemory
refusal_of DiskFault = refusal.DiskFault
refusal_of NoRoom = refusal.NoRoom
refusal_of Damaged = refusal.Damaged

-- and its number
abbrev pub refusal_number : AnswerError → ℕ
refusal_number e = number_of (refusal_of e)

-- the reply to a request, where a refusal is told by its number
abbrev pub reply_of : Result Reply AnswerError → Reply
reply_of (Ok reply) = reply
reply_of (Err e) = Refused (refusal_number e)

-- a reply that tells no disk fault leaves the count of the disk's failures as it was
abbrev pub LeavesFailures : Reply → ServerView → ServerView → Type 0
LeavesFailures reply old new = (reply ≡ Refused (number_of refusal.DiskFault) → ⊥) → new.failures ≡ old.failures

-- what follows of a reply that is a refusal
abbrev pub IfRefused : Reply → (ℕ → Type 0) → Type 0
IfRefused (Text text) P = ⊤
IfRefused (Csv text) P = ⊤
IfRefused (Refused code) P = P code
