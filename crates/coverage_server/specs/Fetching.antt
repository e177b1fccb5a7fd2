-- How many tiles a request fetches.
use Rattle.std.specs.Prelude.{◌≡◌, ◌⊎◌, ℕ, ◌+◌, ◌*◌, ◌≤◌, ℤ, List, length, Result, Ok, Err, sum_by}
use Rattle.arr_core.specs.declared.refusal.Refusal.TheVariants.{Damaged, DiskFault, NoMemory}
use Rattle.arr_core.specs.Refusals.{number_of}
use Rattle.job_desk.specs.Desks.{DeskView}
use Rattle.job_desk.specs.Steps.{IsChanged}
use Rattle.plan_ir.specs.Placed.{IsPlan}
use Rattle.plan_ir.specs.Planned.{planned}
use Rattle.plan_ir.specs.Plans.{PlanTree}
use Rattle.plan_ir.specs.Units.{boxes, bound, units}
use Rattle.plan_rewrite.specs.Everywhere.{Everywhere}
use Rattle.plan_rewrite.specs.Rewritten.{NoInlinableBind, NoFoldIsClosed}
use Rattle.tile_exec.specs.Standing.{most_fetched}
use Rattle.wcps_mean.specs.Answer.{answer}
use Rattle.wcps_types.specs.Work.{query_work}
use Rattle.wcps_types.specs.Typed.{TypedTree}
use Rattle.http_front.specs.declared.connection.Next.{Next}
use Rattle.http_front.specs.declared.connection.Next.TheVariants.{Message, Ended, ReadFault}
use Rattle.http_front.specs.declared.connection.Next.TheVariants as next
use Rattle.http_front.specs.declared.reply.Reply.{Reply}
use Rattle.http_front.specs.declared.reply.Reply.TheVariants.{Text, Csv, Refused}
use Rattle.kvp_front.specs.Requests.{Asks, insert_coverage, update_coverage, delete_coverage, list_coverages, describe_coverage, process_coverages, submit_query, step_job, fetch_job, cancel_job, expand_template, process_template, spelled}
use Rattle.kvp_front.specs.Templates.{Template}
use Rattle.kvp_front.specs.declared.request.RequestError.{RequestError}
use Rattle.coverage_server.specs.declared.error.AnswerError.{AnswerError}
use Rattle.coverage_server.specs.Asking.{TextTyped}
use Rattle.coverage_server.specs.Leaving.{refusal_number}
use Rattle.coverage_server.specs.Templates.{expansion}
use Rattle.coverage_server.specs.Views.{ServerView, SessionView, session}

-- A plan of a typed query reads the query's coverages, gives its answer over any cells, and has few units. No bind is
-- left in it that could be inlined, and no fold that could be a pass.
pub record IsPlanOf (q : TypedTree) (plan : PlanTree) : Type 0 where
  pub placed : IsPlan plan
  pub coverages : plan.coverages ≡ q.coverages
  pub planned : (s : ℕ → ℕ → List ℤ → ℤ) → planned s plan ≡ answer s q
  pub units : units plan ≤ length q.combinations * (2 + query_work q.combinations)
  pub some : 1 ≤ length q.combinations
  pub reduced : Everywhere NoInlinableBind plan
  pub no_closed : Everywhere NoFoldIsClosed plan

-- no tile was fetched
abbrev pub FetchesNone : ServerView → ServerView → Type 0
FetchesNone old new = new.fetched ≡ old.fetched

-- at most so many tiles the units of a plan fetch together
abbrev pub most_of_plan : PlanTree → ℕ
most_of_plan plan = sum_by (bound plan) (boxes plan)

-- no more tiles were fetched than that
abbrev pub FetchesBoxes : PlanTree → ServerView → ServerView → Type 0
FetchesBoxes plan old new = new.fetched ≤ old.fetched + most_of_plan plan

-- no more tiles were fetched than the sum of the bounds of the boxes of a plan of the query
abbrev pub FetchesPlan : TypedTree → ServerView → ServerView → Type 0
FetchesPlan q old new = (plan : PlanTree) × IsPlanOf q plan × FetchesBoxes plan old new

-- so it is with the query that a text is over the store
abbrev pub FetchesText : List ℕ → ServerView → ServerView → Type 0
FetchesText text old new = (q : TypedTree) × TextTyped old.store text (Ok q) × FetchesPlan q old new

-- and with the text of a template
abbrev pub FetchesTemplate : Template → ServerView → ServerView → Type 0
FetchesTemplate template old new = (text : List ℕ) × (expansion template old.store ≡ Ok text) × FetchesText text old new

-- no more tiles were fetched than the sum of the bounds of the boxes of those units that the job with a number has done
-- meanwhile
abbrev pub FetchesUnits : ℕ → SessionView → SessionView → Type 0
FetchesUnits number old new =
    IsChanged (λ was is. new.coverages.fetched ≤ old.coverages.fetched + most_fetched was.exec is.exec) number
    old.desk new.desk

-- want of memory, a disk fault or damage, by its number
abbrev pub IsFailure : ℕ → Type 0
IsFailure code = (code ≡ number_of NoMemory) ⊎ (code ≡ number_of DiskFault) ⊎ (code ≡ number_of Damaged)

-- This holds, or the reply tells of such a failure. How many tiles were fetched before one is not said.
abbrev pub UnlessFailed : Reply → Type 0 → Type 0
UnlessFailed (Text text) P = P
UnlessFailed (Csv text) P = P
UnlessFailed (Refused code) P = IsFailure code ⊎ P

-- the same of an answer that is not yet told
abbrev pub UnlessFails : {A : Type 0} → Result A AnswerError → Type 0 → Type 0
UnlessFails (Ok a) P = P
UnlessFails (Err e) P = IsFailure (refusal_number e) ⊎ P

-- what the answers to the text of a query and to a template fetch, and a step of a job
abbrev pub FetchesForText : {A : Type 0} → List ℕ → ServerView → ServerView → Result A AnswerError → Type 0
FetchesForText text old new result = UnlessFails result (FetchesNone old new ⊎ FetchesText text old new)

abbrev pub FetchesForTemplate : {A : Type 0} → Template → ServerView → ServerView → Result A AnswerError → Type 0
FetchesForTemplate template old new result = UnlessFails result (FetchesNone old new ⊎ FetchesTemplate template old new)

abbrev pub FetchesForJob : {A : Type 0} → ℕ → ServerView → DeskView → ServerView → DeskView → Result A AnswerError
    → Type 0
FetchesForJob number old desk new later result =
    UnlessFails result (FetchesNone old new ⊎ FetchesUnits number (session old desk) (session new later))

-- Nine requests fetch no tile. A query and the units of a job that are done fetch no more than the sum of the bounds of
-- their boxes; a query whose text is refused, a number of no job, and a job without units left fetch none.
abbrev pub FetchesBounded : Asks → Reply → SessionView → SessionView → Type 0
FetchesBounded (insert_coverage name intervals fields) reply old new = FetchesNone old.coverages new.coverages
FetchesBounded (update_coverage name field intervals cells) reply old new = FetchesNone old.coverages new.coverages
FetchesBounded (delete_coverage name) reply old new = FetchesNone old.coverages new.coverages
FetchesBounded list_coverages reply old new = FetchesNone old.coverages new.coverages
FetchesBounded (describe_coverage name) reply old new = FetchesNone old.coverages new.coverages
FetchesBounded (process_coverages query) reply old new =
    UnlessFailed reply (FetchesNone old.coverages new.coverages ⊎ FetchesText query old.coverages new.coverages)
FetchesBounded (submit_query query) reply old new = FetchesNone old.coverages new.coverages
FetchesBounded (step_job number units) reply old new =
    UnlessFailed reply (FetchesNone old.coverages new.coverages ⊎ FetchesUnits number old new)
FetchesBounded (fetch_job number) reply old new = FetchesNone old.coverages new.coverages
FetchesBounded (cancel_job number) reply old new = FetchesNone old.coverages new.coverages
FetchesBounded (expand_template template) reply old new = FetchesNone old.coverages new.coverages
FetchesBounded (process_template template) reply old new =
    UnlessFailed reply (FetchesNone old.coverages new.coverages ⊎ FetchesTemplate template old.coverages new.coverages)

-- A message that asks something fetches what that may, and one that is refused before fetches no tile.
abbrev pub FetchesRead : Result Asks RequestError → Reply → SessionView → SessionView → Type 0
FetchesRead (Ok asked) reply old new = FetchesBounded asked reply old new
FetchesRead (Err error) reply old new = FetchesNone old.coverages new.coverages

-- so it is with what a connection shows next
abbrev pub FetchesNext : Next → Reply → SessionView → SessionView → Type 0
FetchesNext (Message pairs) reply old new = FetchesRead (spelled pairs.items) reply old new
FetchesNext (next.Refused code) reply old new = FetchesNone old.coverages new.coverages
FetchesNext Ended reply old new = FetchesNone old.coverages new.coverages
FetchesNext ReadFault reply old new = FetchesNone old.coverages new.coverages
