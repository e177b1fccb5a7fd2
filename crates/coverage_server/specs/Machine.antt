-- The machine: its state is a store of coverages, and jobs, each with the answer that its query had when it was
-- submitted. A request leads to a reply and a next state; the refusals come in the order in which they stand here, and
-- leave the state as it was.
use Rattle.std.specs.Prelude.{◌≡◌, ℕ, ◌+◌, ◌-◌, ◌*◌, ◌<◌, ◌≤◌, ◌⊎◌, nat_eq, cond, ℤ, List, [], ◌∷◌, ◌++◌, length, map, replicate, slice_get, All, Option, Some, Ok, Err, MatchOption, codes, string_bytes, FitsSigned}
use Rattle.std.specs.Fmt.{decimal}
use Rattle.std.specs.Int.{w32}
use Rattle.std.specs.List.{find, flat_map}
use Rattle.arr_core.specs.declared.refusal.Refusal.{Refusal}
use Rattle.arr_core.specs.declared.refusal.Refusal.TheVariants.{BadDomain, BadField, CoverageExists, NoSuchCoverage, NoSuchField, NoSuchJob, NotReady, OutsideDomain, TooManyCoverages, TooManyJobs, ValueCount, ValueRange}
use Rattle.arr_core.specs.Refusals.{number_of}
use Rattle.arr_core.specs.declared.cell.FieldType.{FieldType}
use Rattle.arr_core.specs.declared.domain.Axis.{Axis}
use Rattle.arr_core.specs.declared.field.Field.{Field}
use Rattle.arr_core.specs.declared.signature.Signature.{Signature}
use Rattle.arr_core.specs.Cells.{stored, Holds}
use Rattle.arr_core.specs.Domains.{count, IsDomain, IsBoxOf}
use Rattle.arr_core.specs.Fields.{AreFields, field_place}
use Rattle.arr_core.specs.Limits.{max_coverages}
use Rattle.arr_core.specs.Numbers.{number_after}
use Rattle.arr_core.specs.Stores.{Coverage, Store, found, inserted, deleted, updated}
use Rattle.job_desk.specs.Desks.{max_jobs}
use Rattle.kvp_front.specs.Contents.{Cells, fill, values}
use Rattle.kvp_front.specs.Requests.{Asks, insert_coverage, update_coverage, delete_coverage, list_coverages, describe_coverage, process_coverages, submit_query, step_job, fetch_job, cancel_job, expand_template, process_template}
use Rattle.kvp_front.specs.Templates.{Template}
use Rattle.map_templates.specs.Refusals.{Answer, refusal_of as template_refusal}
use Rattle.wcps_types.specs.Typed.{TypedTree}
use Rattle.wcps_types.specs.Work.{query_work}
use Rattle.coverage_server.specs.Asking.{QueryAnswer, TypedAnswer, TextTyped, TextAnswer, evaluated}
use Rattle.coverage_server.specs.Describing.{description}
use Rattle.coverage_server.specs.Templates.{expansion}
use Rattle.kvp_front.specs.declared.request.Interval.{Interval}
use Rattle.http_front.specs.declared.reply.Reply.{Reply}
use Rattle.http_front.specs.declared.reply.Reply.TheVariants.{Text, Csv, Refused}

-- a job: its number, the names of the coverages that its query lists, how many units it has left, and its answer
pub record Job : Type 0 where
  pub number : ℕ
  pub names : List (List ℕ)
  pub left : ℕ
  pub answer : QueryAnswer

-- the coverages, the jobs in the order of their numbers, and the number of the next one: none where the last `u64` was
-- given
pub record State : Type 0 where
  pub store : Store
  pub jobs : List Job
  pub next : Option ℕ

-- a session begins with a store, and without jobs
abbrev pub begun : Store → State
begun store = record { store = store; jobs = []; next = Some 1 }

-- a reply with this text
abbrev pub IsText : Reply → List ℕ → Type 0
IsText (Text text) expected = string_bytes text ≡ expected
IsText (Csv text) expected = ⊥
IsText (Refused code) expected = ⊥

-- a refusal, which changes nothing
abbrev pub Refuses : {S : Type 0} → Refusal → S → Reply → S → Type 0
Refuses refusal old reply new = (reply ≡ Refused (number_of refusal)) × (new ≡ old)

-- `ok` on a line, and this is the next state
abbrev pub Does : {S : Type 0} → S → Reply → S → Type 0
Does next reply new = IsText reply (codes "ok\n") × (new ≡ next)

-- one refusal where a condition fails, and what comes next where it holds
abbrev pub Unless : {S : Type 0} → Type 0 → Refusal → (S → Reply → S → Type 0) → S → Reply → S → Type 0
Unless condition refusal next old reply new =
    ((¬ condition) × Refuses refusal old reply new) ⊎ (condition × next old reply new)

-- the axes that intervals spell
abbrev pub axis_of : Interval → Axis
axis_of i = record { name = i.axis; lo = i.lo; hi = i.hi }

abbrev pub axes_of : List Interval → List Axis
axes_of intervals = map axis_of intervals

-- both bounds fit 32 bits
abbrev pub FitBounds : Interval → Type 0
FitBounds i = FitsSigned w32 i.lo × FitsSigned w32 i.hi

-- intervals that spell a domain, which may be without axes
abbrev pub SpellDomain : List Interval → Type 0
SpellDomain intervals = All FitBounds intervals × IsDomain (axes_of intervals)

-- intervals that spell the domain of a coverage
abbrev pub SpellWhole : List Interval → Type 0
SpellWhole intervals = SpellDomain intervals × (0 < length intervals)

-- InsertCoverage: CoverageExists for a name that is there, BadDomain for what is no domain, BadField for what are no
-- fields, TooManyCoverages where as many are held as may be
abbrev pub Inserts : List ℕ → List Interval → List Field → Store → Reply → Store → Type 0
Inserts name intervals fields old reply new =
    MatchOption (found name old)
    (Unless (SpellWhole intervals) BadDomain
    (Unless (AreFields fields) BadField
    (Unless (length old < max_coverages) TooManyCoverages
    (λ before. Does (inserted name (axes_of intervals) fields before)))) old reply new)
    (λ c. Refuses CoverageExists old reply new)

-- the new numbers stand in the box
abbrev pub Writes : List ℕ → ℕ → List Axis → List ℤ → Store → Reply → Store → Type 0
Writes name field box numbers old = Does (updated name field box numbers old)

-- ValueCount where there are not as many cells as points, ValueRange where one is none of the field's type
abbrev pub UpdatesCells : List ℕ → ℕ → List Axis → FieldType → Cells → Store → Reply → Store → Type 0
UpdatesCells name field box kind (fill cell) =
    Unless (Holds kind cell) ValueRange (Writes name field box (replicate (count box) (stored cell)))
UpdatesCells name field box kind (values cells) =
    Unless (length cells ≡ count box) ValueCount
    (Unless (All (Holds kind) cells) ValueRange (Writes name field box (map stored cells)))

-- OutsideDomain for what is no box of the coverage's domain
abbrev pub UpdatesBox : List ℕ → Coverage → ℕ → Field → List Interval → Cells → Store → Reply → Store → Type 0
UpdatesBox name c field f intervals cells =
    Unless (SpellDomain intervals × IsBoxOf c.domain (axes_of intervals)) OutsideDomain
    (UpdatesCells name field (axes_of intervals) f.kind cells)

-- NoSuchField for a field that the coverage lacks
abbrev pub UpdatesField : List ℕ → Coverage → List ℕ → List Interval → Cells → Store → Reply → Store → Type 0
UpdatesField name c field intervals cells old reply new =
    MatchOption (field_place field c.fields) (Refuses NoSuchField old reply new)
    (λ k. (f : Field) × (slice_get c.fields k ≡ Some f) × UpdatesBox name c k f intervals cells old reply new)

-- UpdateCoverage: NoSuchCoverage for a name that is not there
abbrev pub Updates : List ℕ → List ℕ → List Interval → Cells → Store → Reply → Store → Type 0
Updates name field intervals cells old reply new =
    MatchOption (found name old) (Refuses NoSuchCoverage old reply new)
    (λ c. UpdatesField name c field intervals cells old reply new)

-- DeleteCoverage: NoSuchCoverage for a name that is not there; else the coverage with it is taken out
abbrev pub Deletes : List ℕ → Store → Reply → Store → Type 0
Deletes name old reply new =
    MatchOption (found name old) (Refuses NoSuchCoverage old reply new) (λ c. Does (deleted name old) reply new)

-- ListCoverages: each name on a line, in order of insertion
abbrev pub line_of : Coverage → List ℕ
line_of c = c.name ++ codes "\n"

abbrev pub Lists : Store → Reply → Store → Type 0
Lists old reply new = IsText reply (flat_map line_of old) × (new ≡ old)

-- DescribeCoverage: NoSuchCoverage for a name that is not there; else the axes and the fields of the coverage with it
abbrev pub Describes : List ℕ → Store → Reply → Store → Type 0
Describes name old reply new =
    MatchOption (found name old) (Refuses NoSuchCoverage old reply new)
    (λ c. IsText reply (description c.domain c.fields) × (new ≡ old))

-- the reply to a query with this answer
abbrev pub Tells : QueryAnswer → Reply → Type 0
Tells (Ok bytes) (Csv text) = string_bytes text ≡ bytes
Tells (Ok bytes) (Text text) = ⊥
Tells (Ok bytes) (Refused code) = ⊥
Tells (Err refusal) (Refused code) = code ≡ number_of refusal
Tells (Err refusal) (Csv text) = ⊥
Tells (Err refusal) (Text text) = ⊥

-- ProcessCoverages: the answer to the query, and nothing changes
abbrev pub Answers : List ℕ → Store → Reply → Store → Type 0
Answers query old reply new = (a : QueryAnswer) × TextAnswer old query a × Tells a reply × (new ≡ old)

-- ExpandTemplate: the text of the template's query on a line, or the refusal of the template; nothing changes
abbrev pub TellsText : Answer (List ℕ) → Store → Reply → Store → Type 0
TellsText (Ok text) old reply new = IsText reply (text ++ codes "\n") × (new ≡ old)
TellsText (Err refusal) old reply new = Refuses (template_refusal refusal) old reply new

abbrev pub Expands : Template → Store → Reply → Store → Type 0
Expands template old reply new = TellsText (expansion template old) old reply new

-- ProcessTemplate: the answer to the template's query, as that of any query, or the refusal of the template
abbrev pub AnswersText : Answer (List ℕ) → Store → Reply → Store → Type 0
AnswersText (Ok text) old reply new = Answers text old reply new
AnswersText (Err refusal) old reply new = Refuses (template_refusal refusal) old reply new

abbrev pub AnswersTemplate : Template → Store → Reply → Store → Type 0
AnswersTemplate template old reply new = AnswersText (expansion template old) old reply new

-- ---- jobs

-- the job with a number
abbrev pub job_of : ℕ → List Job → Option Job
job_of number jobs = find (λ (j : Job). nat_eq j.number number) jobs

-- the jobs where the one with a number has so many units left
abbrev pub with_left : ℕ → ℕ → List Job → List Job
with_left number left [] = []
with_left number left (j ∷ jobs) =
    cond (nat_eq j.number number) (record j { left = left } ∷ jobs) (j ∷ with_left number left jobs)

-- the jobs without the one with a number
abbrev pub without : ℕ → List Job → List Job
without number [] = []
without number (j ∷ jobs) = cond (nat_eq j.number number) jobs (j ∷ without number jobs)

-- the state with other jobs
abbrev pub with_jobs : State → List Job → State
with_jobs old jobs = record { store = old.store; jobs = jobs; next = old.next }

-- A typed query becomes the last job, with the next number and any number of units from 1 to its combinations times two
-- more than its work. Its answer is the one over the store as it is.
abbrev pub Adds : TypedTree → ℕ → State → Reply → State → Type 0
Adds q number old reply new =
    (left : ℕ) × (1 ≤ left) × (left ≤ length q.combinations * (2 + query_work q.combinations))
    × IsText reply (codes "job " ++ decimal number ++ codes " left " ++ decimal left ++ codes "\n")
    × (new ≡ record {
      store = old.store;
      jobs = old.jobs ++ record {
        number = number;
        names = map (λ (c : Signature). c.name) q.coverages;
        left =
            left;
        answer = evaluated old.store (Ok q);
      } ∷ [];
      next = number_after number;
    })

-- SubmitQuery: the refusals of the query's text, and then TooManyJobs where as many jobs are held as may be or no
-- number is left
abbrev pub SubmitsTyped : TypedAnswer → State → Reply → State → Type 0
SubmitsTyped (Err refusal) old reply new = Refuses refusal old reply new
SubmitsTyped (Ok q) old reply new =
    MatchOption old.next (Refuses TooManyJobs old reply new)
    (λ number. Unless (length old.jobs < max_jobs) TooManyJobs (Adds q number) old reply new)

abbrev pub Submits : List ℕ → State → Reply → State → Type 0
Submits query old reply new = (r : TypedAnswer) × TextTyped old.store query r × SubmitsTyped r old reply new

-- StepJob: NoSuchJob for a number of no job; else the job has so many units less left, but not below 0
abbrev pub StepsJob : ℕ → ℕ → State → Reply → State → Type 0
StepsJob number units old reply new =
    MatchOption (job_of number old.jobs) (Refuses NoSuchJob old reply new)
    (λ j. IsText reply (codes "left " ++ decimal (j.left - units) ++ codes "\n")
    × (new ≡ with_jobs old (with_left number (j.left - units) old.jobs)))

-- FetchJob: NoSuchJob for a number of no job, NotReady for a job that has units left; else its answer, a fault
-- included, and the job is dropped
abbrev pub Fetches : ℕ → State → Reply → State → Type 0
Fetches number old reply new =
    MatchOption (job_of number old.jobs) (Refuses NoSuchJob old reply new)
    (λ j. Unless (j.left ≡ 0) NotReady
    (λ before told after. Tells j.answer told × (after ≡ with_jobs before (without number before.jobs))) old reply
    new)

-- CancelJob: NoSuchJob for a number of no job; else the job is dropped
abbrev pub Cancels : ℕ → State → Reply → State → Type 0
Cancels number old reply new =
    MatchOption (job_of number old.jobs) (Refuses NoSuchJob old reply new)
    (λ j. Does (with_jobs old (without number old.jobs)) reply new)

-- ---- requests

-- a request on the coverages leaves the jobs and their numbers as they are
abbrev pub OnStore : (Store → Reply → Store → Type 0) → State → Reply → State → Type 0
OnStore step old reply new = step old.store reply new.store × (new.jobs ≡ old.jobs) × (new.next ≡ old.next)

-- what the machine does where it has memory and room, and the disk does not fail
abbrev pub Serves : Asks → State → Reply → State → Type 0
Serves (insert_coverage name intervals fields) old = OnStore (Inserts name intervals fields) old
Serves (update_coverage name field intervals cells) old = OnStore (Updates name field intervals cells) old
Serves (delete_coverage name) old = OnStore (Deletes name) old
Serves list_coverages old = OnStore Lists old
Serves (describe_coverage name) old = OnStore (Describes name) old
Serves (process_coverages query) old = OnStore (Answers query) old
Serves (submit_query query) old = Submits query old
Serves (step_job number units) old = StepsJob number units old
Serves (fetch_job number) old = Fetches number old
Serves (cancel_job number) old = Cancels number old
Serves (expand_template template) old = OnStore (Expands template) old
Serves (process_template template) old = OnStore (AnswersTemplate template) old
