-- The request that the pairs of a message spell, and the first refusal of those that spell none.
use Rattle.std.specs.Prelude.{ℕ, List, [], ◌∷◌, Result, Ok, Err, if◌then◌else◌, bytes_eq, codes, string_bytes}
use Rattle.arr_core.specs.declared.refusal.Refusal.{Refusal}
use Rattle.arr_core.specs.declared.refusal.Refusal.TheVariants as refusal
use Rattle.arr_core.specs.declared.field.Field.{Field}
use Rattle.kvp_front.specs.Values.{pairs_of, values_of, and_then, read_under}
use Rattle.kvp_front.specs.Spelling.{name_in, interval_in, field_in, list_in, query_in}
use Rattle.kvp_front.specs.Contents.{Cells, content_view, content_under}
use Rattle.kvp_front.specs.Jobs.{job_in, units_in}
use Rattle.kvp_front.specs.Templates.{Template, template_view, template_of}
use Rattle.kvp_front.specs.declared.request.Interval.{Interval}
use Rattle.kvp_front.specs.declared.request.Request.{Request}
use Rattle.kvp_front.specs.declared.request.Request.TheVariants as Asked
use Rattle.kvp_front.specs.declared.request.RequestError.{RequestError}
use Rattle.kvp_front.specs.declared.request.RequestError.TheVariants.{NoRequest, UnknownRequest, MissingKey, RepeatedKey, BadValue, NoMemory}
pub use Rattle.kvp_front.specs.Values.{Gives}

-- what a request asks
pub data Asks : Type 0 where
  -- a new coverage: its name, its axes and its fields
  insert_coverage : List ℕ → List Interval → List Field → Asks
  -- new cells: the coverage, the field, the box and the cells
  update_coverage : List ℕ → List ℕ → List Interval → Cells → Asks
  -- this coverage is taken out
  delete_coverage : List ℕ → Asks
  -- the names of all coverages
  list_coverages : Asks
  -- the axes and the fields of this coverage
  describe_coverage : List ℕ → Asks
  -- the answer to the query of this text
  process_coverages : List ℕ → Asks
  -- the query of this text becomes a job
  submit_query : List ℕ → Asks
  -- of the job with this number so many units are done
  step_job : ℕ → ℕ → Asks
  -- the answer of the job with this number, which is then dropped
  fetch_job : ℕ → Asks
  -- the job with this number is dropped
  cancel_job : ℕ → Asks
  -- the text of the query that a template stands for
  expand_template : Template → Asks
  -- the answer to that query
  process_template : Template → Asks

abbrev pub asks : Request → Asks
asks (Asked.InsertCoverage r) = insert_coverage r.coverage r.intervals.items r.fields.items
asks (Asked.UpdateCoverage r) = update_coverage r.coverage r.field r.intervals.items (content_view r.content)
asks (Asked.DeleteCoverage coverage) = delete_coverage coverage
asks Asked.ListCoverages = list_coverages
asks (Asked.DescribeCoverage coverage) = describe_coverage coverage
asks (Asked.ProcessCoverages query) = process_coverages (string_bytes query)
asks (Asked.SubmitQuery query) = submit_query (string_bytes query)
asks (Asked.StepJob r) = step_job r.job r.units
asks (Asked.FetchJob job) = fetch_job job
asks (Asked.CancelJob job) = cancel_job job
asks (Asked.ExpandTemplate template) = expand_template (template_view template)
asks (Asked.ProcessTemplate template) = process_template (template_view template)

-- how it is told that pairs spell no request
abbrev pub refusal_of : RequestError → Refusal
refusal_of NoRequest = refusal.NoRequest
refusal_of UnknownRequest = refusal.UnknownRequest
refusal_of MissingKey = refusal.MissingKey
refusal_of RepeatedKey = refusal.RepeatedKey
refusal_of BadValue = refusal.BadValue
refusal_of NoMemory = refusal.NoMemory

-- each request reads its keys in this order, and the first refusal stands
abbrev pub insertion_of : List (List ℕ × List ℕ) → Result Asks RequestError
insertion_of pairs =
    and_then (λ coverage. and_then
    (λ intervals. and_then (λ fields. Ok (insert_coverage coverage intervals fields))
    (read_under (list_in field_in) (codes "fields") pairs))
    (read_under (list_in interval_in) (codes "domain") pairs))
    (read_under name_in (codes "coverage") pairs)

abbrev pub update_of : List (List ℕ × List ℕ) → Result Asks RequestError
update_of pairs =
    and_then (λ coverage. and_then
    (λ field. and_then (λ intervals. and_then (λ cells. Ok (update_coverage coverage field intervals cells))
    (content_under pairs)) (read_under (list_in interval_in) (codes "box") pairs))
    (read_under name_in (codes "field") pairs))
    (read_under name_in (codes "coverage") pairs)

abbrev pub deletion_of : List (List ℕ × List ℕ) → Result Asks RequestError
deletion_of pairs = and_then (λ coverage. Ok (delete_coverage coverage)) (read_under name_in (codes "coverage") pairs)

abbrev pub description_of : List (List ℕ × List ℕ) → Result Asks RequestError
description_of pairs = and_then (λ coverage. Ok (describe_coverage coverage))
    (read_under name_in (codes "coverage") pairs)

abbrev pub query_of : List (List ℕ × List ℕ) → Result Asks RequestError
query_of pairs = and_then (λ query. Ok (process_coverages query)) (read_under query_in (codes "query") pairs)

abbrev pub submission_of : List (List ℕ × List ℕ) → Result Asks RequestError
submission_of pairs = and_then (λ query. Ok (submit_query query)) (read_under query_in (codes "query") pairs)

abbrev pub stepping_of : List (List ℕ × List ℕ) → Result Asks RequestError
stepping_of pairs =
    and_then (λ job. and_then (λ units. Ok (step_job job units)) (read_under units_in (codes "units") pairs))
    (read_under job_in (codes "job") pairs)

abbrev pub fetching_of : List (List ℕ × List ℕ) → Result Asks RequestError
fetching_of pairs = and_then (λ job. Ok (fetch_job job)) (read_under job_in (codes "job") pairs)

abbrev pub cancelling_of : List (List ℕ × List ℕ) → Result Asks RequestError
cancelling_of pairs = and_then (λ job. Ok (cancel_job job)) (read_under job_in (codes "job") pairs)

abbrev pub expansion_of : List (List ℕ × List ℕ) → Result Asks RequestError
expansion_of pairs = and_then (λ template. Ok (expand_template template)) (template_of pairs)

abbrev pub processing_of : List (List ℕ × List ℕ) → Result Asks RequestError
processing_of pairs = and_then (λ template. Ok (process_template template)) (template_of pairs)

-- the request of this name
abbrev pub kind_of : List (List ℕ × List ℕ) → List ℕ → Result Asks RequestError
kind_of pairs kind =
    if bytes_eq kind (codes "InsertCoverage") then insertion_of pairs
    else (if bytes_eq kind (codes "UpdateCoverage") then update_of pairs
    else (if bytes_eq kind (codes "DeleteCoverage") then deletion_of pairs
    else (if bytes_eq kind (codes "ListCoverages") then Ok list_coverages
    else (if bytes_eq kind (codes "DescribeCoverage") then description_of pairs
    else (if bytes_eq kind (codes "ProcessCoverages") then query_of pairs
    else (if bytes_eq kind (codes "SubmitQuery") then submission_of pairs
    else (if bytes_eq kind (codes "StepJob") then stepping_of pairs
    else (if bytes_eq kind (codes "FetchJob") then fetching_of pairs
    else (if bytes_eq kind (codes "CancelJob") then cancelling_of pairs
    else (if bytes_eq kind (codes "ExpandTemplate") then expansion_of pairs
    else (if bytes_eq kind (codes "ProcessTemplate") then processing_of pairs else Err UnknownRequest)))))))))))

abbrev pub spelled_by : List (List ℕ × List ℕ) → List (List ℕ) → Result Asks RequestError
spelled_by pairs [] = Err NoRequest
spelled_by pairs (kind ∷ []) = kind_of pairs kind
spelled_by pairs (kind ∷ second ∷ more) = Err RepeatedKey

abbrev pub spelled_of : List (List ℕ × List ℕ) → Result Asks RequestError
spelled_of pairs = spelled_by pairs (values_of (codes "request") pairs)

-- the request that some encoded pairs spell, or the first refusal
abbrev pub spelled : List ℕ → Result Asks RequestError
spelled bytes = spelled_of (pairs_of bytes)
