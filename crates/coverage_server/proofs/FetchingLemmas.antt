-- How many tiles a query and the units of a job fetch.
use Rattle.std.proofs.Common.{◌≡◌, ℕ, zero, suc, ◌+◌, ◌-◌, ◌≤◌, List, take, Result, Ok, Err, inl, inr, refl, sym, ap, ◌∙◌, subst, arith}
use Rattle.std.specs.Prelude.{◌⊎◌, sum_by}
use Rattle.std.proofs.lemmas.List.Sums.{sum_by-take-le}
use Rattle.job_desk.specs.Desks.{DeskView}
use Rattle.job_desk.specs.Steps.{Ends, IsChanged, StepFetches}
use Rattle.job_desk.specs.declared.error.StepError.{StepError}
use Rattle.job_desk.specs.declared.error.StepError.TheVariants as stepping
use Rattle.plan_ir.specs.Units.{boxes, bound}
use Rattle.tile_exec.specs.declared.exec.Exec.{Exec}
use Rattle.tile_exec.specs.Standing.{boxes_left, left_of, most_fetched, plan_of}
use Rattle.wcps_mean.specs.declared.cells.CellError.{CellError}
use Rattle.wcps_mean.specs.declared.cells.CellError.TheVariants as cell
use Rattle.http_front.specs.declared.reply.Reply.{Reply}
use Rattle.http_front.specs.declared.reply.Reply.TheVariants.{Text, Csv, Refused}
use Rattle.kvp_front.specs.declared.request.RequestError.{RequestError}
use Rattle.kvp_front.specs.Requests.{Asks, insert_coverage, update_coverage, delete_coverage, list_coverages, describe_coverage, process_coverages, submit_query, step_job, fetch_job, cancel_job, expand_template, process_template}
use Rattle.coverage_server.specs.declared.error.AnswerError.{AnswerError}
use Rattle.coverage_server.specs.Fetching.{FetchesBounded, FetchesNone, FetchesRead, FetchesUnits, IsFailure, UnlessFailed, UnlessFails, most_of_plan}
use Rattle.coverage_server.specs.Holding.{ReleasesFor}
use Rattle.coverage_server.specs.Leaving.{refusal_number, reply_of}
use Rattle.coverage_server.specs.Stages.{cell_refusal, step_refusal}
use Rattle.coverage_server.specs.Tiles.{asked_state}
use Rattle.coverage_server.specs.Views.{ServerView, SessionView, session}

-- ---- answers

pub unless_any : {A : Type 0} (r : Result A AnswerError) (P : Type 0) → P → UnlessFails r P
unless_any (Ok a) P p = p
unless_any (Err e) P p = inr p

pub unless_weaker : {A : Type 0} (r : Result A AnswerError) (P Q : Type 0) → (P → Q) → UnlessFails r P → UnlessFails r Q
unless_weaker (Ok a) P Q f p = f p
unless_weaker (Err e) P Q f (inl k) = inl k
unless_weaker (Err e) P Q f (inr p) = inr (f p)

-- what is said of an answer is said of its reply
pub unless_told : (r : Result Reply AnswerError) (P : Type 0) → UnlessFails r P → UnlessFailed (reply_of r) P
unless_told (Ok (Text text)) P p = p
unless_told (Ok (Csv text)) P p = p
unless_told (Ok (Refused code)) P p = inr p
unless_told (Err e) P p = p

-- cells that are not known
pub cells_fail : (e : CellError) → IsFailure (refusal_number (cell_refusal e))
cells_fail cell.NoMemory = inl refl
cells_fail cell.DiskFault = inr (inl refl)
cells_fail cell.Damaged = inr (inr refl)

-- ---- queries

-- the units of an executor from its first on
pub plan_bounded : (was is : Exec) (before after : ℕ) → boxes_left was ≡ boxes (plan_of was)
    → after ≤ before + most_fetched was is → after ≤ before + most_of_plan (plan_of was)
plan_bounded was is before after begun x =
    let plan = plan_of was in
    let done : after ≤ before + sum_by (bound plan) (take (left_of was - left_of is) (boxes_left was)) = x in
    let all : sum_by (bound plan) (boxes_left was) ≡ most_of_plan plan = ap (sum_by (bound plan)) begun in
    let part = sum_by-take-le (bound plan) (boxes_left was) (left_of was - left_of is) in
    omega (arith, done, all, part)

-- ---- units of a job

-- what is held is let go, or not, and nothing else is changed
after_end : (n left : ℕ) (m w : ServerView) → Ends (Ok left) (w ≡ m) (ReleasesFor n m w) → w.fetched ≡ m.fetched
after_end n zero m w gone = ap (λ (u : ServerView). u.fetched) gone.others
after_end n (suc left) m w same = ap (λ (u : ServerView). u.fetched) same

module _ (n : ℕ) (old new : DeskView) (u v m w : ServerView) (job then : ℕ) (places others : List ℕ) (same : u ≡ v) where
  pub units_fetched : (left : ℕ) → Ends (Ok left) (w ≡ m) (ReleasesFor n m w)
      → StepFetches (Ok left) n old new (asked_state job places u) (asked_state then others m) → FetchesUnits n (session v old) (session w new)
  units_fetched left ends x =
      let before = subst (λ (k : ℕ). IsChanged (λ was is. m.fetched ≤ k + most_fetched was.exec is.exec) n old new)
      (ap (λ (y : ServerView). y.fetched) same) x in
      subst (λ (k : ℕ). IsChanged (λ was is. k ≤ v.fetched + most_fetched was.exec is.exec) n old new)
      (sym (after_end n left m w ends)) before

  -- where a unit failed it is not said
  pub refused_units : (e : StepError) (r : AnswerError) → w ≡ m → r ≡ step_refusal e
      → StepFetches (Err e) n old new (asked_state job places u) (asked_state then others m)
      → IsFailure (refusal_number r) ⊎ (FetchesNone v w ⊎ FetchesUnits n (session v old) (session w new))
  refused_units stepping.NoSuchJob r as_was told x =
      inr (inl (ap (λ (y : ServerView). y.fetched) as_was ∙ x ∙ ap (λ (y : ServerView). y.fetched) same))
  refused_units (stepping.Cells e) r as_was told x =
      inl (subst (λ (q : AnswerError). IsFailure (refusal_number q)) (sym told) (cells_fail e))

-- ---- what leaves the server as it was

pub none_bounded : (asked : Asks) (code : ℕ) (v : SessionView) → FetchesBounded asked (Refused code) v v
none_bounded (insert_coverage name intervals fields) code v = refl
none_bounded (update_coverage name field intervals cells) code v = refl
none_bounded (delete_coverage name) code v = refl
none_bounded list_coverages code v = refl
none_bounded (describe_coverage name) code v = refl
none_bounded (process_coverages query) code v = inr (inl refl)
none_bounded (submit_query query) code v = refl
none_bounded (step_job number units) code v = inr (inl refl)
none_bounded (fetch_job number) code v = refl
none_bounded (cancel_job number) code v = refl
none_bounded (expand_template template) code v = refl
none_bounded (process_template template) code v = inr (inl refl)

pub none_read : (asked : Result Asks RequestError) (code : ℕ) (v : SessionView) → FetchesRead asked (Refused code) v v
none_read (Ok asked) code v = none_bounded asked code v
none_read (Err error) code v = refl
