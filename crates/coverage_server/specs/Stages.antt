-- What the steps from the text of a query to its answer give. Want of memory and faults of the disk say nothing of it.
use Rattle.std.specs.Prelude.{◌≡◌, ℕ, ◌≤◌, List, map, length, All, Result, Ok, Err, Vec, String, string_bytes, ⊤, IsTrue}
use Rattle.std.specs.declared.alloc.Global.{Global}
use Rattle.arr_core.specs.declared.refusal.Refusal.TheVariants.{NoSuchJob, NotReady, TooManyJobs}
use Rattle.arr_core.specs.Stores.{Store}
use Rattle.wcps_text.specs.declared.token.Token.{Token}
use Rattle.wcps_text.specs.declared.tree.Query.{Query}
use Rattle.wcps_text.specs.declared.error.LexError.{LexError}
use Rattle.wcps_text.specs.Refusals.{refusal_of as token_refusal}
use Rattle.wcps_text.specs.Token.{Tok}
use Rattle.wcps_text.specs.Lexing.{Lexed, Refused, piece}
use Rattle.wcps_text.specs.Limits.{max_height, query_height}
use Rattle.wcps_text.specs.Grammar.{IsSpelled}
use Rattle.wcps_text.specs.Tree.{query_view}
use Rattle.wcps_parse.specs.Outcome.{IsWithinLimits}
use Rattle.wcps_types.specs.declared.refusal.TypeRefusal.{TypeRefusal}
use Rattle.wcps_types.specs.declared.typed_query.TypedQuery.{TypedQuery}
use Rattle.wcps_types.specs.Refusals.{refusal_of as type_refusal}
use Rattle.wcps_types.specs.Typed.{TypedTree}
use Rattle.wcps_types.specs.TypedQueries.{query_view as typed_view}
use Rattle.wcps_mean.specs.declared.cells.CellError.{CellError}
use Rattle.wcps_mean.specs.declared.cells.CellError.TheVariants as cell
use Rattle.job_desk.specs.declared.error.FetchError.{FetchError}
use Rattle.job_desk.specs.declared.error.FetchError.TheVariants as fetching
use Rattle.job_desk.specs.declared.error.StepError.{StepError}
use Rattle.job_desk.specs.declared.error.StepError.TheVariants as stepping
use Rattle.job_desk.specs.declared.error.SubmitError.{SubmitError}
use Rattle.job_desk.specs.declared.error.SubmitError.TheVariants as submitting
use Rattle.coverage_server.specs.Asking.{QueryAnswer, TokensTyped, TextTyped, evaluated}
use Rattle.coverage_server.specs.declared.error.AnswerError.{AnswerError}
use Rattle.coverage_server.specs.declared.error.AnswerError.TheVariants.{Named, NoMemory, DiskFault, NoRoom, Damaged}
use Rattle.disk_face.specs.Disk.{Rose}
use Rattle.arr_core.specs.declared.signature.Signature.{Signature}
use Rattle.coverage_server.specs.Damage.{AreSpelled}
use Rattle.coverage_server.specs.Views.{IsHeld, ServerView}

-- the tokens of a text, or what is wrong with it
abbrev pub GivesTokens : List ℕ → Result (Vec Token Global) AnswerError → Type 0
GivesTokens text (Ok tokens) = Lexed 0 text (map piece tokens.items)
GivesTokens text (Err (Named refusal)) = (e : LexError) × Refused text e × (refusal ≡ token_refusal e)
GivesTokens text (Err NoMemory) = ⊤
GivesTokens text (Err DiskFault) = ⊥
GivesTokens text (Err NoRoom) = ⊥
GivesTokens text (Err Damaged) = ⊥

-- a query within the limits that the tokens spell, or their refusal, which is the same over each store
abbrev pub GivesQuery : List Tok → Result Query AnswerError → Type 0
GivesQuery ts (Ok q) = IsWithinLimits ts × IsSpelled ts (query_view q) × (query_height (query_view q) ≤ max_height)
GivesQuery ts (Err (Named refusal)) = (store : Store) → TokensTyped store ts (Err refusal)
GivesQuery ts (Err NoMemory) = ⊤
GivesQuery ts (Err DiskFault) = ⊥
GivesQuery ts (Err NoRoom) = ⊥
GivesQuery ts (Err Damaged) = ⊥

-- a typed query, or its refusal
abbrev pub GivesTyped : Result TypedTree TypeRefusal → Result TypedQuery AnswerError → Type 0
GivesTyped checked (Ok q) = checked ≡ Ok (typed_view q)
GivesTyped checked (Err (Named refusal)) = (e : TypeRefusal) × (checked ≡ Err e) × (refusal ≡ type_refusal e)
GivesTyped checked (Err NoMemory) = ⊤
GivesTyped checked (Err DiskFault) = ⊥
GivesTyped checked (Err NoRoom) = ⊥
GivesTyped checked (Err Damaged) = ⊥

-- a typed query of a text over a store, which has the query's coverages; there is some combination of them
pub record IsTypedText (store : Store) (text : List ℕ) (q : TypedTree) : Type 0 where
  pub typed : TextTyped store text (Ok q)
  pub held : All (IsHeld store) q.coverages
  pub some : 1 ≤ length q.combinations

-- the typed query of a text over a store, or its refusal
abbrev pub GivesText : Store → List ℕ → Result TypedQuery AnswerError → Type 0
GivesText store text (Ok q) = IsTypedText store text (typed_view q)
GivesText store text (Err (Named refusal)) = TextTyped store text (Err refusal)
GivesText store text (Err NoMemory) = ⊤
GivesText store text (Err DiskFault) = ⊥
GivesText store text (Err NoRoom) = ⊥
GivesText store text (Err Damaged) = ⊥

-- the text of an answer, or its refusal
abbrev pub GivesValues : QueryAnswer → Result (String Global) AnswerError → Type 0
GivesValues answered (Ok text) = answered ≡ Ok (string_bytes text)
GivesValues answered (Err (Named refusal)) = answered ≡ Err refusal
GivesValues answered (Err NoMemory) = ⊤
GivesValues answered (Err DiskFault) = ⊤
GivesValues answered (Err NoRoom) = ⊤
GivesValues answered (Err Damaged) = ⊤

-- what comes of a typed query where the disk is honest
abbrev pub GivesAnswer : TypedTree → ServerView → Result (String Global) AnswerError → Type 0
GivesAnswer q v result = IsTrue v.honest → GivesValues (evaluated v.store (Ok q)) result

-- A failure while a query is answered: a disk fault is told only where the disk's count of failures rose, damage only
-- where a tile of a coverage that it reads is not spelled, and want of room never.
abbrev pub FailsReading : List Signature → ServerView → ServerView → AnswerError → Type 0
FailsReading asked old new (Named refusal) = ⊤
FailsReading asked old new NoMemory = ⊤
FailsReading asked old new DiskFault = Rose old.failures new.failures
FailsReading asked old new NoRoom = ⊥
FailsReading asked old new Damaged = IsTrue old.honest → AreSpelled asked old → ⊥

-- how it is told that cells are not known
abbrev pub cell_refusal : CellError → AnswerError
cell_refusal cell.NoMemory = NoMemory
cell_refusal cell.DiskFault = DiskFault
cell_refusal cell.Damaged = Damaged

-- how it is told why a call of the desk was refused
abbrev pub submit_refusal : SubmitError → AnswerError
submit_refusal submitting.TooManyJobs = Named TooManyJobs
submit_refusal submitting.NoMemory = NoMemory

abbrev pub step_refusal : StepError → AnswerError
step_refusal stepping.NoSuchJob = Named NoSuchJob
step_refusal (stepping.Cells e) = cell_refusal e

abbrev pub fetch_refusal : FetchError → AnswerError
fetch_refusal fetching.NoSuchJob = Named NoSuchJob
fetch_refusal fetching.NotReady = Named NotReady
fetch_refusal fetching.NoMemory = NoMemory
