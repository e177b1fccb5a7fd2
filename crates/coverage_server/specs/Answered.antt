-- What the parts of the server answer.
use Rattle.std.specs.Prelude.{ℕ, List, Option, IsTrue, IsErrOf, Result, Ok, Err, OnOk, ⊤}
use Rattle.arr_core.specs.Refusals.{number_of}
use Rattle.disk_face.specs.Disk.{Rose, Tells}
use Rattle.arr_core.specs.Stores.{Store}
use Rattle.job_desk.specs.Desks.{DeskView}
use Rattle.wcps_types.specs.Typed.{TypedTree}
use Rattle.kvp_front.specs.Contents.{content_view}
use Rattle.kvp_front.specs.Requests.{Asks, submit_query}
use Rattle.kvp_front.specs.Templates.{Template}
use Rattle.kvp_front.specs.declared.request.Insertion.{Insertion}
use Rattle.kvp_front.specs.declared.request.Update.{Update}
use Rattle.coverage_server.specs.Layouts.{Lays, LaysQuery, asked_signature, layout_of}
use Rattle.coverage_server.specs.Machine.{State, Serves, Inserts, Updates, Answers, AnswersTemplate}
use Rattle.coverage_server.specs.Room.{LacksRoom, LacksRoomToInsert, LacksRoomToUpdate}
use Rattle.coverage_server.specs.Damage.{KeepsSpelled, Spoils, SpoilsUpdate, SpoilsText, SpoilsTemplate}
use Rattle.coverage_server.specs.Represents.{Represents}
use Rattle.coverage_server.specs.Stages.{IsTypedText}
use Rattle.coverage_server.specs.Views.{ServerView, SessionView, session}
use Rattle.http_front.specs.declared.reply.Reply.{Reply}
use Rattle.http_front.specs.declared.reply.Reply.TheVariants.{Text, Csv, Refused}
use Rattle.coverage_server.specs.declared.error.AnswerError.{AnswerError}
use Rattle.coverage_server.specs.declared.error.AnswerError.TheVariants.{Named, NoMemory, DiskFault, NoRoom, Damaged}

-- A reply or a refusal as a step allows it. A disk fault is told only where the disk's count of failures rose, want of
-- room only where it is wanting, and damage only where a tile is in the way.
abbrev pub Answered : (Store → Reply → Store → Type 0) → Type 0 → Type 0 → ServerView → ServerView
    → Result Reply AnswerError → Type 0
Answered step lacks spoils old new (Ok reply) = IsTrue old.honest → step old.store reply new.store
Answered step lacks spoils old new (Err (Named refusal)) =
    IsTrue old.honest → step old.store (Refused (number_of refusal)) new.store
Answered step lacks spoils old new (Err NoMemory) = ⊤
Answered step lacks spoils old new (Err DiskFault) = Rose old.failures new.failures
Answered step lacks spoils old new (Err NoRoom) = IsTrue old.honest → lacks
Answered step lacks spoils old new (Err Damaged) = IsTrue old.honest → spoils

-- What an answer tells of the disk's failures: a fault only where their count rose, and any other answer leaves it as
-- it was.
abbrev pub TellsFailures : {T : Type 0} → Result T AnswerError → ServerView → ServerView → Type 0
TellsFailures result old new = Tells (IsErrOf result DiskFault) old.failures new.failures

-- the answers to requests on the coverages: an insertion, an update, the text of a query, a template
abbrev pub AnswersInsertion : Insertion → ServerView → ServerView → Result Reply AnswerError → Type 0
AnswersInsertion r old new =
    Answered (Inserts r.coverage r.intervals.items r.fields.items)
    (LacksRoomToInsert (asked_signature r) old.store (layout_of old)) ⊥ old new

abbrev pub AnswersUpdate : Update → ServerView → ServerView → Result Reply AnswerError → Type 0
AnswersUpdate r old new =
    Answered (Updates r.coverage r.field r.intervals.items (content_view r.content))
    (LacksRoomToUpdate r.coverage r.field r.intervals.items (content_view r.content) old.store (layout_of old))
    (SpoilsUpdate r.coverage r.field r.intervals.items old) old new

abbrev pub AnswersQuery : List ℕ → ServerView → ServerView → Result Reply AnswerError → Type 0
AnswersQuery text old new = Answered (Answers text) ⊥ (SpoilsText text old) old new

abbrev pub AnswersAsked : Template → ServerView → ServerView → Result Reply AnswerError → Type 0
AnswersAsked template old new = Answered (AnswersTemplate template) ⊥ (SpoilsTemplate template old) old new

-- a reply that is no refusal
abbrev pub IsAnswer : Reply → Type 0
IsAnswer (Text text) = ⊤
IsAnswer (Csv text) = ⊤
IsAnswer (Refused code) = ⊥

-- Each state that the server represented leads by a step to one that it represents.
abbrev pub Moves : (State → Reply → State → Type 0) → SessionView → Reply → SessionView → Type 0
Moves step old reply new =
    IsTrue old.coverages.honest → (s : State) → Represents old s → (t : State) × Represents new t × step s reply t

-- Each state that the server represented it represents still.
abbrev pub Stays : SessionView → SessionView → Type 0
Stays old new = IsTrue old.coverages.honest → (s : State) → Represents old s → Represents new s

-- A tile is in the way, in each state that the server represented.
abbrev pub Hinders : (State → Type 0) → SessionView → Type 0
Hinders spoils old = IsTrue old.coverages.honest → (s : State) → Represents old s → spoils s

-- A reply or a refusal as a step of the machine allows it. A failure, which is told as above, leaves the state as it
-- was.
abbrev pub AnsweredIn : (State → Reply → State → Type 0) → Type 0 → (State → Type 0) → SessionView → SessionView
    → Result Reply AnswerError → Type 0
AnsweredIn step lacks spoils old new (Ok reply) = Moves step old reply new
AnsweredIn step lacks spoils old new (Err (Named refusal)) = Moves step old (Refused (number_of refusal)) new
AnsweredIn step lacks spoils old new (Err NoMemory) = Stays old new
AnsweredIn step lacks spoils old new (Err DiskFault) =
    Rose old.coverages.failures new.coverages.failures × Stays old new
AnsweredIn step lacks spoils old new (Err NoRoom) = (IsTrue old.coverages.honest → lacks) × Stays old new
AnsweredIn step lacks spoils old new (Err Damaged) = Hinders spoils old × Stays old new

-- no tile is ever in the way
abbrev pub Never : State → Type 0
Never s = ⊥

-- the answer to a request, as the machine's step allows it
abbrev pub AnsweredAs : Asks → SessionView → SessionView → Result Reply AnswerError → Type 0
AnsweredAs asks old new =
    AnsweredIn (Serves asks) (LacksRoom asks old.coverages.store (layout_of old.coverages)) (Spoils asks old.coverages)
    old new

-- the answer to a request on jobs, by the coverages and the desk before and after it
abbrev pub AnswersJob : Asks → ServerView → DeskView → ServerView → DeskView → Result Reply AnswerError → Type 0
AnswersJob asks old desk new later = AnsweredAs asks (session old desk) (session new later)

-- the answer to the submission of each text that is this typed query
abbrev pub AnswersTree : TypedTree → ServerView → DeskView → ServerView → DeskView → Result Reply AnswerError → Type 0
AnswersTree q old desk new later result =
    (text : List ℕ) → IsTypedText old.store text q → AnswersJob (submit_query text) old desk new later result

-- what is held then, where it is answered
abbrev pub LaysTree : TypedTree → ServerView → Option ℕ → ServerView → Type 0
LaysTree q old next new = (text : List ℕ) → IsTypedText old.store text q → LaysQuery text old next new

-- On an honest disk the tiles lie as a request that is answered makes them lie, and each that was spelled is so.
abbrev pub LeavesTiles : Asks → Result Reply AnswerError → SessionView → SessionView → Type 0
LeavesTiles asks result old new =
    IsTrue old.coverages.honest
    → OnOk result (Lays asks old.coverages.store old.desk.next new.coverages.store (layout_of old.coverages)
    (layout_of new.coverages)) × KeepsSpelled old.coverages new.coverages
