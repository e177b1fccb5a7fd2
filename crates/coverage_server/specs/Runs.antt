-- Runs of the machine. Beside its state a run carries where the tiles lie, so that want of room is told only where a
-- request asks for more blocks than are free; which coverages are intact, so that damage is told only of others; and
-- how many calls of the disk have failed, so that a disk fault is told where one failed, and only there.
use Rattle.std.specs.Prelude.{◌≡◌, ◌⊎◌, ℕ, nat_eq, nat_lt, cond, List, [], ◌∷◌, ◌++◌, map, All, Contains, Option, Result, Ok, Err, IsSomeAnd}
use Rattle.std.specs.List.{filter}
use Rattle.arr_core.specs.declared.refusal.Refusal.{Refusal}
use Rattle.arr_core.specs.declared.refusal.Refusal.TheVariants.{Damaged, DiskFault, NoMemory, NoRoom}
use Rattle.arr_core.specs.declared.signature.Signature.{Signature}
use Rattle.arr_core.specs.Stores.{Coverage, Store}
use Rattle.disk_face.specs.Disk.{Rose}
use Rattle.http_front.specs.Replies.{reply_bytes}
use Rattle.http_front.specs.Stream.{Item}
use Rattle.http_front.specs.declared.reply.Reply.{Reply}
use Rattle.http_front.specs.declared.reply.Reply.TheVariants.{Text, Csv, Refused}
use Rattle.kvp_front.specs.declared.request.RequestError.{RequestError}
use Rattle.kvp_front.specs.Requests.{Asks, insert_coverage, update_coverage, delete_coverage, list_coverages, describe_coverage, process_coverages, submit_query, step_job, fetch_job, cancel_job, expand_template, process_template, spelled, refusal_of}
use Rattle.raster_store.specs.Calls.{AreWhole}
use Rattle.raster_store.specs.Snapshots.{held_for}
use Rattle.raster_store.specs.Views.{Index, SnapshotView}
use Rattle.wcps_types.specs.Typed.{TypedTree}
use Rattle.coverage_server.specs.Asking.{TextTyped}
use Rattle.coverage_server.specs.Layouts.{Layout, LaysBy}
use Rattle.coverage_server.specs.Machine.{Job, State, Serves, Refuses, begun}
use Rattle.coverage_server.specs.Room.{LacksRoom}
use Rattle.coverage_server.specs.Templates.{expansion}

-- The state, where its tiles lie, the names of coverages that are intact, each of whose tiles is spelled: those of the
-- store, and for each job that coverages are held for, by its number, those that were when it came; and the disk's
-- count of failures.
pub record Placed : Type 0 where
  pub state : State
  pub layout : Layout
  pub intact : List (List ℕ)
  pub held : List (ℕ × List (List ℕ))
  pub failures : ℕ

-- a session begins with a store as it lies, and nothing is held for jobs
abbrev pub begun_with : Store → List (List Index) → List (List ℕ) → ℕ → Placed
begun_with store indexes intact failures = record {
  state = begun store;
  layout = record { indexes = indexes; held = [] };
  intact = intact;
  held = [];
  failures = failures;
}

-- the jobs were let go, and nothing is held for one
abbrev pub jobless : Placed → Placed
jobless p = record {
  state = record { store = p.state.store; jobs = []; next = p.state.next };
  layout = record { indexes = p.layout.indexes; held = [] };
  intact = p.intact;
  held = [];
  failures = p.failures;
}

-- the same with another count of failures
abbrev pub with_failures : ℕ → Placed → Placed
with_failures failures p = record p { failures = failures }

-- the numbers of the jobs that have units left, in their order
abbrev pub reading : List Job → List ℕ
reading jobs = map (λ (j : Job). j.number) (filter (λ (j : Job). nat_lt 0 j.left) jobs)

-- Each coverage has an index for each field, which lists tiles of its domain; coverages are held for exactly the jobs
-- that have units left, and for each of these there are names.
pub record IsPlaced (p : Placed) : Type 0 where
  pub whole : AreWhole p.state.store p.layout.indexes
  pub jobs : map (λ (x : SnapshotView). x.job) p.layout.held ≡ reading p.state.jobs
  pub held : map (λ (m : ℕ × List (List ℕ)). m.0) p.held ≡ map (λ (x : SnapshotView). x.job) p.layout.held

-- which coverages are intact after a request that is answered: those that were, and one that came
abbrev pub intact_with : Asks → List (List ℕ) → List (List ℕ)
intact_with (insert_coverage name intervals fields) intact = name ∷ intact
intact_with (update_coverage name field intervals cells) intact = intact
intact_with (delete_coverage name) intact = intact
intact_with list_coverages intact = intact
intact_with (describe_coverage name) intact = intact
intact_with (process_coverages query) intact = intact
intact_with (submit_query query) intact = intact
intact_with (step_job number units) intact = intact
intact_with (fetch_job number) intact = intact
intact_with (cancel_job number) intact = intact
intact_with (expand_template template) intact = intact
intact_with (process_template template) intact = intact

-- after a refusal those that were
abbrev pub intact_after : Asks → Reply → List (List ℕ) → List (List ℕ)
intact_after asks (Text text) intact = intact_with asks intact
intact_after asks (Csv text) intact = intact_with asks intact
intact_after asks (Refused code) intact = intact

-- the names for a number, and what is left without it
abbrev pub names_for : ℕ → List (ℕ × List (List ℕ)) → List (List ℕ)
names_for number [] = []
names_for number (m ∷ held) = cond (nat_eq m.0 number) m.1 (names_for number held)

abbrev pub without_number : ℕ → List (ℕ × List (List ℕ)) → List (ℕ × List (List ℕ))
without_number number [] = []
without_number number (m ∷ held) = cond (nat_eq m.0 number) held (m ∷ without_number number held)

-- What a request that is answered makes of the names for jobs, where `next` was the next number: a job that comes gets
-- the coverages that are intact; where what is held for one is let go, so are they.
abbrev pub HoldsNames : Asks → Option ℕ → List (List ℕ) → List (ℕ × List (List ℕ)) → List (ℕ × List (List ℕ)) → Type 0
HoldsNames (insert_coverage name intervals fields) next intact old new = new ≡ old
HoldsNames (update_coverage name field intervals cells) next intact old new = new ≡ old
HoldsNames (delete_coverage name) next intact old new = new ≡ old
HoldsNames list_coverages next intact old new = new ≡ old
HoldsNames (describe_coverage name) next intact old new = new ≡ old
HoldsNames (process_coverages query) next intact old new = new ≡ old
HoldsNames (submit_query query) next intact old new = IsSomeAnd next (λ (n : ℕ). new ≡ old ++ (n, intact) ∷ [])
HoldsNames (step_job number units) next intact old new = (new ≡ old) ⊎ (new ≡ without_number number old)
HoldsNames (fetch_job number) next intact old new = new ≡ old
HoldsNames (cancel_job number) next intact old new = (new ≡ old) ⊎ (new ≡ without_number number old)
HoldsNames (expand_template template) next intact old new = new ≡ old
HoldsNames (process_template template) next intact old new = new ≡ old

-- a refusal leaves them as they were
abbrev pub HoldsNamesBy : Asks → Reply → Option ℕ → List (List ℕ) → List (ℕ × List (List ℕ))
    → List (ℕ × List (List ℕ)) → Type 0
HoldsNamesBy asks (Text text) next intact old new = HoldsNames asks next intact old new
HoldsNamesBy asks (Csv text) next intact old new = HoldsNames asks next intact old new
HoldsNamesBy asks (Refused code) next intact old new = new ≡ old

-- what the machine does, and what becomes of the layout and of the coverages that are intact; no call of the disk
-- failed
abbrev pub ServesPlaced : Asks → Placed → Reply → Placed → Type 0
ServesPlaced asks old reply new =
    Serves asks old.state reply new.state
    × LaysBy asks reply old.state.store old.state.next new.state.store old.layout new.layout
    × (new.intact ≡ intact_after asks reply old.intact)
    × HoldsNamesBy asks reply old.state.next old.intact old.held new.held × IsPlaced new
    × (new.failures ≡ old.failures)

-- the request asks for more blocks than are free
abbrev pub LacksRoomAt : Asks → Placed → Type 0
LacksRoomAt asks p = LacksRoom asks p.state.store p.layout

-- the text is a query, and names a coverage that is not known to be intact
abbrev pub NamesDamaged : List ℕ → Placed → Type 0
NamesDamaged text p =
    (q : TypedTree) × TextTyped p.state.store text (Ok q)
    × (All (λ (s : Signature). Contains p.intact s.name) q.coverages → ⊥)

-- A damaged tile may be in the way of a request: of an update or a query that names a coverage which is not known to be
-- intact; of a step of a job where such a coverage is held for it; of no other request.
abbrev pub MayBeDamaged : Asks → Placed → Type 0
MayBeDamaged (insert_coverage name intervals fields) p = ⊥
MayBeDamaged (update_coverage name field intervals cells) p = Contains p.intact name → ⊥
MayBeDamaged (delete_coverage name) p = ⊥
MayBeDamaged list_coverages p = ⊥
MayBeDamaged (describe_coverage name) p = ⊥
MayBeDamaged (process_coverages query) p = NamesDamaged query p
MayBeDamaged (submit_query query) p = ⊥
MayBeDamaged (step_job number units) p =
    IsSomeAnd (held_for number p.layout.held)
    (λ (x : SnapshotView). All (λ (c : Coverage). Contains (names_for number p.held) c.name) x.coverages → ⊥)
MayBeDamaged (fetch_job number) p = ⊥
MayBeDamaged (cancel_job number) p = ⊥
MayBeDamaged (expand_template template) p = ⊥
MayBeDamaged (process_template template) p =
    (text : List ℕ) × (expansion template p.state.store ≡ Ok text) × NamesDamaged text p

-- Want of memory, a disk fault or want of room, which change nothing else. A disk fault is told only where the count of
-- failures rose, or stands at its last value; the others leave it, and want of room is told only where it is wanting.
abbrev pub Fails : Type 0 → Placed → Reply → Placed → Type 0
Fails wanting old reply new =
    Refuses NoMemory old reply new
    ⊎ (Rose old.failures new.failures × Refuses DiskFault (with_failures new.failures old) reply new)
    ⊎ (wanting × Refuses NoRoom old reply new)

-- A step: in place of any reply a failure may be told, want of room only where the request asks for more blocks than
-- are free, and damage only where it may be in the way of the request, with the state and the layout unchanged.
abbrev pub Step : Asks → Placed → Reply → Placed → Type 0
Step asks old reply new =
    ServesPlaced asks old reply new ⊎ Fails (LacksRoomAt asks old) old reply new
    ⊎ (MayBeDamaged asks old × Refuses Damaged old reply new)

-- the step of what the pairs of a message spell, or of their refusal
abbrev pub SpelledStep : Result Asks RequestError → Placed → Reply → Placed → Type 0
SpelledStep (Ok asks) old reply new = Step asks old reply new
SpelledStep (Err e) old reply new = Refuses (refusal_of e) old reply new ⊎ Refuses NoMemory old reply new

-- the step of a message: its pairs are read, or it is refused
abbrev pub MessageStep : Placed → Result (List ℕ) Refusal → Reply → Placed → Type 0
MessageStep old (Ok pairs) reply new = SpelledStep (spelled pairs) old reply new
MessageStep old (Err refusal) reply new = Refuses refusal old reply new

-- The messages lead from one state to the other, and these are the bytes of the reply to each. A disk fault is among
-- them where a call of the disk failed for that message, and only there; damage only where it may be in the way, and
-- want of room only where it is wanting.
abbrev pub Run : Placed → List Item → List (List ℕ) → Placed → Type 0
Run old [] [] new = new ≡ old
Run old (item ∷ items) (bytes ∷ replies) new =
    (mid : Placed) × (reply : Reply) × MessageStep old item.asked reply mid
    × (bytes ≡ reply_bytes item.last item.bare reply) × Run mid items replies new
Run old [] (bytes ∷ replies) new = ⊥
Run old (item ∷ items) [] new = ⊥
