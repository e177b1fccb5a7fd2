-- Sessions: a disk is opened, connections are served one after the other, and the disk is closed.
use Rattle.std.specs.Prelude.{◌≡◌, ◌≢◌, ◌⊎◌, ℕ, ◌≤◌, IsTrue, List, [], ◌∷◌, All, Result, Ok, Err, ⊤}
use Rattle.arr_core.specs.Stores.{Store}
use Rattle.block_file.specs.Format.{IsHeader, HeaderTorn, KeepsHeader}
use Rattle.block_file.specs.declared.header.State.TheVariants.{Open}
use Rattle.disk_face.specs.Disk.{Rose, Tells}
use Rattle.disk_face.specs.declared.Disk.{Ghosts}
use Rattle.block_file.specs.declared.fault.OpenFault.{OpenFault}
use Rattle.block_file.specs.declared.fault.OpenFault.TheVariants as opening
use Rattle.block_file.specs.declared.fault.CloseFault.{CloseFault}
use Rattle.block_file.specs.declared.fault.CloseFault.TheVariants as closing
use Rattle.coverage_server.specs.declared.server.ConnectionEnd.{ConnectionEnd}
use Rattle.coverage_server.specs.declared.session.SessionFault.{SessionFault}
use Rattle.coverage_server.specs.declared.session.SessionFault.TheVariants.{NotOpened, NotClosed}
use Rattle.stream_face.specs.Views.{SourceView, SinkView}
use Rattle.raster_store.specs.Views.{Index, AreIntact}
use Rattle.coverage_server.specs.Damage.{IsIntactIn, IsIntactNamed, KeepsSpelled}
use Rattle.coverage_server.specs.Disk.{DiskView, IsOpenFile, Lists, ListsStore, HoldsStore, IsWant, IsNoStore, disk_view}
use Rattle.coverage_server.specs.Growing.{GrowsToClose}
use Rattle.coverage_server.specs.Runs.{Placed, begun_with, jobless, with_failures}
use Rattle.coverage_server.specs.Represents.{Places, Refines}
use Rattle.coverage_server.specs.Serves.{Ends, ServesConnection, TellsEnd, ends_of}
use Rattle.coverage_server.specs.Views.{ServerView, SessionView, IsSound, IsUnchanged, without_held, without_jobs}

-- A server that was opened from an honest disk: it has the coverages that the disk lists, intact where they are, and
-- its header, which alone has changed, tells an open file.
pub record IsOpenedFrom (content : List ℕ) (v : ServerView) : Type 0 where
  pub lists : Lists content v.store v.indexes
  pub sound : AreIntact content v.store v.indexes → IsSound v
  pub spelled : (name : List ℕ) → IsIntactIn content v.store v.indexes name → IsIntactNamed v name
  pub header : IsOpenFile v.content
  pub torn : HeaderTorn content v.content

-- What is left of a disk that was not opened, and why it was not. It is refused by the rules of opening, or for want of
-- memory, or because a call failed, which on an honest disk was no read past its end. Where none did it is as it was;
-- else the header block alone may have changed.
pub record IsNotOpened (fault : OpenFault) (old left : DiskView) : Type 0 where
  pub why : IsTrue old.honest → IsNoStore old.content fault
  pub want : IsTrue old.honest → (store : Store) → HoldsStore old.content store → IsWant fault
  pub disk_fault : fault ≡ opening.DiskFault → Rose old.failures left.failures
  pub others : fault ≢ opening.DiskFault → (left.content ≡ old.content) × (left.failures ≡ old.failures)
  pub torn : IsTrue old.honest → HeaderTorn old.content left.content
  pub honest : left.honest ≡ old.honest
  pub overreads : left.overreads ≡ old.overreads

-- so it is with a disk, by what its type tells
abbrev pub LeavesUnopened : {D : Type 0} → Ghosts D → D → OpenFault → D → Type 0
LeavesUnopened g disk fault left = IsNotOpened fault (disk_view g disk) (disk_view g left)

-- A disk to which a server was closed: it lists the server's coverages, intact where they were, and holds the store of
-- a sound server. No call of the close has failed.
pub record IsClosedTo (server : ServerView) (disk : DiskView) : Type 0 where
  pub lists : IsTrue server.honest → ListsStore disk.content server.store server.indexes
  pub intact : IsSound server → AreIntact disk.content server.store server.indexes
  pub spelled : IsTrue server.honest → (name : List ℕ) → IsIntactNamed server name
      → IsIntactIn disk.content server.store server.indexes name
  pub held : IsSound server → HoldsStore disk.content server.store
  pub grows : GrowsToClose server disk.content
  pub honest : disk.honest ≡ server.honest
  pub failures : disk.failures ≡ server.failures
  pub overreads : disk.overreads ≡ server.overreads

-- What is left of a server that was not closed, and why it was not: for want of memory, where the header still is the
-- one that it was, or because a call of the disk failed. It has its store, and may be closed again.
pub record IsNotClosed (fault : CloseFault) (old left : ServerView) : Type 0 where
  pub unchanged : IsUnchanged old left
  pub sound : IsSound old → IsSound left
  pub spelled : IsTrue old.honest → KeepsSpelled old left
  pub disk_fault : fault ≡ closing.DiskFault → Rose old.failures left.failures
  pub no_memory : fault ≡ closing.NoMemory → KeepsHeader old.content left.content × (left.failures ≡ old.failures)
  pub grows : GrowsToClose old left.content
  pub honest : left.honest ≡ old.honest
  pub no_fewer : old.failures ≤ left.failures
  pub overreads : left.overreads ≡ old.overreads

-- A server whose close was refused for memory, whose jobs were let go then, and whose second close was refused.
pub record IsRefusedTwice (fault : CloseFault) (old left : SessionView) : Type 0 where
  pub mid : SessionView
  pub first : IsNotClosed closing.NoMemory old.coverages mid.coverages
  pub desk : mid.desk ≡ old.desk
  pub second : IsNotClosed fault (without_held mid.coverages) left.coverages
  pub jobs : left.desk ≡ (without_jobs mid).desk

-- What is left of a server that was not closed, where a close that was refused for memory is made once more: a fault of
-- the disk leaves it with its jobs, and a second refusal without them.
abbrev pub IsLeft : CloseFault → SessionView → SessionView → Type 0
IsLeft fault old left =
    ((fault ≡ closing.DiskFault) × IsNotClosed fault old.coverages left.coverages × (left.desk ≡ old.desk))
    ⊎ IsRefusedTwice fault old left

-- what the reader and the writer of each connection told before the connections and after them
abbrev pub ends_all : {R W : Type 0} → (R → SourceView) → (W → SinkView) → List (R × W) → List (R × W) → List Ends
ends_all source sink [] news = []
ends_all source sink (old ∷ olds) [] = []
ends_all source sink (old ∷ olds) (new ∷ news) =
    ends_of source sink old.0 new.0 old.1 new.1 ∷ ends_all source sink olds news

-- Connections one after the other: each is served from the state that the one before left, so that the replies of all
-- are those of one run of the machine. Each has its end, by a fault exactly where one came.
abbrev pub ServesAll : List Ends → Placed → Placed → Type 0
ServesAll [] old new = new ≡ old
ServesAll (e ∷ ends) old new =
    (mid : Placed) × (end : ConnectionEnd) × TellsEnd e end × ServesConnection e old mid end × ServesAll ends mid new

-- serving connections one after the other refines the machine's
abbrev pub AreServed : List Ends → SessionView → SessionView → Type 0
AreServed ends old new = Refines (ServesAll ends) old new

-- A session that ended by a close: it began with the store that the disk listed, with any coverages of it that were
-- intact, and with the disk's count of failures, and the disk lists the store that it left, whose coverages are intact
-- that are told to be, and has its count. Where each listed tile was spelled it is so again: a disk that held a store
-- holds the next one.
abbrev pub ServesSession : List Ends → DiskView → DiskView → Type 0
ServesSession ends old new =
    IsTrue old.honest → (store : Store) (indexes : List (List Index)) → ListsStore old.content store indexes
    → (intact : List (List ℕ)) → All (IsIntactIn old.content store indexes) intact
    → (next : Placed) × ListsStore new.content next.state.store next.layout.indexes
    × All (IsIntactIn new.content next.state.store next.layout.indexes) next.intact
    × (AreIntact old.content store indexes → AreIntact new.content next.state.store next.layout.indexes)
    × (new.failures ≡ next.failures) × ServesAll ends (begun_with store indexes intact old.failures) next

-- a server represents a state, but for the count of failures
abbrev pub IsLeftAs : SessionView → Placed → Type 0
IsLeftAs server p = Places server (with_failures server.coverages.failures p)

-- A session that did not end by a close: the server represents the next state, or that without its jobs, which were let
-- go where memory was wanting, with the count of failures that the close left. That rose where a disk fault is told,
-- and else is as it was; and where memory was wanting the header still is that of an open file.
pub record ServesUnclosed (fault : CloseFault) (ends : List Ends) (old : DiskView) (server : SessionView) : Type 0 where
  pub served : IsTrue old.honest → (store : Store) (indexes : List (List Index)) → ListsStore old.content store indexes
      → (intact : List (List ℕ)) → All (IsIntactIn old.content store indexes) intact
      → (AreIntact old.content store indexes → IsSound server.coverages) × (next : Placed)
      × (IsLeftAs server next ⊎ IsLeftAs server (jobless next))
      × Tells (fault ≡ closing.DiskFault) next.failures server.coverages.failures
      × ServesAll ends (begun_with store indexes intact old.failures) next
  pub disk_fault : fault ≡ closing.DiskFault → Rose old.failures server.coverages.failures
  pub no_memory : fault ≡ closing.NoMemory → IsTrue old.honest → (blocks : ℕ)
      × IsHeader server.coverages.content Open blocks 0 0
  pub honest : server.coverages.honest ≡ old.honest
  pub no_fewer : old.failures ≤ server.coverages.failures
  pub overreads : server.coverages.overreads ≡ old.overreads

-- How a session on a disk ended: by a close; with the disk, where it was not opened; with the server, where it was not
-- closed.
abbrev pub IsSession : {D : Type 0} → Ghosts D → D → List Ends → Result D (SessionFault D) → Type 0
IsSession g disk ends (Ok after) = ServesSession ends (disk_view g disk) (disk_view g after)
IsSession g disk ends (Err (NotOpened left fault)) = LeavesUnopened g disk fault left
IsSession g disk ends (Err (NotClosed server fault)) = ServesUnclosed fault ends (disk_view g disk) server

-- A disk after a session that ended by a close: as honest as it was, with a count of failures that has not fallen, and,
-- where it is honest, read nowhere past its end.
pub record IsStillHonest (old new : DiskView) : Type 0 where
  pub honest : new.honest ≡ old.honest
  pub no_fewer : old.failures ≤ new.failures
  pub overreads : new.overreads ≡ old.overreads

-- so it is with a disk, by what its type tells
abbrev pub StaysHonest : {D : Type 0} → Ghosts D → D → D → Type 0
StaysHonest g disk after = IsStillHonest (disk_view g disk) (disk_view g after)

-- the disk was not opened
abbrev pub IsUnopened : {D : Type 0} → Result D (SessionFault D) → Type 0
IsUnopened (Ok after) = ⊥
IsUnopened (Err (NotOpened left fault)) = ⊤
IsUnopened (Err (NotClosed server fault)) = ⊥

-- sessions that were closed, one after the other on one disk: each is opened as the one before left it
abbrev pub Sessions : List (List Ends) → DiskView → DiskView → Type 0
Sessions [] old new = new ≡ old
Sessions (ends ∷ sessions) old new =
    (mid : DiskView) × ServesSession ends old mid × (mid.honest ≡ old.honest) × Sessions sessions mid new

-- What one machine does in sessions one after the other: each begins with the store that the one before left, as its
-- tiles lie, with the coverages that are intact, with the count of failures, and without jobs.
abbrev pub ServesSessions : List (List Ends) → Store → List (List Index) → List (List ℕ) → ℕ → Placed → Type 0
ServesSessions [] store indexes intact failures last = last ≡ begun_with store indexes intact failures
ServesSessions (ends ∷ sessions) store indexes intact failures last =
    (next : Placed) × ServesAll ends (begun_with store indexes intact failures) next
    × ServesSessions sessions next.state.store next.layout.indexes next.intact next.failures last

-- Sessions compose: all of them together are what one machine does, from a disk that listed a store to one that lists
-- the next, and from one that held a store to one that holds it. A disk without a byte holds the store without
-- coverages.
pub record Composes : Type 0 where
  pub all : (sessions : List (List Ends)) (old new : DiskView) → Sessions sessions old new → IsTrue old.honest
      → (store : Store) (indexes : List (List Index)) → ListsStore old.content store indexes
      → (intact : List (List ℕ)) → All (IsIntactIn old.content store indexes) intact
      → (last : Placed) × ListsStore new.content last.state.store last.layout.indexes
      × All (IsIntactIn new.content last.state.store last.layout.indexes) last.intact
      × (AreIntact old.content store indexes → AreIntact new.content last.state.store last.layout.indexes)
      × (new.failures ≡ last.failures) × ServesSessions sessions store indexes intact old.failures last
  pub begin : HoldsStore [] []
