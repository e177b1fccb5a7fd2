-- How the program's session ends.
use Rattle.std.specs.Prelude.{◌≡◌, ℕ, ◌≤◌, length, List, Option, Some, None, Result, Ok, Err, codes, ⊤}
use Rattle.disk_face.specs.declared.Disk.{Ghosts}
use Rattle.stream_face.specs.Views.{SinkView}
use Rattle.block_file.specs.Faults.{open_refusal, close_refusal}
use Rattle.coverage_server.specs.Serves.{Ends}
use Rattle.coverage_server.specs.Sessions.{AreServed, IsSession}
use Rattle.coverage_server.specs.Views.{SessionView}
use Rattle.coverage_server.specs.declared.session.SessionFault.{SessionFault}
use Rattle.coverage_server.specs.declared.session.SessionFault.TheVariants.{NotOpened, NotClosed}
use Rattle.rasterd.specs.Lines.{Says, fault_line}

-- the status of a session: 0 where its store was closed, 3 where it was not opened, and 4 where it was not closed
abbrev pub status_of : {D : Type 0} → Result D (SessionFault D) → ℕ
status_of (Ok after) = 0
status_of (Err (NotOpened left fault)) = 3
status_of (Err (NotClosed server fault)) = 4

-- where the store was not opened or not closed a line on standard error says why
abbrev pub SaysWhy : {D : Type 0} → SinkView → SinkView → Result D (SessionFault D) → Type 0
SaysWhy old new (Ok after) = ⊤
SaysWhy old new (Err (NotOpened left fault)) = Says old new (fault_line (codes "not opened") (open_refusal fault))
SaysWhy old new (Err (NotClosed server fault)) = Says old new (fault_line (codes "not closed") (close_refusal fault))

-- the disk that came back from a session: none where the store was not closed, since the server has it
abbrev pub disk_back : {D : Type 0} → Result D (SessionFault D) → Option D
disk_back (Ok after) = Some after
disk_back (Err (NotOpened left fault)) = Some left
disk_back (Err (NotClosed server fault)) = None

-- A session on a disk ended: with this status, with the disk where it came back, and with a line on standard error that
-- says why where the store was not opened or not closed.
pub record EndsAs {D E : Type 0} (g : Ghosts D) (disk : D) (ends : List Ends) (view : E → SinkView) (errors errors' : E)
    (outcome : ℕ × Option D) : Type 0 where
  pub end : Result D (SessionFault D)
  pub session : IsSession g disk ends end
  pub status : outcome.0 ≡ status_of end
  pub back : outcome.1 ≡ disk_back end
  pub line : SaysWhy (view errors) (view errors') end

-- serving at most so many connections, one after the other, refines the machine's
abbrev pub ServesUpTo : ℕ → SessionView → SessionView → Type 0
ServesUpTo most old new = (ends : List Ends) × (length ends ≤ most) × AreServed ends old new

-- a session on a disk, over at most so many connections, ended so
abbrev pub IsSessionUpTo : {D : Type 0} → ℕ → Ghosts D → D → Result D (SessionFault D) → Type 0
IsSessionUpTo most g disk result = (ends : List Ends) × (length ends ≤ most) × IsSession g disk ends result

-- so it ended with this status, and with a line on standard error that says why where the store was not opened or not
-- closed
abbrev pub EndsUpTo : {D E : Type 0} → ℕ → Ghosts D → D → (E → SinkView) → E → E → ℕ → Type 0
EndsUpTo {D = D} most g disk view errors errors' status =
    (ends : List Ends) × (length ends ≤ most)
    × (back : Option D) × EndsAs g disk ends view errors errors' (status, back)
