-- Where a store is: over a file, or in memory.
use Rattle.std.specs.Prelude.{◌≡◌, ◌≢◌, ℕ, [], true, List, Result, Ok}
use Rattle.disk_face.specs.Disk.{Memory}
use Rattle.disk_face.specs.declared.Disk.{Ghosts}
use Rattle.stream_face.specs.Views.{SinkView}
use Rattle.coverage_server.specs.Serves.{Ends}
use Rattle.coverage_server.specs.Sessions.{IsSession}
use Rattle.coverage_server.specs.declared.session.SessionFault.{SessionFault}
use Rattle.rasterd.specs.Sessions.{EndsUpTo, status_of}
use Rattle.rasterd.specs.declared.place.Place.{Place}
use Rattle.rasterd.specs.declared.place.Place.TheVariants as place

-- what a disk in memory tells, by its type: it is honest
abbrev pub memory : Ghosts Memory
memory = record {
  content = λ d. d.content;
  synced = λ d. d.content;
  failures = λ d. d.failures;
  overreads = λ d. 0;
  honest = λ d. true;
}

-- a disk in memory without a byte, which holds the empty store, and of which no call has failed
abbrev pub empty_disk : Memory
empty_disk = record { content = []; failures = 0 }

-- so it is with what was opened
abbrev pub IsEmptyMemory : Result Place ℕ → Type 0
IsEmptyMemory result = result ≡ Ok (place.Memory empty_disk)

-- a session on such a disk ended with this status
abbrev pub EndsInMemory : List Ends → ℕ → Type 0
EndsInMemory ends status =
    (end : Result Memory (SessionFault Memory)) × IsSession memory empty_disk ends end × (status ≡ status_of end)

-- so did one over at most so many connections, where a socket was bound, with a line on standard error that says why
-- where the store was not opened or not closed
abbrev pub ListensInMemory : {E : Type 0} → ℕ → (E → SinkView) → E → E → ℕ → Type 0
ListensInMemory most view errors errors' status =
    status ≢ 5 → EndsUpTo most memory empty_disk view errors errors' status
