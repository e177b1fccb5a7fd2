-- The statuses of the program, each with what it says on standard error.
use Rattle.std.specs.Prelude.{◌≡◌, ◌≢◌, ◌⊎◌, ℕ, List, codes}
use Rattle.std.specs.declared.io.ErrorKind.{ErrorKind}
use Rattle.std.specs.declared.io.ErrorKind.TheVariants.{OutOfMemory}
use Rattle.arr_core.specs.declared.refusal.Refusal.{Refusal}
use Rattle.arr_core.specs.declared.refusal.Refusal.TheVariants.{NoMemory}
use Rattle.stream_face.specs.Views.{SinkView}
use Rattle.rasterd.specs.Commands.{Asks, AsksNothing}
use Rattle.rasterd.specs.Lines.{Says, fault_line, no_socket, usage}
use Rattle.rasterd.specs.declared.commands.Command.{Command}
use Rattle.rasterd.specs.declared.commands.Command.TheVariants.{Run, Listen}

-- the words ask nothing
abbrev pub ReportsUsage : ℕ → SinkView → SinkView → Type 0
ReportsUsage status old new = (status ≡ 2) × Says old new usage

-- the store was not opened, for a reason that the line tells
abbrev pub ReportsUnopened : Refusal → ℕ → SinkView → SinkView → Type 0
ReportsUnopened refusal status old new = (status ≡ 3) × Says old new (fault_line (codes "not opened") refusal)

-- the store was not closed, for a reason that the line tells
abbrev pub ReportsUnclosed : Refusal → ℕ → SinkView → SinkView → Type 0
ReportsUnclosed refusal status old new = (status ≡ 4) × Says old new (fault_line (codes "not closed") refusal)

-- no socket was bound
abbrev pub ReportsNoSocket : ℕ → SinkView → SinkView → Type 0
ReportsNoSocket status old new = (status ≡ 5) × Says old new no_socket

-- a store was closed, and nothing is said; or it was not opened, or not closed
abbrev pub ReportsStore : ℕ → SinkView → SinkView → Type 0
ReportsStore status old new =
    ((status ≡ 0) × (new ≡ old))
    ⊎ ((refusal : Refusal) × ReportsUnopened refusal status old new)
    ⊎ ((refusal : Refusal) × ReportsUnclosed refusal status old new)

-- no socket was bound, or what became of the store
abbrev pub ReportsListening : ℕ → SinkView → SinkView → Type 0
ReportsListening status old new = ReportsNoSocket status old new ⊎ ReportsStore status old new

-- what a command may end with
abbrev pub ReportsCommand : Command → ℕ → SinkView → SinkView → Type 0
ReportsCommand (Run file) status old new = ReportsStore status old new
ReportsCommand (Listen file port count) status old new = ReportsListening status old new

-- what words end with: where they ask nothing, and where they ask a command
pub record ReportsWords (words : List (List ℕ)) (status : ℕ) (old new : SinkView) : Type 0 where
  pub nothing : AsksNothing words → ReportsUsage status old new
  pub asked : (c : Command) → Asks words c → ReportsCommand c status old new

-- The words could not be read, by the kind of the error: where memory is wanting the store is not opened, and else one of
-- them is not UTF-8, which asks nothing.
pub record ReportsUnread (kind : ErrorKind) (status : ℕ) (old new : SinkView) : Type 0 where
  pub memory : kind ≡ OutOfMemory → ReportsUnopened NoMemory status old new
  pub others : kind ≢ OutOfMemory → ReportsUsage status old new
