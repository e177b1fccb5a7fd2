-- What the program says of errors.
use Rattle.std.specs.Prelude.{◌≡◌, ℕ, Bool, true, List, ◌++◌, codes, decimal}
use Rattle.arr_core.specs.declared.refusal.Refusal.{Refusal}
use Rattle.arr_core.specs.Refusals.{name_of, number_of}
use Rattle.stream_face.specs.Faults.{Sent}
use Rattle.stream_face.specs.Views.{SinkView}
use Rattle.stream_face.specs.Waiting.{IsFlushed}

-- why a store was not opened or not closed: the number of the refusal and its name, as `not opened: 94 NotAStore`
abbrev pub fault_line : List ℕ → Refusal → List ℕ
fault_line what refusal = what ++ codes ": " ++ decimal (number_of refusal) ++ codes " " ++ name_of refusal ++ codes
    "\n"

-- what the words after the program's name may be, where they ask nothing
abbrev pub usage : List ℕ
usage = codes "usage: rasterd FILE run or rasterd FILE listen PORT COUNT\n"

-- that no socket was bound
abbrev pub no_socket : List ℕ
no_socket = codes "no socket\n"

-- the line went out and no byte of it waits, or a first part of it went out up to a fault
abbrev pub Says : SinkView → SinkView → List ℕ → Type 0
Says old new line = (whole : Bool) × Sent old new whole line × (whole ≡ true → IsFlushed new.waiting)

-- behind what went out since any moment went a text, or a first part of both up to a fault
abbrev pub SaysMore : SinkView → SinkView → Bool → Bool → List ℕ → Type 0
SaysMore old new before now text =
    (first : SinkView) (said : List ℕ) → Sent first old before said → Sent first new now (said ++ text)
