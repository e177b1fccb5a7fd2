-- Readers and writers that give and take their bytes in pieces, of whose calls one fails.
use Rattle.std.specs.Prelude.{◌≡◌, ℕ, ◌==◌, ◌⊎◌, Bool, true, List, [], length, min, max, if◌then◌else◌}
use Rattle.std.specs.declared.io.ErrorKind.{ErrorKind}

-- What a reader has still to give: its bytes; how many of them come in the pieces up to the cut, none once it is
-- passed; how many a later piece has; the number of the call that fails, from 1 for the next one, and 0 for none;
-- whether each read behind the bytes fails; and the kind of these faults.
pub record Reading : Type 0 where
  pub bytes : List ℕ
  pub cut : ℕ
  pub step : ℕ
  pub due : ℕ
  pub kind : ErrorKind
  pub breaks : Bool

-- how many bytes the next piece has, where so many are left and fit
abbrev pub piece_of : ℕ → ℕ → ℕ
piece_of cut step = if cut == 0 then max step 1 else cut

-- how many bytes a read with so much room gives, unless it fails
abbrev pub read_count : Reading → ℕ → ℕ
read_count r room = min (min (length r.bytes) (piece_of r.cut r.step)) room

-- the next read fails
abbrev pub FailsToRead : Reading → Type 0
FailsToRead r = (r.due ≡ 1) ⊎ ((r.bytes ≡ []) × (r.breaks ≡ true))

-- What a writer has taken: its bytes, and how many of them were flushed; how many a piece has; how many more it takes;
-- the number of the call that fails, flushes too, from 1 for the next one, and 0 for none; and the kind of that fault.
pub record Writing : Type 0 where
  pub text : List ℕ
  pub flushed : ℕ
  pub step : ℕ
  pub room : ℕ
  pub due : ℕ
  pub kind : ErrorKind

-- how many of so many bytes a write takes, unless it fails
abbrev pub write_count : Writing → ℕ → ℕ
write_count w size = min (min size w.room) (max w.step 1)

-- the next write fails, whatever memory there is
abbrev pub FailsToWrite : Writing → Type 0
FailsToWrite w = (w.due ≡ 1) ⊎ (w.room ≡ 0)
