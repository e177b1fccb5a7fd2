-- What a report of the store says.
use Rattle.std.specs.Prelude.{◌≡◌, ℕ, ◌+◌, ◌-◌, ◌^◌, ◌≤◌, min, Result, Ok, Err}
use Rattle.wcps_mean.specs.declared.cells.CellError.{CellError}
use Rattle.wcps_mean.specs.declared.cells.CellError.TheVariants.{NoMemory, DiskFault, Damaged}

-- a count of failures rose, or stands at the last value of a `u64`; it never falls
abbrev pub Rose : ℕ → ℕ → Type 0
Rose old new = (old ≤ new) × (min (old + 1) (2 ^ 64 - 1) ≤ new)

-- A failed disk is told only where the count of failures rose or stands at its last value, and damage only where what
-- is kept is not intact. Each other report leaves the count as it was.
abbrev pub Tells : CellError → Type 0 → ℕ → ℕ → Type 0
Tells NoMemory intact old new = new ≡ old
Tells DiskFault intact old new = Rose old new
Tells Damaged intact old new = (intact → ⊥) × (new ≡ old)

-- a call that was done leaves the count as it was, and a refused one tells the truth
abbrev pub Reports : {A : Type 0} → Result A CellError → Type 0 → ℕ → ℕ → Type 0
Reports (Ok x) intact old new = new ≡ old
Reports (Err e) intact old new = Tells e intact old new
