-- Values that fit 32 bits.
use Rattle.std.specs.Prelude.{◌≡◌, ℕ, ◌<◌, ◌≤◌, ℤ, pos, List, length, slice_index_or, Bool, true, unsigned_abs, FitsSigned}
use Rattle.std.specs.Int.{w32}
use Rattle.wcps_mean.specs.declared.cell.Outcome.{Outcome}
use Rattle.wcps_mean.specs.declared.cell.Outcome.TheVariants.{Value}
use Rattle.tile_kernel.specs.Columns.{AreValues}

-- wherever an outcome is a value that fits 32 bits, it is this one
abbrev pub IsNarrowOf : Outcome → ℤ → Type 0
IsNarrowOf o z = (v : ℤ) → FitsSigned w32 v → o ≡ Value v → z ≡ v

-- at the first n places an operation on operands that fit 32 bits gives a value that fits them
abbrev pub AreNarrow : ℕ → (ℤ → ℤ → Outcome) → (ℕ → ℤ) → (ℕ → ℤ) → Type 0
AreNarrow n exact left right =
    (k : ℕ) → k < n → FitsSigned w32 (left k) → FitsSigned w32 (right k)
    → (v : ℤ) × FitsSigned w32 v × (exact (left k) (right k) ≡ Value v)

-- wherever one of the first n outcomes is a value that fits 32 bits, it stands there
abbrev pub AreNarrowOf : ℕ → (ℕ → Outcome) → List ℤ → Type 0
AreNarrowOf n outcomes zs = (k : ℕ) → k < n → IsNarrowOf (outcomes k) (slice_index_or zs k (pos 0))

-- each of the first n outcomes is a value whose magnitude is at most this
abbrev pub AreWithin : ℕ → ℕ → (ℕ → Outcome) → Type 0
AreWithin bound n outcomes = (k : ℕ) → k < n → (v : ℤ) × (unsigned_abs v ≤ bound) × (outcomes k ≡ Value v)

-- no magnitude of the first n values is above this
abbrev pub IsBound : ℕ → (ℕ → ℤ) → ℕ → Type 0
IsBound n value bound = (k : ℕ) → k < n → unsigned_abs (value k) ≤ bound

-- a list has lost no place; if this is told, its first n values are those of the outcomes
pub record IsWritten (told : Bool) (n : ℕ) (outcomes : ℕ → Outcome) (before after : List ℤ) : Type 0 where
  pub kept : length before ≤ length after
  pub room : told ≡ true → n ≤ length after
  pub values : told ≡ true → AreValues n outcomes after
