-- Cells that are told by their keys.
use Rattle.std.specs.Prelude.{◌≡◌, ◌↔◌, ℕ, ◌+◌, ◌-◌, ◌<◌, ◌≤◌, ℤ, pos, ◌+ℤ◌, ◌<ℤ◌, ◌≤ℤ◌, List, Contains, map, length, slice_index_or, Option, Some}
use Rattle.std.specs.Ordering.{int_cmp}
use Rattle.std.specs.List.Sorted.{IsStrictlySortedBy}
use Rattle.wcps_text.specs.declared.operator.BinaryOperator.TheVariants.{Equal}
use Rattle.wcps_mean.specs.declared.cell.Outcome.{Outcome}
use Rattle.wcps_mean.specs.declared.cell.Outcome.TheVariants.{Value}
use Rattle.wcps_mean.specs.Cells.{operate2}
use Rattle.wcps_mean.specs.Condensers.{values}
use Rattle.tile_kernel.specs.declared.accumulator.Accumulator.{Accumulator}
use Rattle.tile_kernel.specs.Columns.{HasValues}
use Rattle.tile_kernel.specs.Told.{Told, demanded_of, demanded_at}
use Rattle.tile_kernel.specs.Standing.{EachStands}
use Rattle.tile_kernel.specs.Condensing.{EachIsTold}

-- the condition that a key is this number, at each place
abbrev pub having : List Outcome → ℤ → List Outcome
having keys z = map (λ (o : Outcome). operate2 Equal o (Value z)) keys

-- the number at a place of a list
abbrev pub number_at : List ℤ → ℕ → ℤ
number_at numbers k = slice_index_or numbers k (pos 0)

-- what a cell tells the accumulator of the k-th number, by the cell's key
abbrev pub told_by_key : List ℤ → ℕ → Outcome → Outcome → ℕ → List Told
told_by_key numbers place key o k = demanded_of place (operate2 Equal key (Value (number_at numbers k))) o

-- what the cells of a column tell it, by the key of each
abbrev pub told_by_keys : List ℤ → List ℕ → List Outcome → List Outcome → ℕ → List Told
told_by_keys numbers places keys column k = demanded_at places (having keys (number_at numbers k)) column

-- condensers take in the cells of a column, each those with its number, at these places
abbrev pub TakeCells : {C : Type 0} → (C → List Told → Type 0) → List C → List C → List ℤ → List ℕ → List Outcome
    → List Outcome → Type 0
TakeCells stands before after numbers places keys column =
    EachIsTold stands before after (told_by_keys numbers places keys column)

-- accumulators stand for the cells of a column, each for those with its number
abbrev pub StandByKeys : List ℤ → List ℕ → List Outcome → List Outcome → List Accumulator → Type 0
StandByKeys numbers places keys column folds = EachStands folds (told_by_keys numbers places keys column)

-- condensers take in values, each those with its number, at these places
abbrev pub TakeIn : {C : Type 0} → (C → List Told → Type 0) → List C → List C → List ℤ → List ℕ → (ℕ → ℤ) → (ℕ → ℤ)
    → Type 0
TakeIn stands before after numbers places key value =
    (own column : List Outcome) → HasValues (length places) key own → HasValues (length places) value column
    → TakeCells stands before after numbers places own column

-- this is the place of a number in a list in which no other place has it, or there is none
abbrev pub IsPlaceOf : ℤ → List ℤ → Option ℕ → Type 0
IsPlaceOf z numbers place = (k : ℕ) → k < length numbers → (number_at numbers k ≡ z) ↔ (place ≡ Some k)

-- these are the values of a column
abbrev pub AreValuesOf : List Outcome → List ℤ → Type 0
AreValuesOf column numbers = (z : ℤ) → Contains (values column) z ↔ Contains numbers z

-- numbers are among so many from this one on
abbrev pub LieFrom : ℤ → ℕ → List ℤ → Type 0
LieFrom low span numbers = (k : ℕ) → k < length numbers → (low ≤ℤ number_at numbers k)
    × (number_at numbers k <ℤ (low +ℤ pos span))

-- A table of numbers over a range: for each number from `low` on one more than its place, or 0.
pub record IsTable (low : ℤ) (table : List ℕ) (numbers : List ℤ) : Type 0 where
  pub there : (k : ℕ) → k < length numbers
      → (i : ℕ) × (i < length table) × (number_at numbers k ≡ low +ℤ pos i) × (slice_index_or table i 0 ≡ k + 1)
  pub back : (i : ℕ) → i < length table → 0 < slice_index_or table i 0
      → (slice_index_or table i 0 ≤ length numbers) × (number_at numbers (slice_index_or table i 0 - 1) ≡ low +ℤ pos i)

-- Rising numbers, and a table of them, or an empty one.
pub record AreSlots (low : ℤ) (table : List ℕ) (numbers : List ℤ) : Type 0 where
  pub rising : IsStrictlySortedBy int_cmp numbers
  pub tabled : 0 < length table → IsTable low table numbers
