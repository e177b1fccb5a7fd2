-- Columns as lists of outcomes.
use Rattle.std.specs.Prelude.{◌≡◌, ℕ, ◌<◌, ◌≤◌, ℤ, pos, ◌≤ℤ◌, List, [], ◌∷◌, map, length, take, replicate, slice_index_or, Vec, vec_capacity, Option, Some, None}
use Rattle.arr_core.specs.Limits.{max_tile}
use Rattle.wcps_text.specs.declared.operator.UnaryOperator.{UnaryOperator}
use Rattle.wcps_text.specs.declared.operator.BinaryOperator.{BinaryOperator}
use Rattle.wcps_mean.specs.declared.cell.PointFault.{PointFault}
use Rattle.wcps_mean.specs.declared.cell.Outcome.{Outcome}
use Rattle.wcps_mean.specs.declared.cell.Outcome.TheVariants.{Value, Fault}
use Rattle.wcps_mean.specs.Cells.{operate1, operate2}
use Rattle.tile_kernel.specs.declared.form.Form.{Form}
use Rattle.tile_kernel.specs.declared.form.Form.TheVariants.{Same, Values, Narrow, Mixed}

-- a place's outcome, by its value and its fault
abbrev pub outcome_of : ℤ → Option PointFault → Outcome
outcome_of z None = Value z
outcome_of z (Some f) = Fault f

abbrev pub outcomes_of : List ℤ → List (Option PointFault) → List Outcome
outcomes_of [] fs = []
outcomes_of (z ∷ zs) [] = []
outcomes_of (z ∷ zs) (f ∷ fs) = outcome_of z f ∷ outcomes_of zs fs

-- the outcomes at the first n places
abbrev pub seen : Form → ℕ → List ℤ → List (Option PointFault) → List ℤ → List Outcome
seen (Same o) n zs fs ws = replicate n o
seen Values n zs fs ws = map Value (take n zs)
seen Narrow n zs fs ws = map Value (take n ws)
seen Mixed n zs fs ws = outcomes_of (take n zs) (take n fs)

-- where the values are kept in 32 bits, there is one for each place
abbrev pub HasNarrow : Form → ℕ → List ℤ → Type 0
HasNarrow (Same o) n ws = Unit {0}
HasNarrow Values n ws = Unit {0}
HasNarrow Narrow n ws = n ≤ length ws
HasNarrow Mixed n ws = Unit {0}

-- a column has at most 4,096 places, and a value and a fault for each
pub record IsRoomy (form : Form) (n : ℕ) (zs : List ℤ) (fs : List (Option PointFault)) (ws : List ℤ) : Type 0 where
  pub few : n ≤ max_tile
  pub values : n ≤ length zs
  pub faults : n ≤ length fs
  pub narrow : HasNarrow form n ws

-- a list is as long as another one, and has as much room
pub record IsAsRoomy {T A : Type 0} (before after : Vec T A) : Type 0 where
  pub long : length after.items ≡ length before.items
  pub room : vec_capacity after ≡ vec_capacity before

-- the outcome at a place of a column
abbrev pub outcome_at : List Outcome → ℕ → Outcome
outcome_at column k = slice_index_or column k (Value (pos 0))

-- the cells of a column are so many values
abbrev pub HasValues : ℕ → (ℕ → ℤ) → List Outcome → Type 0
HasValues n value column = (length column ≡ n) × ((k : ℕ) → k < n → outcome_at column k ≡ Value (value k))

-- the operation at a place
abbrev pub each1 : UnaryOperator → List Outcome → ℕ → Outcome
each1 op column k = operate1 op (outcome_at column k)

abbrev pub each2 : BinaryOperator → List Outcome → List Outcome → ℕ → Outcome
each2 op left right k = operate2 op (outcome_at left k) (outcome_at right k)

-- with a value on the left
abbrev pub each_with : BinaryOperator → (ℕ → ℤ) → List Outcome → ℕ → Outcome
each_with op left right k = operate2 op (Value (left k)) (outcome_at right k)

-- an operation on the values at a place
abbrev pub exact_at : (ℤ → ℤ → Outcome) → (ℕ → ℤ) → (ℕ → ℤ) → ℕ → Outcome
exact_at exact left right k = exact (left k) (right k)

-- each of the first n outcomes is the value there
abbrev pub AreValues : ℕ → (ℕ → Outcome) → List ℤ → Type 0
AreValues n outcomes zs = (k : ℕ) → k < n → outcomes k ≡ Value (slice_index_or zs k (pos 0))

-- the same where a mark is not negative
abbrev pub AreValuesBy : ℤ → ℕ → (ℕ → Outcome) → List ℤ → Type 0
AreValuesBy mark n outcomes zs = pos 0 ≤ℤ mark → AreValues n outcomes zs

-- each of the first n outcomes is told by the value and the fault there
abbrev pub AreOutcomes : ℕ → (ℕ → Outcome) → List ℤ → List (Option PointFault) → Type 0
AreOutcomes n outcomes zs fs =
    (k : ℕ) → k < n → outcome_of (slice_index_or zs k (pos 0)) (slice_index_or fs k None) ≡ outcomes k

-- the operation at each place
abbrev pub operate_all : BinaryOperator → List Outcome → List Outcome → List Outcome
operate_all op [] rs = []
operate_all op (l ∷ ls) [] = []
operate_all op (l ∷ ls) (r ∷ rs) = operate2 op l r ∷ operate_all op ls rs
