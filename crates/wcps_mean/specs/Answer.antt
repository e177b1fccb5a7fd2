-- The answer of a query: its items, or the first fault.
use Rattle.std.specs.Prelude.{ℕ, ℤ, min, cond, Bool, true, false, List, [], ◌∷◌, ◌++◌, map, length, Option, Some, None, Result, Ok, Err}
use Rattle.arr_core.specs.declared.cell.Cell.{Cell}
use Rattle.arr_core.specs.declared.cell.Cell.TheVariants as cells
use Rattle.arr_core.specs.declared.domain.Axis.{Axis}
use Rattle.arr_core.specs.Domains.{points, size_of}
pub use Rattle.wcps_types.specs.Shapes.{then_of}
use Rattle.wcps_types.specs.Typed.{Typed, FieldTree, ItemTree, CombinationTree, TypedTree}
use Rattle.wcps_mean.specs.declared.cell.PointFault.{PointFault}
use Rattle.wcps_mean.specs.declared.cell.Outcome.{Outcome}
use Rattle.wcps_mean.specs.declared.cell.Outcome.TheVariants.{Value, Fault}
use Rattle.wcps_mean.specs.declared.item.Item.{Item}
use Rattle.arr_core.specs.Cells.{truth_of}
use Rattle.wcps_mean.specs.Meaning.{val}

-- the value that an outcome gives, or its fault
abbrev pub given : {A : Type 0} → (ℤ → A) → Outcome → Result A PointFault
given f (Value z) = Ok (f z)
given f (Fault e) = Err e

-- all lists one after the other, or the first fault
abbrev pub joined : {A : Type 0} → List (Result (List A) PointFault) → Result (List A) PointFault
joined [] = Ok []
joined (r ∷ rs) = then_of r (λ xs. then_of (joined rs) (λ ys. Ok (xs ++ ys)))

-- a value of a field as a cell: a Boolean or an integer
abbrev pub cell_of : Bool → ℤ → Cell
cell_of true z = cells.Bool (truth_of z)
cell_of false z = cells.Int z

-- the cells of all fields at a point, in order, or the first fault
abbrev pub cells_at : (ℕ → ℕ → List ℤ → ℤ) → List FieldTree → List ℤ → Result (List Cell) PointFault
cells_at s fields p = joined (map (λ (f : FieldTree). given (λ z. cell_of f.boolean z ∷ []) (val s f.tree [] p)) fields)

-- the cells of an item: points in row-major order, the fields of a point in order; or the first fault
abbrev pub item_cells : (ℕ → ℕ → List ℤ → ℤ) → ItemTree → Result (List Cell) PointFault
item_cells s i = joined (map (cells_at s i.fields) (points i.domain))

-- how many points a run along the last axis has; 1 where there is no axis
abbrev pub line_of : List Axis → ℕ
line_of [] = 1
line_of (a ∷ []) = size_of a
line_of (a ∷ b ∷ axes) = line_of (b ∷ axes)

-- how many fields an item tells; no typed query comes near the bound
abbrev pub field_count : ℕ → ℕ
field_count n = min n 4294967295

-- the item of a combination, or the first fault
abbrev pub item_answer : (ℕ → ℕ → List ℤ → ℤ) → ItemTree → Result Item PointFault
item_answer s i = then_of (item_cells s i)
    (λ cells. Ok (record { line = line_of i.domain; fields = field_count (length i.fields); cells = cells }))

-- whether a combination gives an item: it has no condition, or its condition is true
abbrev pub chosen : (ℕ → ℕ → List ℤ → ℤ) → Option Typed → Result Bool PointFault
chosen s None = Ok true
chosen s (Some c) = given truth_of (val s c [] [])

-- the item of a combination, nothing where its condition is false, or the first fault
abbrev pub combination_answer : (ℕ → ℕ → List ℤ → ℤ) → CombinationTree → Result (List Item) PointFault
combination_answer s c = then_of (chosen s c.condition)
    (λ b. cond b (then_of (item_answer s c.item) (λ i. Ok (i ∷ []))) (Ok []))

-- the items of all combinations in order, or the first fault; s gives the cells
abbrev pub answer : (ℕ → ℕ → List ℤ → ℤ) → TypedTree → Result (List Item) PointFault
answer s q = joined (map (combination_answer s) q.combinations)
