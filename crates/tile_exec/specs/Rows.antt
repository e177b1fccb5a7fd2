-- What columns tell of a point.
use Rattle.std.specs.Prelude.{ℕ, ◌+◌, ◌*◌, ◌<◌, ℤ, Bool, List, [], ◌∷◌, map, length, slice_index_or}
use Rattle.std.specs.List.{All, flat_map, enumerate_from, range_with_len}
use Rattle.arr_core.specs.declared.cell.Cell.{Cell}
use Rattle.wcps_mean.specs.declared.cell.Outcome.{Outcome}
use Rattle.wcps_mean.specs.declared.cell.Outcome.TheVariants.{Value}
use Rattle.wcps_mean.specs.Answer.{cell_of}
use Rattle.plan_ir.specs.Plans.{FieldBody}
use Rattle.tile_kernel.specs.Columns.{outcome_at}
use Rattle.tile_kernel.specs.Told.{Told}
use Rattle.tile_exec.specs.Items.{value_of}

-- the outcome of each column at a place
abbrev pub row_at : List (List Outcome) → ℕ → List Outcome
row_at columns k = map (λ (c : List Outcome). outcome_at c k) columns

-- which of some fields are Boolean
abbrev pub booleans_of : List FieldBody → List Bool
booleans_of fields = map (λ (f : FieldBody). f.boolean) fields

-- the cells of a point's fields, with their places from n on
abbrev pub cells_from : ℕ → List Bool → List Outcome → List (ℕ × Cell)
cells_from n [] os = []
cells_from n (boolean ∷ booleans) [] = []
cells_from n (boolean ∷ booleans) (o ∷ os) = (n, cell_of boolean (value_of o)) ∷ cells_from (n + 1) booleans os

-- the cells of the fields at a place of their columns
abbrev pub cells_at : ℕ → List Bool → List (List Outcome) → ℕ → List (ℕ × Cell)
cells_at n booleans columns k = cells_from n booleans (row_at columns k)

-- each cell's place is below n
abbrev pub LieBelow : ℕ → List (ℕ × Cell) → Type 0
LieBelow n cells = All (λ (c : ℕ × Cell). c.0 < n) cells

-- the place of a point's first cell, by the point's place in the columns; ranks are the places of the points
abbrev pub first_place : List ℕ → ℕ → ℕ → ℕ
first_place ranks width k = slice_index_or ranks k 0 * width

-- the cells of the first n points
abbrev pub cells_told : List ℕ → List Bool → List (List Outcome) → ℕ → List (ℕ × Cell)
cells_told ranks booleans columns n =
    flat_map (λ k. cells_from (first_place ranks (length booleans) k) booleans (row_at columns k)) (range_with_len 0 n)

-- the outcomes of the first n points
abbrev pub rows_told : List ℕ → ℕ → List (List Outcome) → ℕ → List Told
rows_told ranks width columns n =
    flat_map (λ k. enumerate_from (first_place ranks width k) (row_at columns k)) (range_with_len 0 n)

-- the cells of all points, and their outcomes
abbrev pub all_cells_told : List ℕ → List Bool → List (List Outcome) → List (ℕ × Cell)
all_cells_told ranks booleans columns = cells_told ranks booleans columns (length ranks)

-- the cells of all points of one column of values
abbrev pub values_told : List ℕ → Bool → List ℤ → List (ℕ × Cell)
values_told ranks boolean zs = all_cells_told ranks (boolean ∷ []) (map Value zs ∷ [])

abbrev pub all_rows_told : List ℕ → ℕ → List (List Outcome) → List Told
all_rows_told ranks width columns = rows_told ranks width columns (length ranks)
