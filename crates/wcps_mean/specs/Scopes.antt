-- Outcomes and cells in a scope.
use Rattle.std.specs.Prelude.{◌≡◌, ℕ, ℤ, List, drop, insert, Result}
use Rattle.arr_core.specs.declared.cell.Cell.{Cell}
use Rattle.wcps_types.specs.declared.typed.TypedItem.{TypedItem}
use Rattle.wcps_types.specs.declared.typed.Tree.{Tree}
use Rattle.wcps_types.specs.declared.typed_query.Combination.{Combination}
use Rattle.wcps_types.specs.declared.typed_query.TypedQuery.{TypedQuery}
use Rattle.wcps_types.specs.Typed.{Typed, ItemTree, CombinationTree, item_view, tree_view}
use Rattle.wcps_types.specs.Renamed.{renamed, renamed_item, renamed_combination, combination_view}
use Rattle.wcps_types.specs.TypedQueries.{trees_in}
use Rattle.wcps_mean.specs.declared.scope.Scope.{Scope}
use Rattle.wcps_mean.specs.declared.cell.Outcome.{Outcome}
use Rattle.wcps_mean.specs.declared.cell.PointFault.{PointFault}
use Rattle.wcps_mean.specs.declared.item.Item.{Item}
use Rattle.wcps_mean.specs.Meaning.{val}
use Rattle.wcps_mean.specs.Answer.{cells_at, combination_answer}
use Rattle.wcps_mean.specs.Reading.{CellsOf}

-- the point in scope
abbrev pub point_in : Scope → List ℤ
point_in scope = drop scope.base scope.points.items

-- an evaluation has left the scope as it was
pub record IsSame (old new : Scope) : Type 0 where
  pub coverages : new.coverages.now ≡ old.coverages.now
  pub iterators : new.iterators.items ≡ old.iterators.items
  pub points : new.points.items ≡ old.points.items
  pub base : new.base ≡ old.base

-- the outcome of a tree in scope, for cells
abbrev pub outcome_in : Scope → Typed → CellsOf → Outcome
outcome_in scope t s = val s (renamed scope.coverages.now t) scope.iterators.items (point_in scope)

-- the same where a coordinate is put into the point
abbrev pub outcome_with : Scope → Typed → ℕ → ℤ → CellsOf → Outcome
outcome_with scope t axis z s =
    val s (renamed scope.coverages.now t) scope.iterators.items (insert (point_in scope) axis z)

-- a typed tree and an item over coverages
abbrev pub tree_over : List ℕ → Tree → CombinationTree
tree_over places tree = renamed_combination places (tree_view tree)

abbrev pub item_over : List ℕ → TypedItem → ItemTree
item_over places item = renamed_item places (item_view item)

-- the cells of an item at the point in scope, or the first fault
abbrev pub cells_in : Scope → TypedItem → CellsOf → Result (List Cell) PointFault
cells_in scope item s = cells_at s (item_over scope.coverages.now item).fields (point_in scope)

-- the item of a tree over coverages, nothing where its condition is false, or the first fault
abbrev pub answer_over : List ℕ → Tree → CellsOf → Result (List Item) PointFault
answer_over places tree s = combination_answer s (tree_over places tree)

-- the same of a combination of a query
abbrev pub answer_of : TypedQuery → Combination → CellsOf → Result (List Item) PointFault
answer_of query combination s = combination_answer s (combination_view (trees_in query) combination)
