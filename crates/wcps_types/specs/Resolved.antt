-- What a query is found to be beside its text, before the two are put together.
use Rattle.std.specs.Prelude.{◌≡◌, ◌≤◌, List, length, map, true}
use Rattle.std.specs.List.{list_all}
use Rattle.wcps_text.specs.Tree.{QueryTree}
use Rattle.wcps_types.specs.declared.query.Resolved.{Resolved}
use Rattle.wcps_types.specs.Typed.{CombinationTree, TypedTree}
use Rattle.wcps_types.specs.Renamed.{combination_view}
use Rattle.wcps_types.specs.Cells.{result_cells, max_cells}
use Rattle.wcps_types.specs.Work.{query_work, max_work}
use Rattle.wcps_types.specs.Sharing.{makes, trees_of}
use Rattle.wcps_types.specs.WellTyped.{AreTyped}
use Rattle.wcps_types.specs.Kinds.{HaveKinds}

-- the combinations with their trees
abbrev pub combinations_of : QueryTree → Resolved → List CombinationTree
combinations_of q r = map (combination_view (trees_of r.coverages.items q r.variables.list.items r.makers.items))
    r.combinations.items

-- the coverages, and the combinations in order
abbrev pub resolved_view : QueryTree → Resolved → TypedTree
resolved_view q r = record { coverages = r.coverages.items; combinations = combinations_of q r }

-- what holds of each typed query; see `TypedQuery`
pub record IsSound (q : QueryTree) (r : Resolved) : Type 0 where
  pub made : list_all (makes r.coverages.items q r.variables.list.items) r.makers.items ≡ true
  pub typed : AreTyped r.coverages.items (combinations_of q r)
  pub kinds : HaveKinds r.coverages.items (combinations_of q r)
  pub some : 1 ≤ length r.combinations.items
  pub few_cells : result_cells (combinations_of q r) ≤ max_cells
  pub told : r.work ≡ query_work (combinations_of q r)
  pub little_work : r.work ≤ max_work
